-- `run_loop::stretch` meets its contract: each turn of the loop is one step of `run_from`, and each way out is the end of a stretch.
-- number of the code; the unit passed its check; the state is sound, and look is what is seen of it; the data has the length that it had, which is the
-- unit's. The measure: the allowance left. Where a loop is opened or closed, the invariant lies too far back to be searched for, and is named; so are
-- the loop's own test and that of the allowance.
-- Assumes nothing.
use borrow.Author.Rules.{rules}
use Rattle.run_loop.proofs.Loop.{passed_laws, turn_ways, turn_on, turn_sounds, still_seen, entered_loops, closed_loops, turn_call, turn_return, turn_enter, turn_leave, sound_calls, sound_loops, passed_place, passed_applied}
use Rattle.run_loop.proofs.stretch.Goals as goal

pub look-look-requires : goal.look-look-requires
look-look-requires c = search sound_loops depth 3

pub returns-then-left-eq0 : goal.returns-then-left-eq0
returns-then-left-eq0 c = search turn_ways depth 3

pub turn_at-answer-requires-clause-sound_dialect : goal.turn_at-answer-requires-clause-sound_dialect
turn_at-answer-requires-clause-sound_dialect c = search passed_laws depth 3

pub turn_at-answer-requires-clause-sound_code : goal.turn_at-answer-requires-clause-sound_code
turn_at-answer-requires-clause-sound_code c = search passed_laws depth 3

pub turn_at-answer-requires-clause-look_sound : goal.turn_at-answer-requires-clause-look_sound
turn_at-answer-requires-clause-look_sound c = search passed_laws depth 3

pub returns-in-Err : goal.returns-in-Err
returns-in-Err c = let l = c.loop-s in search (turn_ways, l) depth 3

pub store-requires-clause-sound_dialect : goal.store-requires-clause-sound_dialect
store-requires-clause-sound_dialect c = search passed_laws depth 3

pub store-requires-clause-room : goal.store-requires-clause-room
store-requires-clause-room c = search passed_laws depth 3

pub advance-s-requires : goal.advance-s-requires
advance-s-requires c = search passed_place depth 3

pub loop-s-preserved-in-Next : goal.loop-s-preserved-in-Next
loop-s-preserved-in-Next c = (search turn_on depth 4, search rules, search rules, search rules, search rules, search turn_sounds depth 4, search still_seen depth 3, search passed_applied depth 4, search passed_applied depth 4)

pub loop-s-preserved-in-Goto : goal.loop-s-preserved-in-Goto
loop-s-preserved-in-Goto c = (search turn_on depth 4, search rules, search rules, search rules, search rules, search turn_sounds depth 4, search still_seen depth 3, search passed_applied depth 4, search passed_applied depth 4)

pub call-s-requires : goal.call-s-requires
call-s-requires c = (search passed_place depth 3, search turn_call depth 3)

pub loop-s-preserved-in-Call : goal.loop-s-preserved-in-Call
loop-s-preserved-in-Call c = (search turn_on depth 4, search rules, search rules, search rules, search rules, search turn_sounds depth 4, search still_seen depth 3, search passed_applied depth 4, search passed_applied depth 4)

pub back-s-requires : goal.back-s-requires
back-s-requires c = (search turn_return depth 3, search sound_calls depth 3)

pub loop-s-preserved-in-Return : goal.loop-s-preserved-in-Return
loop-s-preserved-in-Return c = (search turn_on depth 4, search rules, search rules, search rules, search rules, search turn_sounds depth 4, search still_seen depth 3, search passed_applied depth 4, search passed_applied depth 4)

pub loop-s-preserved-in-Stop : goal.loop-s-preserved-in-Stop
loop-s-preserved-in-Stop c = (search turn_on depth 4, search rules, search rules, search rules, search rules, search turn_sounds depth 4, search still_seen depth 3, search passed_applied depth 4, search passed_applied depth 4)

pub enter-s-requires : goal.enter-s-requires
enter-s-requires c = (search passed_place depth 3, search turn_enter depth 3)

pub look-look-requires-in-Enter : goal.look-look-requires-in-Enter
look-look-requires-in-Enter c = let l = c.loop-s in search (entered_loops, turn_enter, l) depth 5

pub loop-s-preserved-in-Enter : goal.loop-s-preserved-in-Enter
loop-s-preserved-in-Enter c =
    let l = c.loop-s in
    let some = c.if-left-eq0.false in
    let low = c.loop-s-test.true in (
      search (turn_on, l, some, low) depth 5,
      search (rules, l, some),
      search (rules, l, some),
      search (rules, l),
      search (rules, l),
      search (turn_sounds, l, low) depth 5,
      search rules,
      search (passed_applied, l) depth 4,
      search (passed_applied, l) depth 4,
    )

pub leave-s-requires : goal.leave-s-requires
leave-s-requires c = (search turn_leave depth 3, search sound_loops depth 3)

pub look-look-requires-in-Leave : goal.look-look-requires-in-Leave
look-look-requires-in-Leave c = let l = c.loop-s in search (closed_loops, sound_loops, l) depth 5

pub loop-s-preserved-in-Leave : goal.loop-s-preserved-in-Leave
loop-s-preserved-in-Leave c =
    let l = c.loop-s in
    let some = c.if-left-eq0.false in
    let low = c.loop-s-test.true in (
      search (turn_on, l, some, low) depth 5,
      search (rules, l, some),
      search (rules, l, some),
      search (rules, l),
      search (rules, l),
      search (turn_sounds, l, low) depth 5,
      search rules,
      search (passed_applied, l) depth 4,
      search (passed_applied, l) depth 4,
    )

pub arm-s-requires : goal.arm-s-requires
arm-s-requires c = search passed_place depth 3

pub loop-s-preserved-in-Arm : goal.loop-s-preserved-in-Arm
loop-s-preserved-in-Arm c = (search turn_on depth 4, search rules, search rules, search rules, search rules, search turn_sounds depth 4, search still_seen depth 3, search passed_applied depth 4, search passed_applied depth 4)

pub arm-s-requires-in-Disarm : goal.arm-s-requires-in-Disarm
arm-s-requires-in-Disarm c = search passed_place depth 3

pub loop-s-preserved : goal.loop-s-preserved
loop-s-preserved c = (search turn_on depth 4, search rules, search rules, search rules, search rules, search turn_sounds depth 4, search still_seen depth 3, search passed_applied depth 4, search passed_applied depth 4)

pub returns : goal.returns
returns c = search turn_ways depth 3
