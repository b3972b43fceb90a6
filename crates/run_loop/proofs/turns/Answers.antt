-- `run_loop::turns` meets its contract: the first stretch is the whole run, or an error that is trapped ends it and the rest goes on from there.
-- Assumes nothing.
use native.Mathlib.Omega.{arith}
use borrow.Author.Rules.{rules}
use Rattle.run_loop.proofs.Stretches.{first_length, first_stops, first_count, first_fits, first_sound, first_run}
use Rattle.run_loop.proofs.turns.Goals as goal

pub overflow_add-count : goal.overflow_add-count
overflow_add-count c =
    let whole = c.stretch-out.ensures in
    let then = c.after_stop-then.ensures in
    let goes = c.in-Goes.is in
    record { fits = first_fits whole then goes (search (rules, c.ranges)) }

pub go_on-requires-clause-unit_value : goal.go_on-requires-clause-unit_value
go_on-requires-clause-unit_value c = let pre = c.requires in
    let whole = c.stretch-out.ensures in
    let then = c.after_stop-then.ensures in
    let goes = c.in-Goes.is in
    search (rules, pre)

pub go_on-requires-clause-bytes_len : goal.go_on-requires-clause-bytes_len
go_on-requires-clause-bytes_len c = let pre = c.requires in
    let whole = c.stretch-out.ensures in
    let then = c.after_stop-then.ensures in
    let goes = c.in-Goes.is in
    first_length whole (search (rules, pre))

pub go_on-requires-clause-sound : goal.go_on-requires-clause-sound
go_on-requires-clause-sound c = let pre = c.requires in
    let whole = c.stretch-out.ensures in
    let then = c.after_stop-then.ensures in
    let goes = c.in-Goes.is in
    first_sound whole then goes c.trapped-s.ensures

pub go_on-requires-clause-done_le_allowance : goal.go_on-requires-clause-done_le_allowance
go_on-requires-clause-done_le_allowance c = let pre = c.requires in
    let whole = c.stretch-out.ensures in
    let then = c.after_stop-then.ensures in
    let goes = c.in-Goes.is in
    omega (arith, first_count whole then goes)

pub returns-in-Stops : goal.returns-in-Stops
returns-in-Stops c = first_stops c.stretch-out.ensures c.after_stop-then.ensures c.in-Stops.is

pub returns-in-Goes : goal.returns-in-Goes
returns-in-Goes c =
    let whole = c.stretch-out.ensures in
    let then = c.after_stop-then.ensures in
    let goes = c.in-Goes.is in
    first_run whole then goes c.trapped-s.ensures (search rules)
