-- `run_passes::repeat` meets its contract: where a loop is open, its entry is a statement of the unit, and so is the loop end that it names.
-- Assumes nothing.
use Rattle.run_passes.proofs.Passes.{last_sound, last_low, last_end, repeats_none, repeats_at}
use Rattle.run_passes.proofs.repeat.Goals as goal

pub returns-then-look-eq0 : goal.returns-then-look-eq0
returns-then-look-eq0 c = search repeats_none depth 3

pub statement-s-requires : goal.statement-s-requires
statement-s-requires c = search last_low depth 3

pub pass-requires-clause-loop_sound : goal.pass-requires-clause-loop_sound
pass-requires-clause-loop_sound c = search last_sound depth 3

pub pass-requires-clause-c_bound : goal.pass-requires-clause-c_bound
pass-requires-clause-c_bound c = search last_end depth 3

pub returns : goal.returns
returns c = search repeats_at depth 3
