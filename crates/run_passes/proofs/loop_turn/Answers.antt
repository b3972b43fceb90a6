-- `run_passes::loop_turn` meets its contract: each arm knows the verb.
-- Assumes nothing.
use native.Mathlib.Omega.{arith}
use Rattle.std.proofs.lemmas.Grind.{common_steps}
use Rattle.run_passes.specs.Passes.{loop_turn}
use Rattle.run_passes.proofs.Turns.{loop_as}
use Rattle.run_passes.proofs.loop_turn.Goals as goal

pub returns-in-For : goal.returns-in-For
unfolding loop_turn
returns-in-For c = search loop_as depth 3

pub returns-in-LoopEnd : goal.returns-in-LoopEnd
unfolding loop_turn
returns-in-LoopEnd c = search loop_as depth 3

pub returns-in-ExitLoop : goal.returns-in-ExitLoop
unfolding loop_turn
returns-in-ExitLoop c = search loop_as depth 3

pub returns-in-NextLoop : goal.returns-in-NextLoop
unfolding loop_turn
returns-in-NextLoop c = search loop_as depth 3

pub returns-in_default : goal.returns-in_default
unfolding loop_turn
returns-in_default c = grind (arith, common_steps)
