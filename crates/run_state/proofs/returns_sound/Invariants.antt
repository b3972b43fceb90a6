-- `run_state::returns_sound` meets its contract: the return numbers passed are right, and the one at which it says no is wrong.
-- The invariant: the return numbers from here on answer what all of them answer.
-- Assumes nothing.
use mathlib.Core.Path.{◌≡◌}
use lib.ListN.{drop}
use Rattle.rules_run.specs.States.{returnsb}
use Rattle.run_state.proofs.returns_sound.Given as goal

abbrev pub invariant-loop-i : goal.invariant-loop-i
invariant-loop-i l = returnsb l.n l.depth l.i (drop l.i l.returns) ≡ returnsb l.n l.depth 0 l.returns
