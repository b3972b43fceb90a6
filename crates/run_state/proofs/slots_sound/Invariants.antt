-- `run_state::slots_sound` meets its contract: the slots passed are right, and the one at which it says no is wrong.
-- The invariant: the slots from here on answer what all of them answer.
-- Assumes nothing.
use mathlib.Core.Path.{◌≡◌}
use lib.ListN.{drop}
use Rattle.rules_run.specs.States.{slotsb}
use Rattle.run_state.proofs.slots_sound.Given as goal
use Rattle.unit_decode.specs.Units.{code_in}

abbrev pub invariant-loop-i : goal.invariant-loop-i
invariant-loop-i l = slotsb (code_in l.coded) l.opened l.i (drop l.i l.loops) ≡ slotsb (code_in l.coded) l.opened 0 l.loops
