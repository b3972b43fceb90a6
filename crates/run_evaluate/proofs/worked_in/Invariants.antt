-- `run_evaluate::worked_in` meets its contract: each step leads to what the whole comes to.
-- The invariant: what is left, with the values held, comes to what the whole comes to; every value of the array is in the range of values.
-- The measure: how many bytes are left.
-- Assumes nothing.
use mathlib.Core.Path.{◌≡◌}
use Prim.Native.Nat.{◌-◌}
use lib.ListN.{length}
use Rattle.rules_unit.specs.Decode.{items_at}
use Rattle.rules_run.specs.Evaluation.{worked_of}
use Rattle.run_evaluate.specs.Steps.{top_down, rest_of, Vals}
use Rattle.run_evaluate.proofs.worked_in.Given as goal
use Rattle.unit_decode.specs.Units.{code_in}

abbrev pub invariant-loop-i : goal.invariant-loop-i
invariant-loop-i l =
    (rest_of (code_in l.coded) l.bytes (items_at l.es l.i) (top_down l.held l.n) ≡ worked_of (code_in l.coded) l.bytes (items_at l.es l.at))
    × (length l.held ≡ 17)
    × Vals l.held

abbrev pub decreases-loop-i : goal.decreases-loop-i
decreases-loop-i l = length l.es - l.i
