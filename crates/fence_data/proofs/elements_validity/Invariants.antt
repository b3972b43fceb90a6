-- `fence_data::elements_validity` meets its contract: the elements passed are valid, and the one at which it stops is not.
-- The invariant: what is left gives the answer of the whole.
-- Assumes nothing.
use Prim.Native.Nat.{◌-◌}
use mathlib.Core.Path.{◌≡◌}
use Rattle.rules_unit.specs.Codes.{count_of}
use Rattle.rules_fence.specs.Validity.{elements_from}
use Rattle.fence_data.proofs.elements_validity.Given as goal
use Rattle.unit_decode.specs.Units.{code_in}

abbrev pub invariant-loop-k : goal.invariant-loop-k
invariant-loop-k l =
    elements_from (code_in l.coded) l.bytes l.f (count_of (code_in l.coded) l.f - l.k) l.k ≡ elements_from (code_in l.coded) l.bytes l.f (count_of (code_in l.coded) l.f) 0
