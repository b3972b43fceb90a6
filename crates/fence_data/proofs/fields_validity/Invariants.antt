-- `fence_data::fields_validity` meets its contract: the fields passed are valid, and the one at which it stops is not.
-- The invariant: what is left gives the answer of the whole.
-- Assumes nothing.
use Prim.Native.Nat.{◌-◌}
use mathlib.Core.Path.{◌≡◌}
use Rattle.rules_fence.specs.Validity.{fields_from}
use Rattle.fence_data.proofs.fields_validity.Given as goal
use Rattle.unit_decode.specs.Units.{code_in}

abbrev pub invariant-loop-f : goal.invariant-loop-f
invariant-loop-f l =
    fields_from (code_in l.coded) l.bytes (l.coded.parts.f - l.f) l.f ≡ fields_from (code_in l.coded) l.bytes l.coded.parts.f 0
