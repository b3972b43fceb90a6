-- `unit_fields::good_fields` meets its contract: the entries passed are good, and the one at which it returns is not.
-- The invariant: what is left, from the floor in hand, gives the answer of the whole.
-- Assumes nothing.
use Prim.Native.Nat.{◌-◌}
use mathlib.Core.Path.{◌≡◌}
use Rattle.rules_unit.specs.Checks.{good_fields}
use Rattle.unit_fields.proofs.good_fields.Given as goal
use Rattle.unit_decode.specs.Units.{code_in}

abbrev pub invariant-loop-i : goal.invariant-loop-i
invariant-loop-i l =
    good_fields (code_in l.coded) (l.coded.parts.f - l.i) l.i l.floor ≡ good_fields (code_in l.coded) l.coded.parts.f 0 0
