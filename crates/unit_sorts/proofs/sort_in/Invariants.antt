-- `unit_sorts::sort_in` meets its contract: each turn tests what the rule tests of the next item, in its order, and goes on to the items after it;
-- where a sort is noted for what is left, that is the answer.
-- The invariant: what is left, with the values held and the last sort, gives the answer of the whole, and at most 16 values are held.
-- The measure: how many bytes are left.
-- Assumes nothing.
use mathlib.Core.Path.{◌≡◌}
use Prim.Native.Nat.{◌-◌, ◌≤◌}
use lib.ListN.{length}
use Rattle.rules_unit.specs.declared.Sort.TheVariants as sort
use Rattle.rules_unit.specs.Decode.{items_at}
use Rattle.rules_unit.specs.Expressions.{sort_from}
use Rattle.unit_sorts.proofs.sort_in.Given as goal
use Rattle.unit_decode.specs.Units.{code_in}

abbrev pub invariant-loop-i : goal.invariant-loop-i
invariant-loop-i l =
    (sort_from (code_in l.coded) (items_at l.s l.i) l.n l.k ≡ sort_from (code_in l.coded) (items_at l.s l.at) 0 sort.Number) × (l.n ≤ 16)

abbrev pub decreases-loop-i : goal.decreases-loop-i
decreases-loop-i l = length l.s - l.i
