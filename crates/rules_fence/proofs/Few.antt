-- How many references of a unit break a fence rule: fewer than a number of 64 bits can tell, so that they can be counted.
--   few       of the statements of a unit that passes the check
--   few_in    of one statement
-- Assumes nothing.
use Rattle.std.specs.Prelude.{Ok, None, Option, Some}
use Prim.Native.Nat.{ℕ, zero, suc, ◌+◌, ◌*◌, ◌<◌, ◌≤◌}
use native.Mathlib.Omega.{arith}
use mathlib.Core.Path.{◌≡◌}
use mathlib.Core.Bool.{Bool, true, false, cond}
use mathlib.Core.List.{List, [], ◌∷◌}
use lib.ListN.{length, take, drop, length-append, length-take}
use Rattle.rules_unit.specs.declared.Parts.{Parts}
use Rattle.rules_unit.specs.declared.Item.{Item}
use Rattle.rules_unit.specs.declared.Item.TheVariants as item
use Rattle.rules_unit.specs.declared.Role.{Role}
use Rattle.rules_unit.specs.declared.Role.TheVariants as role
use Rattle.rules_unit.specs.declared.Statement.{Statement}
use Rattle.rules_unit.specs.declared.Use.{Use}
use Rattle.rules_unit.specs.Codes.{Code}
use Rattle.rules_unit.specs.Decode.{item_at, width_of, follow, items_in, items_at, expressions_at, code_of}
use Rattle.rules_unit.specs.Table.{verb_of, row_of, more_of, uses_of}
use Rattle.rules_unit.specs.Checks.{check_of}
use Rattle.rules_unit.proofs.Sound.{passed_sound}
use Rattle.rules_fence.specs.declared.Broken.{Broken}
use Rattle.rules_fence.specs.declared.Seen.{Seen}
use Rattle.rules_fence.specs.declared.Seen.TheVariants as seen
use Rattle.rules_fence.specs.Bounds.{seen_after}
use Rattle.rules_fence.specs.Fence.{destb}
use Rattle.rules_fence.specs.Breaches.{keepsb, reference_breach}
use Rattle.rules_fence.specs.Listed.{broken_by, item_broken, broken_from, use_broken, uses_broken, broken_of, statements_broken}

-- ---- the items of an expression

follow_most : (i : Item) (is : List Item) → length (follow i is) ≤ suc (length is)
follow_most (item.Number place len) is = omega arith
follow_most (item.Reference h field) is = omega arith
follow_most (item.Text place len) is = omega arith
follow_most (item.Operator o) is = omega arith
follow_most item.End is = omega arith
follow_most item.Bad is = omega arith

items_in_lem : (k : ℕ) (s : List ℕ) (at : ℕ) → length (items_in k s at) ≤ suc k
unfolding items_in
items_in_lem zero s at = omega arith
items_in_lem (suc k) s at =
    let here = follow_most (item_at s at) (items_in k s (at + width_of (item_at s at))) in omega (arith, here, items_in_lem k s (at + width_of (item_at s at)))

items_most : (s : List ℕ) (at : ℕ) → length (items_at s at) ≤ length s + 2
unfolding items_at
items_most s at = omega (arith, items_in_lem (suc (length s)) s at)

-- ---- each item is listed once at the most

module _ (c : Code) (i : ℕ) where
  one_most : (t : Bool) (b : Broken) → length (cond t [] (b ∷ [])) ≤ 1
  one_most true b = omega arith
  one_most false b = omega arith

  item_most : (dest : Bool) (s : Seen) (at : ℕ) (x : Item) (xs : List Item) → length (item_broken c i dest s at x xs) ≤ 1
  item_most dest s at (item.Number place len) xs = omega arith
  item_most dest s at (item.Reference h f) xs = one_most (keepsb (reference_breach c (destb dest xs) h f s)) (broken_by c i (destb dest xs) s at h f)
  item_most dest s at (item.Text place len) xs = omega arith
  item_most dest s at (item.Operator o) xs = omega arith
  item_most dest s at item.End xs = omega arith
  item_most dest s at item.Bad xs = omega arith

  from_most : (dest : Bool) (s : Seen) (at : ℕ) (is : List Item) → length (broken_from c i dest s at is) ≤ length is
  unfolding broken_from
  from_most dest s at [] = omega arith
  from_most dest s at (x ∷ xs) =
      let here = item_most dest s at x xs in
      let rest = from_most dest (seen_after c s x) (at + width_of x) xs in
      omega (arith, here, rest, length-append (item_broken c i dest s at x xs) (broken_from c i dest (seen_after c s x) (at + width_of x) xs))

-- ---- statements: 16,385 items in an expression at the most, 5 expressions in a statement

module _ (c : Code) (most : (at : ℕ) → length (c.items at) ≤ 16385) where
  use_most : (i : ℕ) (x : Option Use) → length (use_broken c i x) ≤ 16385
  use_most i None = omega arith
  use_most i (Some u) = omega (arith, most u.at, from_most c i u.written seen.Nothing u.at (c.items u.at))

  uses_most : (i : ℕ) (us : List (Option Use)) → length (uses_broken c i us) ≤ length us * 16385
  unfolding uses_broken
  uses_most i [] = omega arith
  uses_most i (x ∷ xs) = omega (arith, use_most i x, uses_most i xs, length-append (use_broken c i x) (uses_broken c i xs))

  more_most : (r : Role) (x : ℕ) → length (more_of c r x) ≤ 2
  more_most role.Unused x = omega arith
  more_most (role.Written w) x = omega arith
  more_most (role.Read w) x = omega arith
  more_most role.Target x = omega arith
  more_most role.Table x = omega arith
  more_most role.Numbers x = omega arith
  more_most role.End x = omega arith
  more_most role.Never x = omega arith

  five_most : (s : Statement) → length (uses_of c s) ≤ 5
  five_most s = omega (arith, more_most (row_of (verb_of s.code)).b s.b)

  of_most : (i : ℕ) → length (broken_of c i) ≤ 81925
  unfolding broken_of
  of_most i = omega (arith, five_most (c.statement i), uses_most i (uses_of c (c.statement i)))

  all_most : (k i : ℕ) → length (statements_broken c k i) ≤ k * 81925
  unfolding statements_broken
  all_most zero i = omega arith
  all_most (suc k) i = omega (arith, of_most i, all_most k (i + 1), length-append (broken_of c i) (statements_broken c k (i + 1)))

-- ---- the unit

module _ (u : List ℕ) (p : Parts) (e : check_of u ≡ Ok p) where
  unit_most : (at : ℕ) → length ((code_of u p).items at) ≤ 16385
  unit_most at =
      let s = take p.e (drop (expressions_at p) u) in
      omega (arith, items_most s at, length-take p.e (drop (expressions_at p) u), (passed_sound u p e).ranges.e_most)

  pub few : length (statements_broken (code_of u p) p.n 0) < 18446744073709551615
  few = omega (arith, all_most (code_of u p) unit_most p.n 0, (passed_sound u p e).ranges.n_most)

  pub few_in : (i : ℕ) → length (broken_of (code_of u p) i) < 18446744073709551615
  few_in i = omega (arith, of_most (code_of u p) unit_most i)
