-- The offset of a listed reference: at that offset of the expressions stands an item that is that reference.
-- Assumes nothing.
use Rattle.std.specs.Prelude.{None, Option, Some}
use Prim.Native.Nat.{ℕ, ◌+◌}
use native.Mathlib.Omega.{arith}
use mathlib.Core.Path.{◌≡◌, sym, ap, ◌∙◌, subst}
use mathlib.Core.List.{List, [], ◌∷◌, ◌++◌}
use lib.ListN.{length, get_or, take, drop}
use Rattle.rules_unit.specs.declared.Parts.{Parts}
use Rattle.rules_unit.specs.declared.Item.{Item}
use Rattle.rules_unit.specs.declared.Item.TheVariants as item
use Rattle.rules_unit.specs.declared.Use.{Use}
use Rattle.rules_unit.specs.Decode.{item_at, width_of, follow, items_at, expressions_at, code_of}
use Rattle.rules_unit.specs.Table.{uses_of}
use Rattle.rules_unit.proofs.Items.{items_step}
use Rattle.rules_fence.specs.declared.Broken.{Broken}
use Rattle.rules_fence.specs.Stands.{widths_of, StandsAt, Stands}

-- ---- the items of an expression

some_item : (before : List Item) (x : Item) (after : List Item) → before ++ (x ∷ after) ≡ [] → ⊥
some_item [] x after e = omega (arith, ap length e)
some_item (y ∷ before) x after e = omega (arith, ap length e)

same_first : (i x : Item) (is xs : List Item) → i ∷ is ≡ x ∷ xs → i ≡ x
same_first i x is xs e = cc

same_rest : (i x : Item) (is xs : List Item) → i ∷ is ≡ x ∷ xs → is ≡ xs
same_rest i x is xs e = cc

first_is : (i x : Item) (is xs : List Item) → follow i is ≡ x ∷ xs → i ≡ x
first_is (item.Number p l) x is xs e = same_first (item.Number p l) x is xs e
first_is (item.Reference h f) x is xs e = same_first (item.Reference h f) x is xs e
first_is (item.Text p l) x is xs e = same_first (item.Text p l) x is xs e
first_is (item.Operator o) x is xs e = same_first (item.Operator o) x is xs e
first_is item.End x is xs e = absurd (some_item [] x xs (sym e))
first_is item.Bad x is xs e = same_first item.Bad x [] xs e

rest_is : (i x : Item) (is xs : List Item) → (xs ≡ [] → ⊥) → follow i is ≡ x ∷ xs → is ≡ xs
rest_is (item.Number p l) x is xs n e = same_rest (item.Number p l) x is xs e
rest_is (item.Reference h f) x is xs n e = same_rest (item.Reference h f) x is xs e
rest_is (item.Text p l) x is xs n e = same_rest (item.Text p l) x is xs e
rest_is (item.Operator o) x is xs n e = same_rest (item.Operator o) x is xs e
rest_is item.End x is xs n e = absurd (some_item [] x xs (sym e))
rest_is item.Bad x is xs n e = absurd (n (sym (same_rest item.Bad x [] xs e)))

item_along : (s : List ℕ) (at : ℕ) (before : List Item) (x : Item) (after : List Item) → items_at s at ≡ before ++ (x ∷ after) → item_at s (at + widths_of before) ≡ x
unfolding widths_of
item_along s at [] x after e =
    let z : at + 0 ≡ at = omega arith in rw z (first_is (item_at s at) x (items_at s (at + width_of (item_at s at))) after (sym (items_step s at) ∙ e))
item_along s at (y ∷ before) x after e =
    let q = sym (items_step s at) ∙ e in
    let rest = items_at s (at + width_of (item_at s at)) in
    let i = first_is (item_at s at) y rest (before ++ (x ∷ after)) q in
    let r = rest_is (item_at s at) y rest (before ++ (x ∷ after)) (some_item before x after) q in
    let z : at + (width_of y + widths_of before) ≡ at + width_of y + widths_of before = omega arith in
    rw z (item_along s (at + width_of y) before x after (subst (λ (j : Item). items_at s (at + width_of j) ≡ before ++ (x ∷ after)) i r))

-- ---- a listed reference

pub stands_there : (u : List ℕ) (p : Parts) (b : Broken) → Stands (code_of u p) b → item_at (take p.e (drop (expressions_at p) u)) b.at ≡ item.Reference b.form b.field
stands_there u p b r = by (get_or (uses_of (code_of u p) ((code_of u p).statement b.statement)) r.use_number None) r.here
  where
    by : (x : Option Use) → StandsAt (code_of u p) x b → item_at (take p.e (drop (expressions_at p) u)) b.at ≡ item.Reference b.form b.field
    by None n = absurd n
    by (Some x) t =
        rw t.offset (item_along (take p.e (drop (expressions_at p) u)) x.at t.before (item.Reference b.form b.field) t.after t.items)
