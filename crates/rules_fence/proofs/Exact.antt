-- Every reference of an expression (document 01, "Fence rules"): the rule with quantifiers and the rule item by item say the same.
--   ItemFenced c dest s i is   the rule of the item i, where the bounds s stand before it and the items is after it
--   AllFenced c dest s is      the rule of all items
-- Assumes nothing.
use Prim.Native.Nat.{ℕ}
use mathlib.Core.Path.{◌≡◌, refl, ap, subst}
use mathlib.Core.Bool.{Bool}
use mathlib.Core.List.{List, [], ◌∷◌, ◌++◌}
use Rattle.rules_unit.specs.declared.Form.{Form}
use Rattle.rules_unit.specs.declared.Item.{Item}
use Rattle.rules_unit.specs.declared.Item.TheVariants as item
use Rattle.rules_unit.specs.Codes.{Code}
use Rattle.rules_fence.specs.declared.Seen.{Seen}
use Rattle.rules_fence.specs.declared.Seen.TheVariants as seen
use Rattle.rules_fence.specs.Bounds.{seen_after, seen_in, fixed_span}
use Rattle.rules_fence.specs.Fence.{SpanKept, destb, ExprFenced}
use Rattle.rules_fence.proofs.Bounded.{fenced_fixed, fixed_fenced}

module _ (c : Code) (dest : Bool) where
  abbrev pub ItemFenced : Seen → Item → List Item → Type 0
  ItemFenced s (item.Number p l) is = Unit {0}
  ItemFenced s (item.Reference h f) is = SpanKept c (destb dest is) f (fixed_span c h f s)
  ItemFenced s (item.Text p l) is = Unit {0}
  ItemFenced s (item.Operator o) is = Unit {0}
  ItemFenced s item.End is = Unit {0}
  ItemFenced s item.Bad is = Unit {0}

  abbrev pub AllFenced : Seen → List Item → Type 0
  AllFenced s [] = Unit {0}
  AllFenced s (i ∷ is) = ItemFenced s i is × AllFenced (seen_after c s i) is

  -- Each reference of the items, where the bounds s stand before them.
  abbrev Refs : Seen → List Item → Type 0
  Refs s is = (before after : List Item) (h : Form) (f : ℕ) → is ≡ before ++ (item.Reference h f ∷ after) → SpanKept c (destb dest after) f (fixed_span c h f (seen_in c s before))

  one_to : (s : Seen) (i : Item) (is : List Item) → Refs s (i ∷ is) → ItemFenced s i is
  unfolding seen_in
  one_to s (item.Number p l) is r = tt
  one_to s (item.Reference h f) is r = r [] is h f refl
  one_to s (item.Text p l) is r = tt
  one_to s (item.Operator o) is r = tt
  one_to s item.End is r = tt
  one_to s item.Bad is r = tt

  all_to : (s : Seen) (is : List Item) → Refs s is → AllFenced s is
  unfolding seen_in
  all_to s [] r = tt
  all_to s (i ∷ is) r = (one_to s i is r, all_to (seen_after c s i) is (λ b a h f q. r (i ∷ b) a h f (ap (λ (x : List Item). i ∷ x) q)))

  pub expr_to : (is : List Item) → ExprFenced c dest is → AllFenced seen.Nothing is
  expr_to is r = all_to seen.Nothing is (λ b a h f q. fenced_fixed c (destb dest a) h f b (r.refs b a h f q))

  along : (s : Seen) (b rest : List Item) → AllFenced s (b ++ rest) → AllFenced (seen_in c s b) rest
  unfolding seen_in
  along s [] rest h = h
  along s (i ∷ b) rest h = along (seen_after c s i) b rest h.1

  pub expr_of : (is : List Item) → AllFenced seen.Nothing is → ExprFenced c dest is
  expr_of is r =
      record { refs = λ b a h f q. fixed_fenced c (destb dest a) h f b (along seen.Nothing b (item.Reference h f ∷ a) (subst (AllFenced seen.Nothing) q r)).0 }
