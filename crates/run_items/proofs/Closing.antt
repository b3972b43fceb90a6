-- Where an expression ends: 00 at an offset, and no other byte, is End, and then no item is left.
-- Assumes nothing.
use mathlib.Core.Path.{◌≡◌, refl, sym, ap, ◌∙◌}
use mathlib.Core.Bool.{Bool, true, false, cond}
use mathlib.Core.List.{List, [], ◌∷◌}
use Prim.Native.Nat.{ℕ, ◌+◌, ◌-◌}
use native.Mathlib.Omega.{arith}
use lib.Dec.{ltb, eqb}
use lib.ListN.{length, get_or}
use Rattle.rules_unit.specs.declared.Form.{Form}
use Rattle.rules_unit.specs.declared.Op.{Op}
use Rattle.rules_unit.specs.declared.Item.{Item}
use Rattle.rules_unit.specs.declared.Item.TheVariants as item
use Rattle.rules_unit.specs.Decode.{reference_at, number_at, text_at, item_by, item_at, width_of, follow, items_at}
use Rattle.rules_unit.proofs.Items.{is_end, items_step}

-- Every code but 00 has an item that is not End.
record Other (i : Item) : Type 0 where
  other : is_end i ≡ false

either : (t : Bool) (i j : Item) → Other i → Other j → Other (cond t i j)
either true i j x y = x
either false i j x y = y

otherwise : (t : Bool) (i j : Item) → t ≡ false → Other j → Other (cond t i j)
otherwise t i j e y = rw e y

operator : (o : Op) → Other (item.Operator o)
operator o = record { other = refl }

bad : Other item.Bad
bad = record { other = refl }

reference : (s : List ℕ) (at : ℕ) (h : Form) → Other (reference_at s at h)
unfolding reference_at
reference s at h = either (ltb 2 (length s - at)) _ item.Bad (record { other = refl }) bad

number : (s : List ℕ) (at : ℕ) → Other (number_at s at)
unfolding number_at
number s at = either (ltb 3 (length s - at)) _ item.Bad (record { other = refl }) bad

text : (s : List ℕ) (at : ℕ) → Other (text_at s at)
unfolding text_at
text s at = either (ltb 4 (length s - at)) _ item.Bad (record { other = refl }) bad

by_code : (s : List ℕ) (at code : ℕ) → eqb code 0 ≡ false → Other (item_by s at code)
unfolding item_by
by_code s at code e = otherwise (eqb code 0) item.End _ e (search (either, operator, bad, reference, number, text) depth 40)

zero_code : (s : List ℕ) (at code : ℕ) → eqb code 0 ≡ true → is_end (item_by s at code) ≡ true
unfolding item_by
zero_code s at code e = rw e

end_code : (s : List ℕ) (at code : ℕ) (t : Bool) → eqb code 0 ≡ t → is_end (item_by s at code) ≡ t
end_code s at code true e = zero_code s at code e
end_code s at code false e = (by_code s at code e).other

end_at : (s : List ℕ) (at : ℕ) → is_end (item_at s at) ≡ cond (ltb at (length s)) (eqb (get_or s at 0) 0) false
unfolding item_at
end_at s at = by (ltb at (length s))
  where
    by : (t : Bool) → is_end (cond t (item_by s at (get_or s at 0)) item.Bad) ≡ cond t (eqb (get_or s at 0) 0) false
    by true = end_code s at (get_or s at 0) (eqb (get_or s at 0) 0) refl
    by false = refl

-- ---- the items that are left

abbrev none : List Item → Bool
none [] = true
none (i ∷ is) = false

ends : (i : Item) (is : List Item) → none (follow i is) ≡ is_end i
ends (item.Number place len) is = refl
ends (item.Reference h f) is = refl
ends (item.Text place len) is = refl
ends (item.Operator o) is = refl
ends item.End is = refl
ends item.Bad is = refl

none_at : (s : List ℕ) (at : ℕ) → none (items_at s at) ≡ cond (ltb at (length s)) (eqb (get_or s at 0) 0) false
none_at s at = ap none (items_step s at) ∙ ends (item_at s at) (items_at s (at + width_of (item_at s at))) ∙ end_at s at

empty : (is : List Item) → none is ≡ true → is ≡ []
empty [] e = refl
empty (i ∷ is) e = let z : ◌≡◌ {A = ℕ} 0 1 = cc in absurd (omega arith)

some : (is : List Item) → none is ≡ false → is ≡ [] → ⊥
some is e f = let z : ◌≡◌ {A = ℕ} 0 1 = cc (ap none f) in omega arith

-- t is what the code's test of the byte answered
module _ (s : List ℕ) (at : ℕ) (t : Bool) (e : t ≡ cond (ltb at (length s)) (eqb (get_or s at 0) 0) false) where
  pub closed : t ≡ true → items_at s at ≡ []
  closed f = empty (items_at s at) (none_at s at ∙ sym e ∙ f)

  pub unclosed : t ≡ false → items_at s at ≡ [] → ⊥
  unclosed f = some (items_at s at) (none_at s at ∙ sym e ∙ f)
