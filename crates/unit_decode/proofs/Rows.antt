-- Expressions in a row: what is left from an offset on ends where the whole does, and that is inside the expressions.
--   not_end                           what the code's `if let Item::End` leaves
--   row_ends, row_bad, row_on         one turn of the loop over the items; row_past behind their end
--   row_noted, rows_more, rows_none   what is noted
--   next_small                        a number behind the expressions is a word
-- Assumes nothing.
use mathlib.Core.Path.{◌≡◌, refl, sym, ap, ◌∙◌}
use mathlib.Core.Bool.{Bool, true, false, cond, true≢false, false≢true}
use mathlib.Core.List.{List, [], ◌∷◌}
use Prim.Native.Nat.{ℕ, zero, suc, ◌+◌, ◌-◌, ◌<◌, ◌≤◌}
use native.Mathlib.Omega.{arith}
use lib.Dec.{ltb, eqb}
use lib.ListN.{length, get_or, set, replicate}
use lib.Seq.{get_or-set_same, get_or-set_other, set_out}
use borrow.Author.Tests.{ltb-true, ltb-false, eqb-true, eqb-false}
use denote.Enum.Declared.{tag_of}
use types.Run.{OneOf, miss}
use Rattle.rules_unit.specs.declared.Form.{Form}
use Rattle.rules_unit.specs.declared.Form.TheVariants as form
use Rattle.rules_unit.specs.declared.Item.{Item}
use Rattle.rules_unit.specs.declared.Item.TheVariants as item
use Rattle.rules_unit.specs.declared.Op.{Op}
use Rattle.rules_unit.specs.declared.Op.TheVariants as op
use Rattle.rules_unit.specs.Decode.{reference_at, number_at, text_at, item_by, item_at, width_of, follow, items_in, items_at}
use Rattle.rules_unit.specs.Expressions.{closesb, extent_of}
use Rattle.unit_decode.specs.Rows.{Rows}
use Rattle.rules_unit.specs.contracts.Item.{the_type}
use Rattle.rules_unit.proofs.Items.{beyond, items_as}

-- the item's tag is one of the others
pub not_end : (i : Item) → OneOf (0 ∷ (1 ∷ (2 ∷ (3 ∷ (5 ∷ []))))) (tag_of the_type i) → i ≡ item.End → ⊥
not_end i h e = miss (0 ∷ (1 ∷ (2 ∷ (3 ∷ (5 ∷ []))))) 4 tt (rw e at h)

-- ---- one turn

on : (i : Item) (is : List Item) → closesb i ≡ false → extent_of (follow i is) ≡ width_of i + extent_of is
unfolding extent_of
on (item.Number place len) is e = refl
on (item.Reference h field) is e = refl
on (item.Text place len) is e = refl
on (item.Operator o) is e = refl
on item.End is e = absurd (true≢false e)
on item.Bad is e = absurd (true≢false e)

none : (i : Item) (is : List Item) → (i ≡ item.End → ⊥) → closesb i ≡ true → extent_of (follow i is) ≡ 0
unfolding extent_of
none (item.Number place len) is h e = absurd (false≢true e)
none (item.Reference x field) is h e = absurd (false≢true e)
none (item.Text place len) is h e = absurd (false≢true e)
none (item.Operator o) is h e = absurd (false≢true e)
none item.End is h e = absurd (h refl)
none item.Bad is h e = refl

at_item : (s : List ℕ) (at : ℕ) (i : Item) → i ≡ item_at s at → extent_of (items_at s at) ≡ extent_of (follow i (items_at s (at + width_of i)))
at_item s at i e = ap extent_of (items_as s at i e)

-- at is the next offset, and z what the whole loop answers; i is the item there, b whether it closes the expression, w how many bytes it takes
module _ (s : List ℕ) (at z : ℕ) (left : at + extent_of (items_at s at) ≡ z) where
  pub row_past : length s ≤ at → at ≡ z
  unfolding extent_of
  row_past h = omega (arith, left, at_item s at item.Bad (sym (beyond s at h)))

  module _ (i : Item) (e : i ≡ item_at s at) where
    pub row_ends : i ≡ item.End → at + 1 ≡ z
    unfolding extent_of
    row_ends f = omega (arith, left, at_item s at item.End (sym f ∙ e))

    module _ (b : Bool) (eb : b ≡ closesb i) where
      pub row_bad : (i ≡ item.End → ⊥) → b ≡ true → at ≡ z
      row_bad h t = omega (arith, left, at_item s at i e, none i (items_at s (at + width_of i)) h (sym eb ∙ t))

      pub row_on : (w : ℕ) → w ≡ width_of i → b ≡ false → at + w + extent_of (items_at s (at + w)) ≡ z
      row_on w ew t = rw ew (omega (arith, left, at_item s at i e, on i (items_at s (at + width_of i)) (sym eb ∙ t)))

-- ---- notes

-- n is what is noted there, and m the code's copy of it
pub row_noted : (s rows : List ℕ) (at n m z : ℕ) → Rows s rows → n ≡ get_or rows at 0 → m ≡ n → 0 < n → at + extent_of (items_at s at) ≡ z → m ≡ z
row_noted s rows at n m z noted e f h left = f ∙ e ∙ noted.so at (omega (arith, e, h)) ∙ left

-- one note more, which is so
pub rows_more : (s rows next : List ℕ) (at n z : ℕ) → Rows s rows → next ≡ set rows at n → n ≡ z → at + extent_of (items_at s at) ≡ z → Rows s next
rows_more s rows next at n z noted en e left = rw en (by (ltb at (length rows)) refl)
  where
    inside : at < length rows → (k : ℕ) (t : Bool) → eqb k at ≡ t → 0 < get_or (set rows at n) k 0 → get_or (set rows at n) k 0 ≡ k + extent_of (items_at s k)
    inside l k true q h = rw (eqb-true k at q) (get_or-set_same rows at n 0 l ∙ e ∙ sym left)
    inside l k false q h = rw (get_or-set_other rows at k n 0 (eqb-false k at q)) (noted.so k (rw (get_or-set_other rows at k n 0 (eqb-false k at q)) at h))

    by : (t : Bool) → ltb at (length rows) ≡ t → Rows s (set rows at n)
    by true l = record { so = λ k h. inside (ltb-true at (length rows) l) k (eqb k at) refl h }
    by false l = rw (set_out rows at n (ltb-false at (length rows) l)) noted

pub zeros : (m e : ℕ) → ◌≡◌ {A = ℕ} (get_or (replicate m 0) e 0) 0
zeros zero e = refl
zeros (suc m) zero = refl
zeros (suc m) (suc e) = zeros m e

-- Where every note is 0, nothing is noted, and so every note is so.
pub rows_none : (s : List ℕ) (m : ℕ) → Rows s (replicate m 0)
rows_none s m = record { so = λ e h. absurd (omega (arith, zeros m e, h)) }

-- ---- a row lies inside the expressions

module _ (s : List ℕ) (at : ℕ) (low : at < length s) where
  abbrev Whole : Item → Type 0
  Whole i = closesb i ≡ false → at + width_of i ≤ length s

  either : (t : Bool) (i j : Item) → (t ≡ true → Whole i) → Whole j → Whole (cond t i j)
  either true i j f g = f refl
  either false i j f g = g

  bad : Whole item.Bad
  bad e = absurd (true≢false e)

  operator : (t : Bool) (o : Op) (i : Item) → Whole i → Whole (cond t (item.Operator o) i)
  operator t o i g = either t (item.Operator o) i (λ q e. omega arith) g

  reference : (h : Form) → Whole (reference_at s at h)
  unfolding reference_at
  reference h = either (ltb 2 (length s - at)) _ item.Bad (λ q e. omega (arith, ltb-true 2 (length s - at) q)) bad

  number : Whole (number_at s at)
  unfolding number_at
  number = either (ltb 3 (length s - at)) _ item.Bad (λ q e. omega (arith, ltb-true 3 (length s - at) q)) bad

  text : Whole (text_at s at)
  unfolding text_at
  text = either (ltb 4 (length s - at)) _ item.Bad (λ q e. omega (arith, ltb-true 4 (length s - at) q)) bad

  by_code : (code : ℕ) → Whole (item_by s at code)
  unfolding item_by
  by_code code =
      either (eqb code 0x00) item.End _ (λ q e. absurd (true≢false e))
      (either (eqb code 0x01) (number_at s at) _ (λ q. number)
      (either (eqb code 0x02) (reference_at s at form.First) _ (λ q. reference form.First)
      (either (eqb code 0x03) (reference_at s at form.Subscript) _ (λ q. reference form.Subscript)
      (either (eqb code 0x04) (reference_at s at form.StartEnd) _ (λ q. reference form.StartEnd)
      (either (eqb code 0x05) (reference_at s at form.PosLength) _ (λ q. reference form.PosLength)
      (either (eqb code 0x06) (text_at s at) _ (λ q. text)
      (operator (eqb code 0x10) op.Add _
      (operator (eqb code 0x11) op.Subtract _
      (operator (eqb code 0x12) op.Multiply _
      (operator (eqb code 0x13) op.Divide _
      (operator (eqb code 0x14) op.Round _
      (operator (eqb code 0x15) op.Negate _
      (operator (eqb code 0x16) op.Eq _
      (operator (eqb code 0x17) op.Ne _
      (operator (eqb code 0x18) op.Gt _
      (operator (eqb code 0x19) op.Lt _
      (operator (eqb code 0x1a) op.Ge _
      (operator (eqb code 0x1b) op.Le _
      (operator (eqb code 0x1c) op.Not _
      (operator (eqb code 0x1d) op.And _
      (operator (eqb code 0x1e) op.Or _
      (operator (eqb code 0x1f) op.Xor _ bad))))))))))))))))))))))

item_whole : (s : List ℕ) (at : ℕ) → closesb (item_at s at) ≡ false → at + width_of (item_at s at) ≤ length s
unfolding item_at
item_whole s at = by (ltb at (length s)) refl
  where
    by : (t : Bool) → ltb at (length s) ≡ t
        → closesb (cond t (item_by s at (get_or s at 0)) item.Bad) ≡ false → at + width_of (cond t (item_by s at (get_or s at 0)) item.Bad) ≤ length s
    by true q e = by_code s at (ltb-true at (length s) q) (get_or s at 0) e
    by false q e = absurd (true≢false e)

-- m is a bound on the expressions and on the offset
item_last : (s : List ℕ) (at m : ℕ) (is : List Item) → length s ≤ m → at ≤ m → closesb (item_at s at) ≡ true → at + extent_of (follow (item_at s at) is) ≤ m
unfolding item_at extent_of
item_last s at m is h k e = by (ltb at (length s)) refl (item_by s at (get_or s at 0)) e
  where
    by : (t : Bool) → ltb at (length s) ≡ t → (i : Item) → closesb (cond t i item.Bad) ≡ true → at + extent_of (follow (cond t i item.Bad) is) ≤ m
    by true q (item.Number place len) e = absurd (false≢true e)
    by true q (item.Reference x field) e = absurd (false≢true e)
    by true q (item.Text place len) e = absurd (false≢true e)
    by true q (item.Operator o) e = absurd (false≢true e)
    by true q item.End e = omega (arith, ltb-true at (length s) q)
    by true q item.Bad e = omega arith
    by false q i e = omega arith

row_in : (k : ℕ) (s : List ℕ) (at m : ℕ) → length s ≤ m → at ≤ m → at + extent_of (items_in k s at) ≤ m
unfolding items_in extent_of
row_in zero s at m h l = omega arith
row_in (suc k) s at m h l = by (λ x. row_in k s (at + width_of (item_at s at)) m h x) (closesb (item_at s at)) refl
  where
    by : (at + width_of (item_at s at) ≤ m → at + width_of (item_at s at) + extent_of (items_in k s (at + width_of (item_at s at))) ≤ m)
        → (t : Bool) → closesb (item_at s at) ≡ t → at + extent_of (follow (item_at s at) (items_in k s (at + width_of (item_at s at)))) ≤ m
    by more true q = item_last s at m (items_in k s (at + width_of (item_at s at))) h l q
    by more false q =
        omega (arith, on (item_at s at) (items_in k s (at + width_of (item_at s at))) q, more (omega (arith, item_whole s at q)))

row_most : (s : List ℕ) (at m : ℕ) → length s ≤ m → at ≤ m → at + extent_of (items_at s at) ≤ m
unfolding items_at
row_most s at m h l = row_in (suc (length s)) s at m h l

-- ---- the expressions of a unit

-- A number behind them is a word.
pub next_small : (s : List ℕ) (e r : ℕ) → length s < 65536 → e < 65536 → r ≡ e + extent_of (items_at s e) → r < 65536
next_small s e r h k q = omega (arith, row_most s e 65535 (omega arith) (omega arith))
