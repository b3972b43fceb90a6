-- Laws of finding spans, for the code: its numbers are of 64 bits.
-- Assumes nothing.
use Rattle.std.specs.Prelude.{None, Option}
use Prim.Native.Nat.{ℕ, ◌+◌, ◌-◌, ◌*◌, ◌^◌, ◌<◌, ◌≤◌}
use native.Mathlib.Nat.{mul-le-mul_left, mul-one}
use native.Mathlib.Omega.{arith}
use mathlib.Core.Path.{◌≡◌, refl, sym, ap, ap₂, ◌∙◌}
use mathlib.Core.Bool.{Bool, true, false}
use lib.IntN.{ℤ, pos, negsuc, nat_abs}
use lib.Signed.{le_z}
use mir.Syntax.{w64}
use mir.Val.{SFits, to_z, of_z}
use Rattle.rules.specs.Values.{Val, signed, is_neg}
use Rattle.rules.proofs.Signed.{back, again, op_plain, signed_abs, abs_zero}
use Rattle.rules_unit.specs.declared.Rule.{Rule}
use Rattle.rules_unit.specs.declared.Rule.TheVariants as rule
use Rattle.rules_unit.specs.declared.Field.{Field}
use Rattle.rules_unit.specs.declared.Form.{Form}
use Rattle.rules_unit.specs.declared.Form.TheVariants as form
use Rattle.rules_run.specs.declared.Span.{Span}
use Rattle.rules_run.specs.Spans.{within, subscript_span, start_end_span, pos_length_span, span_of, held_to, span_by, span_at}
use Rattle.rules_run.proofs.Strict as strict

-- ---- numbers

-- a product with a size is no less than the count
pub grows : (k n : ℕ) → 1 ≤ n → k ≤ k * n
grows k n h = rw mul-one at (mul-le-mul_left k h)

-- what the calls that ask for a number's sign and its magnitude tell of it
pub told : {s : ℤ} {t b : Bool} {k : ℕ} → SFits w64 s → t ≡ is_neg (to_z w64 (of_z w64 s)) → t ≡ b → k ≡ nat_abs (to_z w64 (of_z w64 s)) → s ≡ signed b k
told {s} f et eb ek = sym (signed_abs s) ∙ ap₂ signed (ap is_neg (sym (back f)) ∙ sym et ∙ eb) (ap nat_abs (sym (back f)) ∙ sym ek)

pub told_none : {s : ℤ} {t : Bool} → SFits w64 s → t ≡ is_neg (to_z w64 (of_z w64 s)) → t ≡ true → le_z (pos 1) s ≡ false
told_none {s} f et eb = by s (ap is_neg (sym (back f)) ∙ sym et ∙ eb)
  where
    by : (s : ℤ) → is_neg s ≡ true → le_z (pos 1) s ≡ false
    by (pos n) e = cc
    by (negsuc n) e = refl

pub told_zero : {s : ℤ} {k : ℕ} → SFits w64 s → k ≡ nat_abs (to_z w64 (of_z w64 s)) → k ≡ 0 → s ≡ pos 0
told_zero {s} f ek e = abs_zero s (ap nat_abs (sym (back f)) ∙ sym ek ∙ e)

pub told_below : {s : ℤ} {k : ℕ} → Val (10 ^ 18) s → k ≡ nat_abs (to_z w64 (of_z w64 s)) → k < 10 ^ 18
told_below v ek = omega (arith, (again v).small)

-- ---- a reference, by its bounds as a call gets them

module _ (size : ℕ) (f : Field) (x y : ℤ) {h : Form} where
  pub span_first : h ≡ form.First → within size (pos f.offset) f.size ≡ span_of size f h x y
  unfolding span_of
  span_first e = rw e

  pub span_subscript : h ≡ form.Subscript → SFits w64 x → subscript_span size f.offset f.size (to_z w64 (of_z w64 x)) ≡ span_of size f h x y
  unfolding span_of
  span_subscript e p = rw (e, back p)

  pub span_start_end : h ≡ form.StartEnd → SFits w64 x → SFits w64 y → start_end_span size f.offset (to_z w64 (of_z w64 x)) (to_z w64 (of_z w64 y)) ≡ span_of size f h x y
  unfolding span_of
  span_start_end e p q = rw (e, back p, back q)

  pub span_pos_length : h ≡ form.PosLength → SFits w64 x → SFits w64 y → pos_length_span size f.offset (to_z w64 (of_z w64 x)) (to_z w64 (of_z w64 y)) ≡ span_of size f h x y
  unfolding span_of
  span_pos_length e p q = rw (e, back p, back q)

-- ---- strict fields

-- what was found is s, and r what is left of it
module _ (f : Field) (s r : Option Span) where
  pub field_at : (a n : ℕ) → s ≡ span_at a n → r ≡ held_to rule.Strict f (span_at a n) → r ≡ held_to rule.Strict f s
  field_at a n e q = q ∙ ap (held_to rule.Strict f) (sym e)

  pub field_none : s ≡ None → None ≡ held_to rule.Strict f s
  field_none e = ap (held_to rule.Strict f) (sym e)

-- a reference by the strict rule, as a call gets it: what is found inside the size is s, and r what is left of that
module _ (size : ℕ) (f : Field) (x y : ℤ) (h : Form) where
  pub strict_first : (s : Option Span) → h ≡ form.First → s ≡ within size (pos f.offset) f.size → s ≡ span_by rule.Strict size f h x y
  strict_first s e w = rw e (rw e at (w ∙ span_first size f x y {h = h} e))

  module _ (s r : Option Span) (q : r ≡ held_to rule.Strict f s) where
    pub strict_subscript : h ≡ form.Subscript → SFits w64 x → s ≡ subscript_span size f.offset f.size (to_z w64 (of_z w64 x)) → r ≡ span_by rule.Strict size f h x y
    strict_subscript e p w = q ∙ rw e (ap (held_to rule.Strict f) (rw e at (w ∙ span_subscript size f x y {h = h} e p)))

    pub strict_start_end : h ≡ form.StartEnd → SFits w64 x → SFits w64 y → s ≡ start_end_span size f.offset (to_z w64 (of_z w64 x)) (to_z w64 (of_z w64 y)) → r ≡ span_by rule.Strict size f h x y
    strict_start_end e p k w = q ∙ rw e (ap (held_to rule.Strict f) (rw e at (w ∙ span_start_end size f x y {h = h} e p k)))

    pub strict_pos_length : h ≡ form.PosLength → SFits w64 x → SFits w64 y → s ≡ pos_length_span size f.offset (to_z w64 (of_z w64 x)) (to_z w64 (of_z w64 y)) → r ≡ span_by rule.Strict size f h x y
    strict_pos_length e p k w = q ∙ rw e (ap (held_to rule.Strict f) (rw e at (w ∙ span_pos_length size f x y {h = h} e p k)))

-- a reference by the rule k
module _ (size : ℕ) (f : Field) (h : Form) (x y : ℤ) (fx : SFits w64 x) (fy : SFits w64 y) (k : Rule) (s : Option Span) where
  pub by_loose : k ≡ rule.Loose → s ≡ span_of size f h (to_z w64 (of_z w64 x)) (to_z w64 (of_z w64 y)) → s ≡ span_by k size f h x y
  by_loose e q = rw e (q ∙ op_plain (span_of size f h) fx fy ∙ sym (strict.by_loose size f h x y))

  pub by_strict : k ≡ rule.Strict → s ≡ span_by rule.Strict size f h (to_z w64 (of_z w64 x)) (to_z w64 (of_z w64 y)) → s ≡ span_by k size f h x y
  by_strict e q = rw e (q ∙ op_plain (span_by rule.Strict size f h) fx fy)
