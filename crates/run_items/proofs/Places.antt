-- References: a field that there is, the span that its bounds name, and what is answered of it, read or as a place. The values passed on are bits.
-- Assumes nothing.
use Rattle.std.specs.Prelude.{Result, Err, Ok, None, Option}
use Rattle.rules.specs.declared.Fault.{Fault}
use mathlib.Core.Path.{◌≡◌, sym, ap, ◌∙◌}
use mathlib.Core.Bool.{Bool, true, false, cond, not}
use mathlib.Core.List.{List, []}
use Prim.Native.Nat.{ℕ, ◌+◌, ◌-◌, ◌^◌, ◌≤◌, ◌<◌}
use native.Mathlib.Nat.{add-sub_cancel_left}
use native.Mathlib.Omega.{arith}
use lib.Dec.{ltb, eqb}
use lib.IntN.{ℤ}
use lib.ListN.{length, take, drop}
use borrow.Author.Tests.{lt-ltb, le-ltb, eq-eqb, ne_eqb, not-true, not-false}
use mir.Syntax.{w64}
use mir.Val.{SFits, to_z, of_z}
use Rattle.rules.specs.declared.Fault.TheVariants as fault
use Rattle.rules.specs.Values.{Val, read_of}
use Rattle.rules.proofs.Signed.{op_plain, again, pow_le18}
use Rattle.rules.proofs.Range.{of_range}
use Rattle.rules_unit.specs.declared.Parts.{Parts}
use Rattle.rules_unit.specs.declared.Rule.{Rule}
use Rattle.rules_unit.specs.declared.Field.{Field}
use Rattle.rules_unit.specs.declared.Form.{Form}
use Rattle.rules_unit.specs.declared.Form.TheVariants as form
use Rattle.rules_unit.specs.Codes.{rule_of, is_decimal}
use Rattle.rules_unit.specs.Decode.{SoundDialect, code_of}
use Rattle.rules_unit.specs.Expressions.{form_takes}
use Rattle.rules_run.specs.declared.Span.{Span}
use Rattle.rules_run.specs.declared.Worked.{Worked}
use Rattle.rules_run.specs.declared.Worked.TheVariants as worked
use Rattle.rules_run.specs.Spans.{span_of, span_by, span_at}
use Rattle.rules_run.specs.Evaluation.{read_span, reference, as_place, place_by}
use Rattle.rules_run.proofs.Located as located
use Rattle.rules_run.proofs.Strict as strict
use Rattle.rules_run.proofs.Ranges.{read_range}

-- The part of the data that the reader is handed.
pub read_part : (limit sign l b a n : ℕ) (d : List ℕ) (r : Result ℤ Fault) → l ≡ limit → b ≡ sign → r ≡ read_of l b (take (a + n - a) (drop a d)) → r ≡ read_of limit sign (take n (drop a d))
read_part limit sign l b a n d r e f q = rw (e, f, add-sub_cancel_left a n) at q

-- What is read can be an operand.
pub read_again : (p : Parts) (d : List ℕ) (a n : ℕ) (x : Result ℤ Fault) (v : ℤ) → SoundDialect p.dialect → x ≡ read_of p.dialect.limit p.dialect.sign (take n (drop a d)) → x ≡ Ok v
    → Val (10 ^ 18) (to_z w64 (of_z w64 v))
read_again p d a n x v dialect e g =
    again
    (of_range (sym e ∙ g) (read_range (code_of [] p) d (10 ^ 18) (omega arith) dialect.bound.most (pow_le18 (omega (arith, dialect.limit.most))) a n))

-- Finding a span: k is the rule that the field chooses.
pub found_by : (size : ℕ) (entry : Field) (h : Form) (x y : ℤ) (s : Option Span) (k : Rule) → k ≡ rule_of entry → s ≡ span_by k size entry h x y → s ≡ span_by (rule_of entry) size entry h x y
found_by size entry h x y s k e q = q ∙ ap (λ (z : Rule). span_by z size entry h x y) e

-- "it must stay inside the D bytes"
pub found_inside : (size : ℕ) (entry : Field) (h : Form) (x y : ℤ) (s : Option Span) (k : Rule) (a n : ℕ) → s ≡ span_at a n → s ≡ span_by k size entry h x y → a + n ≤ size
found_inside size entry h x y s k a n w q = located.found_inside size entry h x y (strict.found_loose size entry k h x y (sym q ∙ w))

pub first_inside : (size : ℕ) (entry : Field) (x y : ℤ) (s : Option Span) (a n : ℕ) → s ≡ span_of size entry form.First x y → s ≡ span_at a n → a + n ≤ size
first_inside size entry x y s a n q w = located.found_inside size entry form.First x y (sym q ∙ w)

module _ (u : List ℕ) (p : Parts) (d : List ℕ) (h : Form) (f : ℕ) (x y : ℤ) where
  pub reference_none : p.f ≤ f → Err fault.Malformed ≡ reference (code_of u p) d h f x y
  unfolding reference
  reference_none l = sym (rw (le-ltb f p.f l))

  pub place_none : p.f ≤ f → Err fault.Malformed ≡ place_by (code_of u p) d h f x y
  unfolding place_by
  place_none l = sym (rw (le-ltb f p.f l))

  -- the field is there: its entry, whether it is decimal, and its span s, as the code has them
  module _ (there : f < p.f) (entry : Field) (ee : entry ≡ (code_of u p).field f) (decimal : Bool) (ed : decimal ≡ is_decimal entry.kind) where
    kind : is_decimal ((code_of u p).field f).kind ≡ decimal
    kind = ap (λ (g : Field). is_decimal g.kind) (sym ee) ∙ sym ed

    pub reference_alpha : not decimal ≡ true → Err fault.Malformed ≡ reference (code_of u p) d h f x y
    unfolding reference
    reference_alpha e = sym (rw (lt-ltb f p.f there, kind, not-true decimal e))

    module _ (fx : SFits w64 x) (fy : SFits w64 y) (s : Option Span) (es : s ≡ span_by (rule_of entry) (length d) entry h (to_z w64 (of_z w64 x)) (to_z w64 (of_z w64 y))) where
      span : span_by (rule_of ((code_of u p).field f)) (length d) ((code_of u p).field f) h x y ≡ s
      span = ap (λ (g : Field). span_by (rule_of g) (length d) g h x y) (sym ee) ∙ sym (es ∙ op_plain (span_by (rule_of entry) (length d) entry h) fx fy)

      read_as : decimal ≡ true → reference (code_of u p) d h f x y ≡ read_span (code_of u p) d s
      unfolding reference
      read_as e = rw (lt-ltb f p.f there, kind, e, span)

      pub reference_read : (a n : ℕ) (r : Result ℤ Fault) → not decimal ≡ false → s ≡ span_at a n → r ≡ read_of p.dialect.limit p.dialect.sign (take n (drop a d)) → r ≡ reference (code_of u p) d h f x y
      reference_read a n r e t q = q ∙ sym (read_as (not-false decimal e) ∙ ap (read_span (code_of u p) d) t)

      pub reference_outside : not decimal ≡ false → s ≡ None → Err fault.Outside ≡ reference (code_of u p) d h f x y
      reference_outside e t = sym (read_as (not-false decimal e) ∙ ap (read_span (code_of u p) d) t)

      place_as : place_by (code_of u p) d h f x y ≡ as_place (code_of u p) f s
      unfolding place_by
      place_as = rw (lt-ltb f p.f there, span)

      pub place_found : (most a n : ℕ) (r : Result Worked Fault) → most ≡ p.dialect.limit → s ≡ span_at a n
          → r ≡ cond decimal (cond (ltb most n) (Err fault.TooLong) (Ok (worked.Place true a n))) (Ok (worked.Place false a n))
          → r ≡ place_by (code_of u p) d h f x y
      place_found most a n r em t q = (rw (em, sym kind) at q) ∙ sym (place_as ∙ ap (as_place (code_of u p) f) t)

      pub place_outside : s ≡ None → Err fault.Outside ≡ place_by (code_of u p) d h f x y
      place_outside t = sym (place_as ∙ ap (as_place (code_of u p) f) t)

  -- n values are held, and the reference takes t
  module _ (n k t : ℕ) (ek : k ≡ form_takes h) (et : t ≡ k) where
    pub place_bounds : (r : Result Worked Fault) → SFits w64 x → SFits w64 y → n ≡ t → r ≡ place_by (code_of u p) d h f (to_z w64 (of_z w64 x)) (to_z w64 (of_z w64 y))
        → r ≡ cond (eqb n (form_takes h)) (place_by (code_of u p) d h f x y) (Err fault.Malformed)
    place_bounds r fx fy e q = rw (eq-eqb n (form_takes h) (e ∙ et ∙ ek)) (q ∙ op_plain (place_by (code_of u p) d h f) fx fy)

    pub place_unbound : (n ≡ t → ⊥) → Err fault.Malformed ≡ cond (eqb n (form_takes h)) (place_by (code_of u p) d h f x y) (Err fault.Malformed)
    place_unbound e = rw (ne_eqb n (form_takes h) (λ q. e (q ∙ sym (et ∙ ek))))
