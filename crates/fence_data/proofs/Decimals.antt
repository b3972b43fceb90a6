-- The decimals of a data buffer: one law for each way out of the code.
-- Assumes nothing.
use Rattle.std.specs.Prelude.{Result, Err, Ok}
use Prim.Native.Nat.{ℕ, suc, ◌+◌, ◌-◌, ◌*◌, ◌<◌, ◌≤◌}
use native.Mathlib.Omega.{arith}
use mathlib.Core.Path.{◌≡◌, refl, sym, ap, ◌∙◌}
use mathlib.Core.Bool.{Bool, true, false, not}
use mathlib.Core.List.{List}
use lib.IntN.{ℤ}
use lib.ListN.{length, take, drop}
use borrow.Author.Tests.{not-true, not-false, eq-eqb, ne_eqb}
use Rattle.rules.specs.declared.Fault.{Fault}
use Rattle.rules.specs.Values.{Limit, Letters, validb, read_of}
use Rattle.rules.proofs.Valid.{valid_of, valid_to, reads_valid, valid_reads}
use Rattle.rules_unit.specs.declared.Parts.{Parts}
use Rattle.rules_unit.specs.declared.Field.{Field}
use Rattle.rules_unit.specs.declared.Refusal.{Refusal}
use Rattle.rules_unit.specs.Codes.{Code, is_decimal, decimalb, offset_of, size_of, count_of}
use Rattle.rules_unit.specs.Decode.{code_of}
use Rattle.rules_unit.specs.Checks.{check_of}
use Rattle.rules_unit.proofs.Sound.{passed_sound}
use Rattle.rules_unit.proofs.Statements.{left_suc, left_none}
use Rattle.rules_run.proofs.Lengths.{passed_dialect}
use Rattle.rules_fence.specs.declared.Validity.{Validity}
use Rattle.rules_fence.specs.declared.Validity.TheVariants as validity
use Rattle.rules_fence.specs.Validity.{elementb, elements_from, allb, field_validity, fields_from, validity_by, validity_of}
use Rattle.rules_fence.proofs.Elements.{element_end_lem}

-- ---- one decimal: r is what it reads as

module _ (limit sign : ℕ) (s : List ℕ) (r : Result ℤ Fault) (q : r ≡ read_of limit sign s) where
  pub valid_value : (v : ℤ) → r ≡ Ok v → true ≡ validb limit sign s
  valid_value v e = sym (valid_of (reads_valid {v = v} (sym q ∙ e)))

  pub valid_failed : (f : Fault) → r ≡ Err f → false ≡ validb limit sign s
  valid_failed f e = by (validb limit sign s) refl
    where
      by : (t : Bool) → validb limit sign s ≡ t → false ≡ t
      by true h = let w = valid_reads (valid_to {s = s} h) in let z : Ok w.0 ≡ Err f = sym w.1 ∙ sym q ∙ e in let y : ◌≡◌ {A = ℕ} 0 1 = cc in absurd (omega arith)
      by false h = refl

-- ---- one element: x is the entry of its field, as the code has asked for it

module _ (u : List ℕ) (p : Parts) (passed : check_of u ≡ Ok p) where
  pub limit_fits : (n : ℕ) → n ≡ p.dialect.limit → Limit n
  limit_fits n e = rw e (passed_dialect u p passed).limit

  pub letters_fit : Letters p.dialect.sign
  letters_fit = (passed_dialect u p passed).letters

  module _ (f k : ℕ) (low : f < p.f) (within : k < count_of (code_of u p) f) (x : Field) (ex : x ≡ (code_of u p).field f) (o s j : ℕ) (eo : o ≡ x.offset) (es : s ≡ x.size)
      (ej : j ≡ k) where
    inside : o + j * s + s ≤ p.d
    inside =
        rw (eo, es, ej, ex)
        (omega (arith, element_end_lem (offset_of (code_of u p) f) (size_of (code_of u p) f) (count_of (code_of u p) f) k within, ((passed_sound u p passed).code.entries f low).own.inside))

    pub element_low : o + j * s + s ≤ 16383
    element_low = omega (arith, inside, (passed_sound u p passed).ranges.d_most)

    module _ (d : List ℕ) where
      pub element_high : length d ≡ p.d → o + j * s + s ≤ length d
      element_high h = omega (arith, inside, h)

      pub element_by : (n : ℕ) (r : Bool) → n ≡ p.dialect.limit → r ≡ validb n p.dialect.sign (take (o + j * s + s - (o + j * s)) (drop (o + j * s) d)) → r ≡ elementb (code_of u p) d f k
      unfolding elementb
      element_by n r en q =
          let size : o + j * s + s - (o + j * s) ≡ s = omega arith in
          q ∙ rw (size, en, eo, es, ej, ex)

-- ---- the elements of a field: x is its entry, k the next one, and z what the whole loop answers

module _ (c : Code) (d : List ℕ) (f k : ℕ) (x : Field) (ex : x ≡ c.field f) where
  many : x.count ≡ count_of c f
  many = ap (λ (y : Field). y.count) ex

  pub element_within : k < x.count → k < count_of c f
  element_within h = omega (arith, many, h)

  module _ (z : Validity) (w : elements_from c d f (count_of c f - k) k ≡ z) where
    pub elements_over : x.count ≤ k → validity.AllValid ≡ z
    unfolding elements_from
    elements_over h = let e : count_of c f ≤ k = omega (arith, many, h) in sym (rw (left_none (count_of c f) k e)) ∙ w

    module _ (t : Bool) (h : k < x.count) (et : t ≡ elementb c d f k) where
      pub elements_stop : not t ≡ true → validity.Invalid f (k + 1) ≡ z
      unfolding elements_from
      elements_stop g = sym (rw (left_suc (count_of c f) k (element_within h), ← et, not-true t g)) ∙ w

      pub elements_on : not t ≡ false → elements_from c d f (count_of c f - (k + 1)) (k + 1) ≡ z
      unfolding elements_from
      elements_on g = sym (rw (left_suc (count_of c f) k (element_within h), ← et, not-false t g)) ∙ w

-- ---- the fields: m of them, f is the next one, v what is answered of it, and z what the whole loop answers

module _ (c : Code) (d : List ℕ) (m f : ℕ) (z : Validity) (w : fields_from c d (m - f) f ≡ z) where
  pub fields_over : m ≤ f → validity.AllValid ≡ z
  unfolding fields_from
  fields_over h = sym (rw (left_none m f h)) ∙ w

  module _ (v : Validity) (t : Bool) (h : f < m) (ev : v ≡ field_validity c d f) (et : t ≡ allb v) where
    pub fields_stop : not t ≡ true → v ≡ z
    unfolding fields_from
    fields_stop g = sym (rw (left_suc m f h, ← ev, ← et, not-true t g)) ∙ w

    pub fields_on : not t ≡ false → fields_from c d (m - (f + 1)) (f + 1) ≡ z
    unfolding fields_from
    fields_on g = sym (rw (left_suc m f h, ← ev, ← et, not-false t g)) ∙ w

-- ---- one field: x is its entry, t whether it is a decimal one

module _ (c : Code) (d : List ℕ) (f : ℕ) (x : Field) (ex : x ≡ c.field f) (t : Bool) (et : t ≡ is_decimal x.kind) where
  own : t ≡ decimalb c f
  own = et ∙ ap (λ (y : Field). is_decimal y.kind) ex

  pub field_decimal : (v : Validity) → t ≡ true → v ≡ elements_from c d f (count_of c f) 0 → v ≡ field_validity c d f
  unfolding field_validity
  field_decimal v h e = rw (sym own ∙ h) e

  pub field_other : t ≡ false → validity.AllValid ≡ field_validity c d f
  unfolding field_validity
  field_other h = rw (sym own ∙ h)

-- ---- the whole: n is the unit's D, as the code compares it

-- v is the answer of the check
module _ (u d : List ℕ) (v : Result Parts Refusal) (is : v ≡ check_of u) where
  pub invalid_passed : (p : Parts) (r : Validity) → v ≡ Ok p → r ≡ validity_by u d (Ok p) → r ≡ validity_of u d
  unfolding validity_of
  invalid_passed p r e q = rw (← is, e) q

  pub invalid_refused : (x : Refusal) → v ≡ Err x → validity.Refused x ≡ validity_of u d
  unfolding validity_of
  invalid_refused x e = rw (← is, e)
