-- The answers about a data buffer (the owner's letter: "a data buffer of its size whose decimal elements are all valid"): each is given exactly when what it says is so.
--   validity_exactly           .. of the unit and the data
--   earlier_valid, before_valid    the elements before the first that is not valid are valid
-- Assumes nothing.
use Rattle.std.specs.Prelude.{Result, Err, Ok}
use Prim.Native.Nat.{ℕ, zero, suc, ◌+◌, ◌<◌}
use native.Mathlib.Omega.{arith}
use mathlib.Core.Path.{◌≡◌, refl, sym, ap, ◌∙◌, subst}
use mathlib.Core.Bool.{Bool, true, false, cond, false≢true, true≢false}
use mathlib.Core.Logic.{◌↔◌}
use mathlib.Core.List.{List}
use lib.Dec.{ltb, eqb}
use lib.ListN.{length}
use borrow.Author.Tests.{ltb-true, ltb-false, eqb-true, eqb-false}
use Rattle.rules.specs.Values.{Valid}
use Rattle.rules.proofs.Valid.{valid_of, valid_to}
use Rattle.rules_unit.specs.declared.Parts.{Parts}
use Rattle.rules_unit.specs.declared.Refusal.{Refusal}
use Rattle.rules_unit.specs.Codes.{Code, decimalb, count_of}
use Rattle.rules_unit.specs.Decode.{parts_of, code_of}
use Rattle.rules_unit.specs.Checks.{check_of}
use Rattle.rules_unit.specs.Sound.{SoundUnit}
use Rattle.rules_unit.specs.Answers.{Says}
use Rattle.rules_unit.proofs.Sound.{passed_sound, passed_parts, check_says, check_only, sound_passed}
use Rattle.rules_unit.proofs.Tells.{one_more}
use Rattle.rules_fence.specs.declared.Validity.{Validity}
use Rattle.rules_fence.specs.declared.Validity.TheVariants as validity
use Rattle.rules_fence.specs.Destinations.{AllValid}
use Rattle.rules_fence.specs.Validity.{bytes_of, elementb, elements_from, field_validity, allb, fields_from, validity_by, validity_of, InvalidAt, FirstInvalid}
use Rattle.rules_fence.specs.Answers.{ValiditySays}

module _ (c : Code) (d : List ℕ) where
  -- ---- one element

  -- The element k of the field f is not one that is not valid, so it is valid.
  pub not_invalid : (f k : ℕ) → f < c.fields → decimalb c f ≡ true → k < count_of c f → (InvalidAt c d f k → ⊥) → Valid c.dialect.limit c.dialect.sign (bytes_of c d f k)
  unfolding elementb
  not_invalid f k l t h n = by (elementb c d f k) refl
    where
      by : (b : Bool) → elementb c d f k ≡ b → Valid c.dialect.limit c.dialect.sign (bytes_of c d f k)
      by true e = valid_to e
      by false e = absurd (n (record { low = l; decimal = t; in_field = h; invalid = λ v. false≢true (sym e ∙ valid_of v) }))

  -- ---- the elements of a field

  -- What an answer says of the field f alone.
  abbrev OfField : ℕ → Validity → Type 0
  OfField f (validity.Refused r) = ⊥
  OfField f validity.WrongSize = ⊥
  OfField f validity.AllValid = (j : ℕ) → InvalidAt c d f j → ⊥
  OfField f (validity.Invalid g e) = (g ≡ f) × (k : ℕ) × (e ≡ k + 1) × InvalidAt c d f k × ((j : ℕ) → j < k → InvalidAt c d f j → ⊥)

  elements_mean : (f : ℕ) → f < c.fields → decimalb c f ≡ true → (m k : ℕ) → k + m ≡ count_of c f → ((j : ℕ) → j < k → InvalidAt c d f j → ⊥) → OfField f (elements_from c d f m k)
  unfolding elements_from elementb
  elements_mean f l t zero k q h = λ j v. h j (omega (arith, v.in_field)) v
  elements_mean f l t (suc m) k q h = by (elementb c d f k) refl (elements_mean f l t m (k + 1) (omega arith))
    where
      by : (b : Bool) → elementb c d f k ≡ b → (((j : ℕ) → j < k + 1 → InvalidAt c d f j → ⊥) → OfField f (elements_from c d f m (k + 1)))
          → OfField f (cond b (elements_from c d f m (k + 1)) (validity.Invalid f (k + 1)))
      by true e more = more (one_more (λ j. InvalidAt c d f j → ⊥) k h (λ v. v.invalid (valid_to e)))
      by false e more =
          (refl, k, refl, record { low = l; decimal = t; in_field = omega arith; invalid = λ v. false≢true (sym e ∙ valid_of v) }, h)

  field_means : (f : ℕ) → f < c.fields → OfField f (field_validity c d f)
  unfolding field_validity
  field_means f l = by (decimalb c f) refl
    where
      by : (b : Bool) → decimalb c f ≡ b → OfField f (cond b (elements_from c d f (count_of c f) 0) validity.AllValid)
      by true e = elements_mean f l e (count_of c f) 0 (omega arith) (λ j h. absurd (omega arith))
      by false e = λ j v. true≢false (sym v.decimal ∙ e)

  -- ---- all fields

  -- What an answer says of a decoded unit.
  abbrev Means : Validity → Type 0
  Means (validity.Refused r) = ⊥
  Means validity.WrongSize = ⊥
  Means validity.AllValid = AllValid c d
  Means (validity.Invalid f e) = (k : ℕ) × (e ≡ k + 1) × FirstInvalid c d f k

  fields_mean : (m f : ℕ) → f + m ≡ c.fields → ((g : ℕ) → g < f → (j : ℕ) → InvalidAt c d g j → ⊥) → Means (fields_from c d m f)
  unfolding fields_from
  fields_mean zero f q h = record { valid = λ g k l t low. not_invalid g k l t low (h g (omega arith) k) }
  fields_mean (suc m) f q h = by (field_validity c d f) (field_means f (omega arith)) (fields_mean m (f + 1) (omega arith))
    where
      by : (v : Validity) → OfField f v → (((g : ℕ) → g < f + 1 → (j : ℕ) → InvalidAt c d g j → ⊥) → Means (fields_from c d m (f + 1)))
          → Means (cond (allb v) (fields_from c d m (f + 1)) v)
      by (validity.Refused r) o more = absurd o
      by validity.WrongSize o more = absurd o
      by validity.AllValid o more = more (one_more (λ g. (j : ℕ) → InvalidAt c d g j → ⊥) f h o)
      by (validity.Invalid g e) o more =
          (o.1, o.2, subst (λ (x : ℕ). FirstInvalid c d x o.1) (sym o.0) (record { here = o.3; earlier = o.4; before = λ x j l. h x l j }))

  -- ---- there is one first element

  earliest : (f k j : ℕ) → FirstInvalid c d f k → FirstInvalid c d f j → k ≡ j
  earliest f k j a b = by (ltb k j) (ltb j k) refl refl
    where
      by : (x y : Bool) → ltb k j ≡ x → ltb j k ≡ y → k ≡ j
      by true y p q = absurd (b.earlier k (ltb-true k j p) a.here)
      by false true p q = absurd (a.earlier j (ltb-true j k q) b.here)
      by false false p q = omega (arith, ltb-false k j p, ltb-false j k q)

  same_field : (f g k j : ℕ) → FirstInvalid c d f k → FirstInvalid c d g j → f ≡ g
  same_field f g k j a b = by (ltb f g) (ltb g f) refl refl
    where
      by : (x y : Bool) → ltb f g ≡ x → ltb g f ≡ y → f ≡ g
      by true y p q = absurd (b.before f k (ltb-true f g p) a.here)
      by false true p q = absurd (a.before g j (ltb-true g f q) b.here)
      by false false p q = omega (arith, ltb-false f g p, ltb-false g f q)

  same_element : (f g k j : ℕ) → FirstInvalid c d f k → FirstInvalid c d g j → k ≡ j
  same_element f g k j a b = earliest g k j (subst (λ (x : ℕ). FirstInvalid c d x k) (same_field f g k j a b) a) b

  none_invalid : (f k : ℕ) → AllValid c d → FirstInvalid c d f k → ⊥
  none_invalid f k v a = a.here.invalid (v.valid f k a.here.low a.here.decimal a.here.in_field)

  -- ---- for readers

  module _ (f k : ℕ) (first : FirstInvalid c d f k) where
    pub earlier_valid : (j : ℕ) → j < k → Valid c.dialect.limit c.dialect.sign (bytes_of c d f j)
    earlier_valid j h = not_invalid f j first.here.low first.here.decimal (omega (arith, first.here.in_field)) (first.earlier j h)

    pub before_valid : (g j : ℕ) → g < f → decimalb c g ≡ true → j < count_of c g → Valid c.dialect.limit c.dialect.sign (bytes_of c d g j)
    before_valid g j h t l = not_invalid g j (omega (arith, first.here.low)) t l (first.before g j h)

-- ---- the unit

module _ (u d : List ℕ) where
  says_means : SoundUnit u (parts_of u) → length d ≡ (parts_of u).d → (v : Validity) → Means (code_of u (parts_of u)) d v → ValiditySays u d v
  says_means t l (validity.Refused r) m = absurd m
  says_means t l validity.WrongSize m = absurd m
  says_means t l validity.AllValid m = (t, l, m)
  says_means t l (validity.Invalid f e) m = (t, l, m.0, m.1, m.2)

  pub validity_says : ValiditySays u d (validity_of u d)
  unfolding validity_of
  validity_says = by (check_of u) refl
    where
      passed : SoundUnit u (parts_of u) → ValiditySays u d (validity_by u d (Ok (parts_of u)))
      passed t = sized (eqb (length d) (parts_of u).d) refl
        where
          sized : (b : Bool) → eqb (length d) (parts_of u).d ≡ b → ValiditySays u d (cond b (fields_from (code_of u (parts_of u)) d (parts_of u).f 0) validity.WrongSize)
          sized true e =
              says_means t (eqb-true (length d) (parts_of u).d e) (fields_from (code_of u (parts_of u)) d (parts_of u).f 0)
              (fields_mean (code_of u (parts_of u)) d (parts_of u).f 0 (omega arith) (λ g h. absurd (omega arith)))
          sized false e = (t, eqb-false (length d) (parts_of u).d e)

      by : (x : Result Parts Refusal) → check_of u ≡ x → ValiditySays u d (validity_by u d x)
      by (Ok p) e =
          let q = passed_parts u p e in
          subst (λ (p : Parts). ValiditySays u d (validity_by u d (Ok p))) (sym q) (passed (subst (SoundUnit u) q (passed_sound u p e)))
      by (Err r) e = subst (Says u) e (check_says u)

  not_both : (r : Refusal) → SoundUnit u (parts_of u) → Says u (Err r) → ⊥
  not_both r t h = let q = sound_passed u (parts_of u) t in let e = check_only u (Err r) h in let z : ◌≡◌ {A = ℕ} 0 1 = cc in omega arith

  one_answer : (v w : Validity) → ValiditySays u d v → ValiditySays u d w → v ≡ w
  one_answer (validity.Refused r) (validity.Refused x) a b =
      let e = check_only u (Err r) a in let f = check_only u (Err x) b in let q : r ≡ x = cc in ap validity.Refused q
  one_answer (validity.Refused r) validity.WrongSize a b = absurd (not_both r b.0 a)
  one_answer (validity.Refused r) validity.AllValid a b = absurd (not_both r b.0 a)
  one_answer (validity.Refused r) (validity.Invalid g e) a b = absurd (not_both r b.0 a)
  one_answer validity.WrongSize (validity.Refused x) a b = absurd (not_both x a.0 b)
  one_answer validity.WrongSize validity.WrongSize a b = refl
  one_answer validity.WrongSize validity.AllValid a b = absurd (a.1 b.1)
  one_answer validity.WrongSize (validity.Invalid g e) a b = absurd (a.1 b.1)
  one_answer validity.AllValid (validity.Refused x) a b = absurd (not_both x a.0 b)
  one_answer validity.AllValid validity.WrongSize a b = absurd (b.1 a.1)
  one_answer validity.AllValid validity.AllValid a b = refl
  one_answer validity.AllValid (validity.Invalid g e) a b = absurd (none_invalid (code_of u (parts_of u)) d g b.2 a.2 b.4)
  one_answer (validity.Invalid f e) (validity.Refused x) a b = absurd (not_both x a.0 b)
  one_answer (validity.Invalid f e) validity.WrongSize a b = absurd (b.1 a.1)
  one_answer (validity.Invalid f e) validity.AllValid a b = absurd (none_invalid (code_of u (parts_of u)) d f a.2 b.2 a.4)
  one_answer (validity.Invalid f e) (validity.Invalid g x) a b =
      let c = code_of u (parts_of u) in
      let p = same_field c d f g a.2 b.2 a.4 b.4 in
      let q : e ≡ x = a.3 ∙ ap (λ (k : ℕ). k + 1) (same_element c d f g a.2 b.2 a.4 b.4) ∙ sym b.3 in
      ap (λ (y : ℕ). validity.Invalid y e) p ∙ ap (validity.Invalid g) q

  -- Each answer is given exactly when what it says is so.
  pub validity_exactly : (v : Validity) → (validity_of u d ≡ v) ↔ ValiditySays u d v
  validity_exactly v = (λ e. subst (ValiditySays u d) e validity_says, λ h. one_answer (validity_of u d) v validity_says h)
