-- The tests of one span (document 01, "Fence rules"): there is no breach exactly when the rules hold.
-- Assumes nothing.
use Rattle.rules_run.specs.Spans.{span_at}
use Prim.Native.Nat.{ℕ, zero, suc, ◌+◌, ◌-◌, ◌/◌, ◌<◌, ◌≤◌, max}
use native.Mathlib.Omega.{arith}
use native.Mathlib.Nat.{div-mul-le_self, div-eq_of_lt-le, div-lt_iff_lt-mul}
use mathlib.Core.Path.{◌≡◌, refl, sym, ap, ◌∙◌}
use mathlib.Core.Bool.{Bool, true, false, cond, ◌||◌, false≢true}
use lib.Dec.{ltb, leb}
use borrow.Author.Tests.{ltb-true, ltb-false, leb-true, leb-false}
use Rattle.rules_unit.specs.Codes.{Code, decimalb, offset_of, size_of, count_of, element_at, end_of}
use Rattle.rules_unit.specs.Sound.{SoundCode}
use Rattle.rules_unit.proofs.Fields.{some_byte}
use Rattle.rules_unit.proofs.Tells.{Tells, tells_le, tells_eq, tells_as, tells_and}
use Rattle.rules_fence.specs.declared.Breach.TheVariants as breach
use Rattle.rules_fence.specs.Fence.{InElement, SpanFenced}
use Rattle.rules_fence.specs.Breaches.{end_breach, element_breach, apart_of, apart_from, alpha_breach, span_breach}
use Rattle.rules_fence.proofs.Kept.{Kept, kept_none, kept_as, kept_then, kept_either}

-- ---- one element

-- The element of the field f that the byte a lies in, and that element's end.
abbrev pub element_of : Code → ℕ → ℕ → ℕ
element_of c f a = (a - offset_of c f) / size_of c f

abbrev pub element_end : Code → ℕ → ℕ → ℕ
element_end c f a = element_at c f (element_of c f a) + size_of c f

end_tells : (dest : Bool) (e last : ℕ) → Kept (end_breach dest e last) ((last ≤ e) × (dest ≡ true → last ≡ e))
end_tells true e last =
    kept_as (λ r. (r.0, λ z. r.1.0)) (λ r. (r.0, (r.1 refl, tt))) (kept_then breach.OverElements refl (tells_le last e) (λ h. kept_then breach.StopsMidElement refl (tells_eq last e) (λ g. kept_none)))
end_tells false e last = kept_as (λ r. (r.0, λ z. absurd (false≢true z))) (λ r. (r.0, tt)) (kept_then breach.OverElements refl (tells_le last e) (λ h. kept_none))

module _ (c : Code) (s : SoundCode c) (a n : ℕ) (o : 1 ≤ n) where
  module _ (f : ℕ) (h : f < c.fields) (from : offset_of c f ≤ a) (to : a + n ≤ end_of c f) (dest : Bool) where
    pub element_in : a + n ≤ element_end c f a → (dest ≡ true → a + n ≡ element_end c f a) → InElement c dest f a n (element_of c f a)
    element_in below ends =
        record {
          low = (div-lt_iff_lt-mul {x = a - offset_of c f} {y = count_of c f} (s.entries f h).own.some).1 (omega arith);
          from = omega (arith, div-mul-le_self (a - offset_of c f) (size_of c f));
          to = below;
          ends = ends;
        }

    pub element_last : (k : ℕ) → InElement c dest f a n k → element_end c f a ≡ element_at c f k + size_of c f
    element_last k i =
        ap (λ (j : ℕ). element_at c f j + size_of c f)
        (div-eq_of_lt-le {k = k} (size_of c f) {m = a - offset_of c f} (omega (arith, i.from)) (omega (arith, i.from, i.to)))

    element_tells : Kept (element_breach c dest f a n) ((k : ℕ) × InElement c dest f a n k)
    unfolding element_breach
    element_tells =
        kept_as (λ r. (element_of c f a, element_in r.0 r.1)) (λ r. let e = element_last r.0 r.1 in (rw e r.1.to, λ t. r.1.ends t ∙ sym e)) (end_tells dest (element_end c f a) (a + n))

  -- ---- decimal fields

  -- The field g is no decimal one, or shares no byte.
  abbrev pub Apart : ℕ → Type 0
  Apart g = decimalb c g ≡ true → (b : ℕ) → a ≤ b → b < a + n → offset_of c g ≤ b → b < end_of c g → ⊥

  apart_tells : (g : ℕ) → g < c.fields → Tells (apart_of (c.field g) a n) (Apart g)
  apart_tells g h = by (decimalb c g) (leb (a + n) (offset_of c g)) (leb (end_of c g) a) refl refl refl
    where
      full : offset_of c g < end_of c g
      full = some_byte c g (s.entries g h).own

      by : (i j k : Bool) → decimalb c g ≡ i → leb (a + n) (offset_of c g) ≡ j → leb (end_of c g) a ≡ k → Tells (cond i (j || k) true) (Apart g)
      by false j k q l m = record { to = λ e t. absurd (false≢true (sym q ∙ t)); of = λ r. refl }
      by true true k q l m = record { to = λ e t b x y z u. omega (arith, leb-true (a + n) (offset_of c g) l); of = λ r. refl }
      by true false true q l m = record { to = λ e t b x y z u. omega (arith, leb-true (end_of c g) a m); of = λ r. refl }
      by true false false q l m =
          let x = leb-false (a + n) (offset_of c g) l in
          let y = leb-false (end_of c g) a m in
          record { to = λ e. absurd (false≢true e); of = λ r. absurd (r q (max a (offset_of c g)) (omega arith) (omega arith) (omega arith) (omega (arith, full))) }

  -- The k fields from g on, which are the last ones.
  pub apart_from_lem : (k g : ℕ) → g + k ≡ c.fields → Tells (apart_from c a n k g) ((j : ℕ) → g ≤ j → j < c.fields → Apart j)
  unfolding apart_from
  apart_from_lem zero g q = record { to = λ e j l h. absurd (omega arith); of = λ r. refl }
  apart_from_lem (suc k) g q = tells_as gives asks (tells_and (apart_tells g (omega arith)) (apart_from_lem k (g + 1) (omega arith)))
    where
      gives : Apart g × ((j : ℕ) → g + 1 ≤ j → j < c.fields → Apart j) → (j : ℕ) → g ≤ j → j < c.fields → Apart j
      gives r j l h = by (ltb g j) refl
        where
          by : (t : Bool) → ltb g j ≡ t → Apart j
          by true e = r.1 j (omega (arith, ltb-true g j e)) h
          by false e = let w : j ≡ g = omega (arith, ltb-false g j e) in rw w r.0

      asks : ((j : ℕ) → g ≤ j → j < c.fields → Apart j) → Apart g × ((j : ℕ) → g + 1 ≤ j → j < c.fields → Apart j)
      asks f = (f g (omega arith) (omega arith), λ j l h. f j (omega arith) h)

  alpha_tells : (dest : Bool) → Kept (alpha_breach c dest a n) (dest ≡ true → (j : ℕ) → j < c.fields → Apart j)
  unfolding alpha_breach
  alpha_tells true =
      kept_as (λ r t j h. r.0 j (omega arith) h) (λ r. (λ j l h. r refl j h, tt)) (kept_then breach.OnDecimal refl (apart_from_lem c.fields 0 (omega arith)) (λ g. kept_none))
  alpha_tells false = record { to = λ e t. absurd (false≢true t); of = λ r. refl }

  -- ---- the span

  pub span_tells : (dest : Bool) (f : ℕ) → f < c.fields → Kept (span_breach c dest f (span_at a n)) (SpanFenced c dest f a n)
  span_tells dest f h =
      kept_as
      (λ r. record { from = r.0; to = r.1.0; element = r.1.1.0; apart = λ t q g b hg tg. r.1.1.1 t q g hg tg b })
      (λ r. (r.from, (r.to, (r.element, λ t q g hg tg b. r.apart t q g b hg tg))))
      (kept_then breach.LeavesField refl (tells_le (offset_of c f) a)
      (λ x. kept_then breach.LeavesField refl (tells_le (a + n) (end_of c f)) (λ y. kept_either (decimalb c f) (λ t. element_tells f h x y dest) (λ t. alpha_tells dest))))
