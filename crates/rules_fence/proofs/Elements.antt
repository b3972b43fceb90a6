-- The elements of decimal fields over valid data (document 01, "Fence rules"): a fenced decimal span reads as a number, and a store at a fenced
-- destination leaves every element valid. Of its own element it keeps the head and writes the tail, and of the others it touches no byte.
-- Assumes nothing.
use Rattle.std.specs.Prelude.{Ok}
use Prim.Native.Nat.{ℕ, ◌+◌, ◌-◌, ◌*◌, ◌<◌, ◌≤◌, max}
use native.Mathlib.Omega.{arith}
use native.Mathlib.Nat.{mul-le-mul_right}
use mathlib.Core.Path.{◌≡◌, refl, ap}
use mathlib.Core.Bool.{Bool, true, false}
use mathlib.Core.List.{List}
use lib.Dec.{ltb, leb}
use lib.IntN.{ℤ}
use lib.ListN.{length, take, drop}
use borrow.Author.Tests.{ltb-true, ltb-false, leb-true, leb-false}
use Rattle.rules.specs.Values.{Valid, Figures}
use Rattle.rules.proofs.Valid.{valid_reads}
use Rattle.rules.proofs.Sizes.{part_length}
use Rattle.rules.proofs.ValidParts.{part_valid, keep_valid}
use Rattle.rules_unit.specs.Codes.{Code, decimalb, offset_of, size_of, count_of, element_at, end_of}
use Rattle.rules_unit.specs.Sound.{SoundCode}
use Rattle.rules_unit.proofs.Sound.{one_field}
use Rattle.rules_run.specs.Evaluation.{read_at}
use Rattle.rules_run.specs.Turns.{stored}
use Rattle.rules_fence.specs.Fence.{SpanFenced}
use Rattle.rules_fence.specs.Destinations.{AllValid}
use Rattle.rules_fence.proofs.Parts.{part_part, part_before, part_behind, part_tail}

-- An element ends inside its field.
pub element_end_lem : (o s m k : ℕ) → k < m → o + k * s + s ≤ o + m * s
element_end_lem o s m k h = omega (arith, mul-le-mul_right s h)

-- A byte lies in one element only.
same_element : (o s k l p : ℕ) → o + k * s ≤ p → p < o + k * s + s → o + l * s ≤ p → p < o + l * s + s → k ≡ l
same_element o s k l p a b e f = by (ltb k l) (ltb l k) refl refl
  where
    by : (t u : Bool) → ltb k l ≡ t → ltb l k ≡ u → k ≡ l
    by true u x y = absurd (omega (arith, mul-le-mul_right s (ltb-true k l x)))
    by false true x y = absurd (omega (arith, mul-le-mul_right s (ltb-true l k y)))
    by false false x y = omega (arith, ltb-false k l x, ltb-false l k y)

module _ (c : Code) (s : SoundCode c) where
  element_in : (f k : ℕ) → f < c.fields → k < count_of c f → element_at c f k + size_of c f ≤ c.size
  element_in f k h l = omega (arith, element_end_lem (offset_of c f) (size_of c f) (count_of c f) k l, (s.entries f h).own.inside)

  -- A fenced span lies inside the data, and a decimal one is no longer than a number.
  pub span_inside : {dest : Bool} {f a n : ℕ} → f < c.fields → SpanFenced c dest f a n → a + n ≤ c.size
  span_inside {dest} {f} h r = omega (arith, r.to, (s.entries f h).own.inside)

  pub span_short : {dest : Bool} {f a n : ℕ} → f < c.fields → decimalb c f ≡ true → SpanFenced c dest f a n → n ≤ c.dialect.limit
  span_short {dest} {f} h t r = let i = (r.element t).1 in omega (arith, i.from, i.to, (s.entries f h).own.short t)

  module _ (d : List ℕ) (e : length d ≡ c.size) (v : AllValid c d) where
    -- "a bad digit can come only from moving alpha text": a fenced decimal span reads as a number.
    pub span_reads : {dest : Bool} {f a n : ℕ} → f < c.fields → decimalb c f ≡ true → 1 ≤ n → SpanFenced c dest f a n → (z : ℤ) × (read_at c d a n ≡ Ok z)
    span_reads {dest} {f} {a} {n} h t o r =
        let k = (r.element t).0 in
        let i = (r.element t).1 in
        let u : element_at c f k + size_of c f ≤ length d = omega (arith, element_in f k h i.low) in
        let w = part_part d (element_at c f k) (size_of c f) a n u i.from i.to in
        valid_reads
        (rw w at (part_valid (a - element_at c f k) n (v.valid f k h t i.low) o (omega (arith, i.from, i.to, part_length d (element_at c f k) (size_of c f) u))))

    -- New characters at a fenced destination, that are a decimal without spaces where it is decimal.
    module _ (f a n : ℕ) (new : List ℕ) (h : f < c.fields) (r : SpanFenced c true f a n) (q : length new ≡ n) (o : 1 ≤ n)
        (w : decimalb c f ≡ true → Figures c.dialect.limit c.dialect.sign new) where
      room : a + length new ≤ length d
      room = omega (arith, span_inside h r)

      store_element : (g k : ℕ) → g < c.fields → decimalb c g ≡ true → k < count_of c g
          → Valid c.dialect.limit c.dialect.sign (take (size_of c g) (drop (element_at c g k) (stored d a new)))
      store_element g k hg tg l = by (leb (element_at c g k + size_of c g) a) (leb (a + n) (element_at c g k)) refl refl
        where
          u : element_at c g k + size_of c g ≤ length d
          u = omega (arith, element_in g k hg l)

          by : (x y : Bool) → leb (element_at c g k + size_of c g) a ≡ x → leb (a + n) (element_at c g k) ≡ y
              → Valid c.dialect.limit c.dialect.sign (take (size_of c g) (drop (element_at c g k) (stored d a new)))
          by true y p t = rw (part_before d a new room (element_at c g k) (size_of c g) u (leb-true (element_at c g k + size_of c g) a p)) (v.valid g k hg tg l)
          by false true p t =
              let t' : a + n ≤ element_at c g k = leb-true (a + n) (element_at c g k) t in
              rw (part_behind d a new room (element_at c g k) (size_of c g) u (omega arith)) (v.valid g k hg tg l)
          by false false p t = own (decimalb c f) refl
            where
              -- The two have the byte max a (element_at c g k) in common.
              x₁ : a < element_at c g k + size_of c g
              x₁ = leb-false (element_at c g k + size_of c g) a p

              x₂ : element_at c g k < a + n
              x₂ = leb-false (a + n) (element_at c g k) t

              y₁ : 1 ≤ size_of c g
              y₁ = (s.entries g hg).own.some

              high : max a (element_at c g k) < end_of c g
              high = omega (arith, x₁, x₂, y₁, element_end_lem (offset_of c g) (size_of c g) (count_of c g) k l)

              own : (t : Bool) → decimalb c f ≡ t → Valid c.dialect.limit c.dialect.sign (take (size_of c g) (drop (element_at c g k) (stored d a new)))
              own false t = absurd (r.apart t refl g (max a (element_at c g k)) hg tg (omega arith) (omega (arith, x₂)) (omega arith) high)
              own true t =
                  let i = (r.element t).1 in
                  let fg : f ≡ g = one_field c s f g (max a (element_at c g k)) h hg t tg (omega (arith, r.from)) (omega (arith, r.to, x₂)) (omega arith) high in
                  let E : element_at c f (r.element t).0 ≡ element_at c g (r.element t).0 = ap (λ (x : ℕ). element_at c x (r.element t).0) fg in
                  let Z : size_of c f ≡ size_of c g = ap (size_of c) fg in
                  let kk : (r.element t).0 ≡ k = same_element (offset_of c g) (size_of c g) (r.element t).0 k (max a (element_at c g k)) (omega (arith, i.from, E)) (omega (arith, i.to, E, Z, x₂)) (omega arith) (omega (arith, x₁, y₁)) in
                  let K : element_at c g (r.element t).0 ≡ element_at c g k = ap (element_at c g) kk in
                  let lo : element_at c g k ≤ a = omega (arith, i.from, E, K) in
                  let end : a + length new ≡ element_at c g k + size_of c g = omega (arith, i.ends refl, E, Z, K) in
                  rw (part_tail d a new room (element_at c g k) (size_of c g) u lo end)
                  (keep_valid (a - element_at c g k) (v.valid g k hg tg l) (w t) (omega (arith, part_length d (element_at c g k) (size_of c g) u)))

      pub store_valid : AllValid c (stored d a new)
      store_valid = record { valid = store_element }
