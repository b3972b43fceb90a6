-- What the table tells: the bytes from a on share none with a decimal field exactly where they end before the next one starts.
--   ahead_says    the table of a unit that passed its check tells what the fence's rule asks
-- By induction over the fields, for a byte at or above the floor: either the field ends behind it, and then no later field starts before this
-- one ends; or the field lies before it, and the fields after it answer.
-- Assumes nothing.
use Rattle.std.specs.Prelude.{Ok}
use Prim.Native.Nat.{ℕ, zero, suc, ◌+◌, ◌-◌, ◌<◌, ◌≤◌}
use native.Mathlib.Omega.{arith}
use native.Mathlib.Nat.{sub_self, sub-zero}
use mathlib.Core.Path.{◌≡◌, refl, sym, ap, ◌∙◌}
use mathlib.Core.Bool.{Bool, true, false, cond, ◌||◌}
use mathlib.Core.List.{List, ◌++◌}
use lib.Dec.{leb, ltb}
use lib.ListN.{length, get_or, replicate, length-replicate, get_or-replicate, get_or-append, get_or-eq_default}
use lib.Seq.{get_or-append-add}
use borrow.Author.Tests.{le-leb, lt-leb, leb-true, leb-false, ltb-true, ltb-false}
use Rattle.rules_unit.specs.declared.Parts.{Parts}
use Rattle.rules_unit.specs.Codes.{Code, decimalb, offset_of, end_of}
use Rattle.rules_unit.specs.Decode.{code_of}
use Rattle.rules_unit.specs.Checks.{check_of}
use Rattle.rules_unit.specs.Sound.{SoundCode}
use Rattle.rules_unit.proofs.Fields.{some_byte}
use Rattle.rules_unit.proofs.Sound.{passed_sound}
use Rattle.rules_fence.specs.Breaches.{apart_from}
use Rattle.fence_decimals.specs.Ahead.{behind_of, ahead_from, ahead_of, Ahead}
use Rattle.fence_decimals.proofs.Fields.{Above, above_start, above_skip, above_next}

-- ---- lists that start with one number, m times

module _ (m x i : ℕ) (l : List ℕ) where
  front : i < m → get_or (replicate m x ++ l) i 65535 ≡ x
  front h =
      get_or-append (replicate m x) l 65535 i (omega (arith, length-replicate {A = ℕ} m x)) ∙ get_or-replicate {A = ℕ} m i x 65535 h

  past : m ≤ i → get_or (replicate m x ++ l) i 65535 ≡ get_or l (i - m) 65535
  past h =
      let e : i ≡ length (replicate m x) + (i - m) = omega (arith, length-replicate {A = ℕ} m x) in
      ap (λ (j : ℕ). get_or (replicate m x ++ l) j 65535) e ∙ get_or-append-add (replicate m x) l (i - m) 65535

none : (m i : ℕ) → ◌≡◌ {A = ℕ} (get_or (replicate m 65535) i 65535) 65535
none m i = by (ltb i m) refl
  where
    by : (t : Bool) → ltb i m ≡ t → ◌≡◌ {A = ℕ} (get_or (replicate m 65535) i 65535) 65535
    by true h = get_or-replicate {A = ℕ} m i 65535 65535 (ltb-true i m h)
    by false h = get_or-eq_default (replicate m 65535) 65535 (omega (arith, length-replicate {A = ℕ} m 65535, ltb-false i m h))

or_true : (b : Bool) → b || true ≡ true
or_true true = refl
or_true false = refl

-- ---- the n bytes from a on

module _ (c : Code) (s : SoundCode c) (a n : ℕ) where
  -- fields that start behind them are apart
  beyond : (k g floor : ℕ) → g + k ≡ c.fields → Above c g floor → a + n ≤ floor → apart_from c a n k g ≡ true
  unfolding apart_from
  beyond zero g floor e w h = refl
  beyond (suc k) g floor e w h = rw (one (decimalb c g) refl) (beyond k (g + 1) floor (omega arith) (above_skip c g floor w) h)
    where
      one : (t : Bool) → decimalb c g ≡ t → cond t (leb (a + n) (offset_of c g) || leb (end_of c g) a) true ≡ true
      one true t = rw (le-leb (a + n) (offset_of c g) (omega (arith, w.each g (omega arith) (omega arith) t)))
      one false t = refl

  -- what the table has for a and what the rule says are one, where t says whether the first of the fields is decimal
  abbrev Agree : ℕ → ℕ → ℕ → Bool → Type 0
  Agree k g floor t =
      leb (a + n) (get_or (replicate (cond t (end_of c g) floor - floor) (offset_of c g) ++ ahead_from c k (g + 1) (cond t (end_of c g) floor)) (a - floor) 65535)
      ≡ cond (cond t (leb (a + n) (offset_of c g) || leb (end_of c g) a) true) (apart_from c a n k (g + 1)) false

  -- the field ends behind the byte a
  ends_behind : (k g floor : ℕ) → floor ≤ a → a < end_of c g → (a + n ≤ offset_of c g → apart_from c a n k (g + 1) ≡ true) → Agree k g floor true
  ends_behind k g floor h l f =
      rw (front (end_of c g - floor) (offset_of c g) (a - floor) (ahead_from c k (g + 1) (end_of c g)) (omega arith), lt-leb (end_of c g) a l)
      (by (leb (a + n) (offset_of c g)) refl)
    where
      by : (t : Bool) → leb (a + n) (offset_of c g) ≡ t → t ≡ cond (t || false) (apart_from c a n k (g + 1)) false
      by true q = sym (f (leb-true (a + n) (offset_of c g) q))
      by false q = refl

  -- .. or before it
  ends_before : (k g floor : ℕ) → floor ≤ end_of c g → end_of c g ≤ a
      → leb (a + n) (get_or (ahead_from c k (g + 1) (end_of c g)) (a - end_of c g) 65535) ≡ apart_from c a n k (g + 1) → Agree k g floor true
  ends_before k g floor h l e =
      let d : a - floor - (end_of c g - floor) ≡ a - end_of c g = omega arith in
      rw (past (end_of c g - floor) (offset_of c g) (a - floor) (ahead_from c k (g + 1) (end_of c g)) (omega arith), d, le-leb (end_of c g) a l, or_true (leb (a + n) (offset_of c g))) e

  no_decimal : (k g floor : ℕ) → leb (a + n) (get_or (ahead_from c k (g + 1) floor) (a - floor) 65535) ≡ apart_from c a n k (g + 1) → Agree k g floor false
  no_decimal k g floor e = rw (sub_self floor) e

  -- what the fields after the first one say, whatever the floor is
  abbrev Rest : ℕ → ℕ → Type 0
  Rest k g = (floor : ℕ) → Above c g floor → floor ≤ a → leb (a + n) (get_or (ahead_from c k g floor) (a - floor) 65535) ≡ apart_from c a n k g

  says : (k g floor : ℕ) → a + n ≤ 65535 → g + k ≡ c.fields → Above c g floor → floor ≤ a
      → leb (a + n) (get_or (ahead_from c k g floor) (a - floor) 65535) ≡ apart_from c a n k g
  unfolding ahead_from apart_from
  says zero g floor b e w h = rw (none (16384 - floor) (a - floor)) (le-leb (a + n) 65535 b)
  says (suc k) g floor b e w h = by (decimalb c g) (leb (end_of c g) a) refl refl (λ next. says k (g + 1) next b (omega arith))
    where
      low : decimalb c g ≡ true → floor < end_of c g
      low t = omega (arith, w.each g (omega arith) (omega arith) t, some_byte c g (s.entries g (omega arith)).own)

      next : Above c (g + 1) (behind_of (c.field g) floor)
      next = above_next c s g floor (omega arith) w

      by : (t v : Bool) → decimalb c g ≡ t → leb (end_of c g) a ≡ v → Rest k (g + 1) → Agree k g floor t
      by true true t v rest =
          let l = leb-true (end_of c g) a v in
          let u : Above c (g + 1) (end_of c g) = rw t at next in
          ends_before k g floor (omega (arith, low t)) l (rest (end_of c g) u l)
      by true false t v rest =
          let l = leb-false (end_of c g) a v in
          let u : Above c (g + 1) (end_of c g) = rw t at next in
          ends_behind k g floor h l (λ q. beyond k (g + 1) (end_of c g) (omega arith) u (omega (arith, some_byte c g (s.entries g (omega arith)).own)))
      by false v t q rest = no_decimal k g floor (rest floor (above_skip c g floor w) h)

-- ---- the whole table

pub ahead_says : (u : List ℕ) (p : Parts) → check_of u ≡ Ok p → (ahead : List ℕ) → ahead ≡ ahead_of (code_of u p) → Ahead (code_of u p) ahead
unfolding ahead_of
ahead_says u p e ahead q = rw q (record { so = told })
  where
    told : (a n : ℕ) → a + n ≤ p.d → leb (a + n) (get_or (ahead_from (code_of u p) p.f 0 0) a 65535) ≡ apart_from (code_of u p) a n p.f 0
    told a n h =
        let w = passed_sound u p e in
        ap (λ (i : ℕ). leb (a + n) (get_or (ahead_from (code_of u p) p.f 0 0) i 65535)) (sym (sub-zero a))
        ∙ says (code_of u p) w.code a n p.f 0 0 (omega (arith, w.ranges.d_most)) (omega arith) (above_start (code_of u p)) (omega arith)
