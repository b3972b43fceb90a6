-- When a number is not to be had (document 01, "Values and references" and "Moves and arithmetic"): of each fault the cause, both ways.
--   kept_20, read_20     more than 18 digits: of a result, of a decimal span
--   read_22              bad digit: of a decimal span that is not too long
--   div_23, round_26     zero divisor, rounding count
-- Assumes nothing.
use Rattle.std.specs.Prelude.{Result, Err, Ok}
use Prim.Native.Nat.{ℕ, ◌+◌, ◌-◌, ◌*◌, ◌<◌, ◌≤◌}
use native.Mathlib.Omega.{arith}
use mathlib.Core.Path.{◌≡◌, refl, sym, ◌∙◌}
use mathlib.Core.Bool.{Bool, true, false, cond}
use mathlib.Core.Logic.{◌↔◌}
use mathlib.Core.List.{List, [], ◌∷◌}
use lib.Dec.{ltb, leb, eqb}
use lib.IntN.{ℤ, pos, negsuc, nat_abs}
use lib.Signed.{quot_z}
use lib.ListN.{length}
use borrow.Author.Tests.{ltb-true, ltb-false, lt-ltb, le-ltb, leb-true, leb-false, eqb-true, eq-eqb}
use Rattle.rules.specs.declared.Fault.{Fault}
use Rattle.rules.specs.declared.Fault.TheVariants as fault
use Rattle.rules.specs.Values.{signed, is_from, Valid, read_from, padded_read, read_of}
use Rattle.rules.specs.Arithmetic.{kept, div_of, rounded, round_of}
use Rattle.rules.proofs.Walk.{cond_case}
use Rattle.rules.proofs.Valid.{reads_valid, valid_reads}

not_failed : (v : ℤ) (f : Fault) → Ok v ≡ Err f → ⊥
not_failed v f e = let z : ◌≡◌ {A = ℕ} 0 1 = cc in omega arith

-- ---- results

pub kept_20 : (top : ℕ) (z : ℤ) → (kept top z ≡ Err fault.TooLong) ↔ top ≤ nat_abs z
kept_20 top z = (by (ltb (nat_abs z) top) refl, λ h. rw (le-ltb (nat_abs z) top h))
  where
    by : (t : Bool) → ltb (nat_abs z) top ≡ t → cond t (Ok z) (Err fault.TooLong) ≡ Err fault.TooLong → top ≤ nat_abs z
    by true e q = absurd (not_failed z fault.TooLong q)
    by false e q = ltb-false (nat_abs z) top e

pub div_23 : (a b : ℤ) → (div_of a b ≡ Err fault.ZeroDivisor) ↔ (nat_abs b ≡ 0)
div_23 a b = (by (eqb (nat_abs b) 0) refl, λ h. rw (eq-eqb (nat_abs b) 0 h))
  where
    by : (t : Bool) → eqb (nat_abs b) 0 ≡ t → cond t (Err fault.ZeroDivisor) (Ok (quot_z a b)) ≡ Err fault.ZeroDivisor → nat_abs b ≡ 0
    by true e q = eqb-true (nat_abs b) 0 e
    by false e q = absurd (not_failed (quot_z a b) fault.ZeroDivisor q)

-- "k outside 0 to 18 is 26"
pub round_26 : (v k : ℤ) → (round_of v k ≡ Err fault.RoundCount) ↔ ((n : ℕ) → k ≡ pos n → n ≤ 18 → ⊥)
round_26 v (pos k) = (λ q n e h. by (leb k 18) refl q (omega (arith, h, same n e)), λ none. of (leb k 18) refl none)
  where
    same : (n : ℕ) → pos k ≡ pos n → k ≡ n
    same n e = cc

    by : (t : Bool) → leb k 18 ≡ t → cond t (Ok (rounded v k)) (Err fault.RoundCount) ≡ Err fault.RoundCount → k ≤ 18 → ⊥
    by true e q h = not_failed (rounded v k) fault.RoundCount q
    by false e q h = omega (arith, leb-false k 18 e, h)

    of : (t : Bool) → leb k 18 ≡ t → ((n : ℕ) → pos k ≡ pos n → n ≤ 18 → ⊥) → cond t (Ok (rounded v k)) (Err fault.RoundCount) ≡ Err fault.RoundCount
    of true e none = absurd (none k refl (leb-true k 18 e))
    of false e none = refl
round_26 v (negsuc k) = (λ q n e h. other n e, λ none. refl)
  where
    other : (n : ℕ) → negsuc k ≡ pos n → ⊥
    other n e = let z : ◌≡◌ {A = ℕ} 0 1 = cc in omega arith

-- ---- decimals

-- A character that is none ends the reading, with 22 and nothing else.
from_22 : (sign acc b : ℕ) (bs : List ℕ) (f : Fault) → read_from sign acc b bs ≡ Err f → f ≡ fault.BadDigit
unfolding read_from
from_22 sign acc b [] f = by (is_from 48 b) (is_from sign b)
  where
    by : (t u : Bool) → cond t (Ok (pos (acc * 10 + (b - 48)))) (cond u (Ok (signed true (acc * 10 + (b - sign)))) (Err fault.BadDigit)) ≡ Err f → f ≡ fault.BadDigit
    by true u q = absurd (not_failed (pos (acc * 10 + (b - 48))) f q)
    by false true q = absurd (not_failed (signed true (acc * 10 + (b - sign))) f q)
    by false false q = cc
from_22 sign acc b (x ∷ xs) f = by (is_from 48 b) (from_22 sign (acc * 10 + (b - 48)) x xs f)
  where
    by : (t : Bool) → (read_from sign (acc * 10 + (b - 48)) x xs ≡ Err f → f ≡ fault.BadDigit)
        → cond t (read_from sign (acc * 10 + (b - 48)) x xs) (Err fault.BadDigit) ≡ Err f
        → f ≡ fault.BadDigit
    by true rest q = rest q
    by false rest q = cc

padded_22 : (sign : ℕ) (s : List ℕ) (f : Fault) → padded_read sign s ≡ Err f → f ≡ fault.BadDigit
unfolding padded_read
padded_22 sign [] f = λ q. absurd (not_failed (pos 0) f q)
padded_22 sign (b ∷ bs) f =
    cond_case (λ (r : Result ℤ Fault). r ≡ Err f → f ≡ fault.BadDigit) (eqb b 32) (padded_read sign bs) (read_from sign 0 b bs) (λ e. padded_22 sign bs f) (λ e. from_22 sign 0 b bs f)

not_same : fault.BadDigit ≡ fault.TooLong → ⊥
not_same e = let z : ◌≡◌ {A = ℕ} 0 1 = cc in omega arith

failed_same : (f g : Fault) → ◌≡◌ {A = Result ℤ Fault} (Err f) (Err g) → f ≡ g
failed_same f g e = cc

module _ (limit sign : ℕ) where
  pub read_20 : (s : List ℕ) → (read_of limit sign s ≡ Err fault.TooLong) ↔ limit < length s
  unfolding read_of
  read_20 [] = (λ q. absurd (not_same (failed_same fault.BadDigit fault.TooLong q)), λ h. absurd (omega (arith, h)))
  read_20 (b ∷ bs) = (by (ltb limit (length (b ∷ bs))) refl, λ h. rw (lt-ltb limit (length (b ∷ bs)) h))
    where
      by : (t : Bool) → ltb limit (length (b ∷ bs)) ≡ t → cond t (Err fault.TooLong) (padded_read sign (b ∷ bs)) ≡ Err fault.TooLong → limit < length (b ∷ bs)
      by true e q = ltb-true limit (length (b ∷ bs)) e
      by false e q = absurd (not_same (sym (padded_22 sign (b ∷ bs) fault.TooLong q)))

  short_22 : (s : List ℕ) (f : Fault) → length s ≤ limit → read_of limit sign s ≡ Err f → f ≡ fault.BadDigit
  unfolding read_of
  short_22 [] f h q = cc
  short_22 (b ∷ bs) f h q = padded_22 sign (b ∷ bs) f (rw (le-ltb limit (length (b ∷ bs)) h) at q)

  pub read_22 : (s : List ℕ) → (read_of limit sign s ≡ Err fault.BadDigit) ↔ (length s ≤ limit) × (Valid limit sign s → ⊥)
  read_22 s = (λ q. (by q (ltb limit (length s)) refl, λ v. let w = valid_reads v in not_failed w.0 fault.BadDigit (sym w.1 ∙ q)), λ h. of (read_of limit sign s) refl h)
    where
      by : read_of limit sign s ≡ Err fault.BadDigit → (t : Bool) → ltb limit (length s) ≡ t → length s ≤ limit
      by q true e = absurd (not_same (failed_same fault.BadDigit fault.TooLong (sym q ∙ (read_20 s).1 (ltb-true limit (length s) e))))
      by q false e = ltb-false limit (length s) e

      of : (r : Result ℤ Fault) → read_of limit sign s ≡ r → (length s ≤ limit) × (Valid limit sign s → ⊥) → r ≡ Err fault.BadDigit
      of (Ok v) q h = absurd (h.1 (reads_valid q))
      of (Err f) q h = let e = short_22 s f h.0 q in rw e
