-- What the moves write (document 01, "Moves and arithmetic"): how long each text is, that a written number reads back as the digits that were
-- kept with their sign, and that what is written to a decimal is valid and has no spaces.
-- Assumes nothing.
use Rattle.std.specs.Prelude.{Ok}
use mathlib.Core.Path.{◌≡◌, refl, sym, ap, ◌∙◌}
use mathlib.Core.Bool.{Bool, true, false, cond}
use mathlib.Core.Logic.{inl}
use mathlib.Core.List.{List, [], ◌∷◌}
use Prim.Native.Nat.{ℕ, zero, suc, ◌+◌, ◌-◌, ◌*◌, ◌/◌, ◌%◌, ◌^◌, ◌≤◌, ◌<◌}
use native.Mathlib.Nat.{pow-suc, mod-lt, div-one, add-mul, mul_assoc, mul_comm, add_assoc, add-sub_cancel_left}
use native.Mathlib.Numerals.{add-one}
use native.Mathlib.Omega.{arith}
use lib.Arith.{mod-mul}
use lib.Dec.{ltb, leb, eqb, lit<}
use lib.IntN.{ℤ, nat_abs}
use lib.ListN.{length, get_or, length-replicate, get_or-replicate, length-map}
use borrow.Author.Tests.{ltb-true, leb-true, lt-ltb, le-ltb, le-leb, lt-leb, ne_eqb}
use Rattle.rules.proofs.Tests.{both}
use Rattle.rules.specs.Tests.{◌and◌}
use Rattle.rules.specs.Values.{Letters, signed, is_neg, is_from, Figures, last_digit, read_from, padded_read, read_of}
use Rattle.rules.specs.Moves.{placed, zero_at, digit_at, written, shown_at, width, shown, fitted, upper, lower, upcased, locased, blanks, zeros}
use Rattle.rules.proofs.Signed.{pow_pos10}
use Rattle.rules.proofs.Valid.{reads_figures}

-- ---- lengths

pub length_placed : (f : ℕ → ℕ) (n : ℕ) → length (placed f n) ≡ n
unfolding placed
length_placed f zero = refl
length_placed f (suc n) = ap suc (length_placed f n)

pub length_written : (sign n : ℕ) (v : ℤ) → length (written sign n v) ≡ n
length_written sign n v = length_placed (digit_at (cond (is_neg v and ltb 0 (nat_abs v % 10 ^ n)) sign 48) (nat_abs v)) n

pub length_shown : (n : ℕ) (v : ℤ) → length (shown n v) ≡ n
length_shown n v = length_placed (shown_at (is_neg v) (nat_abs v) (width (nat_abs v))) n

pub length_fitted : (n : ℕ) (s : List ℕ) → length (fitted n s) ≡ n
unfolding fitted
length_fitted zero s = refl
length_fitted (suc n) [] = ap suc (length_fitted n [])
length_fitted (suc n) (x ∷ xs) = ap suc (length_fitted n xs)

pub length_upcased : (s : List ℕ) → length (upcased s) ≡ length s
length_upcased s = length-map s upper

pub length_locased : (s : List ℕ) → length (locased s) ≡ length s
length_locased s = length-map s lower

pub length_blanks : (n : ℕ) → length (blanks n) ≡ n
length_blanks n = length-replicate {A = ℕ} n 32

pub length_zeros : (n : ℕ) → length (zeros n) ≡ n
length_zeros n = length-replicate {A = ℕ} n _

-- ---- one of ten characters

pub from_yes : (z b : ℕ) → z ≤ b → b < z + 10 → is_from z b ≡ true
from_yes z b h k = simp (le-leb z b h, lt-ltb b (z + 10) k)

pub from_low : (z b : ℕ) → b < z → is_from z b ≡ false
from_low z b h = simp (lt-leb z b h)

pub from_high : (z b : ℕ) → z + 10 ≤ b → is_from z b ≡ false
from_high z b h = simp (le-leb z b (omega arith), le-ltb b (z + 10) h)

-- The digit that it stands for.
pub from_digit : (z b : ℕ) → is_from z b ≡ true → b - z < 10
from_digit z b e =
    let t = (both (leb z b) (ltb b (z + 10))).0 e in
    omega (arith, leb-true z b t.0, ltb-true b (z + 10) t.1)

-- ---- digits of numbers

-- One digit more after the i digits of acc.
pub more_digits : (acc i d : ℕ) → acc < 10 ^ i → d < 10 → acc * 10 + d < 10 ^ (i + 1)
more_digits acc i d h k = rw (add-one i, pow-suc 10 i) (omega arith)

-- The digits of m below a power are its first digit there and those below.
kept_digits : (m k : ℕ) → m % 10 ^ suc k ≡ m / 10 ^ k % 10 * 10 ^ k + m % 10 ^ k
kept_digits m k = ap (λ (p : ℕ). m % p) (pow-suc 10 k ∙ mul_comm (10 ^ k) 10) ∙ mod-mul m {m = 10} {c = 10 ^ k} (lit< tt) (pow_pos10 k)

-- The first of the digits of m that stand after those of acc is taken over to acc.
pub next_digit : (acc m k : ℕ) → (acc * 10 + m / 10 ^ k % 10) * 10 ^ k + m % 10 ^ k ≡ acc * 10 ^ suc k + m % 10 ^ suc k
next_digit acc m k =
    let p = 10 ^ k in
    let d = m / p % 10 in
    ap (λ (x : ℕ). x + m % p) (add-mul (acc * 10) d p ∙ ap (λ (x : ℕ). x + d * p) (mul_assoc acc 10 p ∙ ap (λ (x : ℕ). acc * x) (mul_comm 10 p ∙ sym (pow-suc 10 k))))
    ∙ add_assoc (acc * 10 ^ suc k) (d * p) (m % p)
    ∙ ap (λ (x : ℕ). acc * 10 ^ suc k + x) (sym (kept_digits m k))

-- ---- a written number reads back

-- Where all digits kept are 0 there is no sign, and none is needed.
sign_kept : (t : Bool) (x : ℕ) → signed (t and ltb 0 x) x ≡ signed t x
sign_kept false x = refl
sign_kept true zero = refl
sign_kept true (suc x) = rw (lt-ltb 0 (suc x) (omega arith))

module _ {sign : ℕ} (letters : Letters sign) where
  read_one : (t : Bool) (acc d : ℕ) → d < 10 → last_digit sign acc (cond t sign 48 + d) ≡ Ok (signed t (acc * 10 + d))
  read_one true acc d h = simp (from_high 48 (sign + d) (omega (arith, letters.above)), from_yes sign (sign + d) (omega arith) (omega arith), add-sub_cancel_left)
  read_one false acc d h = simp (from_yes 48 (48 + d) (omega arith) (omega arith), add-sub_cancel_left)

  read_digits : (t : Bool) (k m acc : ℕ) → read_from sign acc (zero_at (cond t sign 48) k + m / 10 ^ k % 10) (placed (digit_at (cond t sign 48) m) k) ≡ Ok (signed t (acc * 10 ^ suc k + m % 10 ^ suc k))
  unfolding read_from placed
  read_digits t zero m acc = read_one t acc (m / 1 % 10) (mod-lt (m / 1) (lit< tt)) ∙ rw (div-one m)
  read_digits t (suc k) m acc =
      let d = m / 10 ^ suc k % 10 in
      let h : d < 10 = mod-lt (m / 10 ^ suc k) (lit< tt) in
      rw (from_yes 48 (48 + d) (omega arith) (omega arith), add-sub_cancel_left 48 d)
      (read_digits t k m (acc * 10 + d) ∙ ap (λ (x : ℕ). Ok (signed t x)) (next_digit acc m (suc k)))

  -- The first character that is written is no space.
  first_figure : (t : Bool) (k d : ℕ) → eqb (zero_at (cond t sign 48) k + d) 32 ≡ false
  first_figure true zero d = ne_eqb (sign + d) 32 (λ q. omega (arith, letters.above))
  first_figure false zero d = ne_eqb (48 + d) 32 (λ q. omega arith)
  first_figure t (suc k) d = ne_eqb (48 + d) 32 (λ q. omega arith)

  -- A number that was written reads as its last n digits, with its sign.
  pub read_written : (limit n : ℕ) (v : ℤ) → 1 ≤ n → n ≤ limit → read_of limit sign (written sign n v) ≡ Ok (signed (is_neg v) (nat_abs v % 10 ^ n))
  unfolding read_of padded_read placed
  read_written limit zero v h l = absurd (omega arith)
  read_written limit (suc k) v h l =
      let m = nat_abs v in
      let x = m % 10 ^ suc k in
      let t = is_neg v and ltb 0 x in
      rw (length_placed (digit_at (cond t sign 48) m) k, le-ltb limit (suc k) l, first_figure t k (m / 10 ^ k % 10))
      (read_digits t k m 0 ∙ ap (λ (y : ℕ). Ok (signed t y)) (omega arith) ∙ ap Ok (sign_kept (is_neg v) x))

  -- "Writing never makes such spaces.", nor anything else that is not valid.
  pub written_figures : (limit n : ℕ) (v : ℤ) → 1 ≤ n → n ≤ limit → Figures limit sign (written sign n v)
  unfolding placed
  written_figures limit zero v h l = absurd (omega arith)
  written_figures limit (suc k) v h l =
      let m = nat_abs v in
      let t = is_neg v and ltb 0 (m % 10 ^ suc k) in
      reads_figures (rw (length_placed (digit_at (cond t sign 48) m) k) l) (read_digits t k m 0)

-- What CLEAR writes to a decimal has no spaces either.
pub zeros_figures : (limit sign n : ℕ) → 1 ≤ n → n ≤ limit → Figures limit sign (zeros n)
zeros_figures limit sign n h l =
    record {
      some = omega (arith, length_zeros n);
      most = omega (arith, length_zeros n);
      digits = λ j k. at j (omega (arith, length_zeros n));
      last = inl (at (length (zeros n) - 1) (omega (arith, length_zeros n)));
    }
  where
    at : (j : ℕ) → j < n → is_from 48 (get_or (zeros n) j 0) ≡ true
    at j k = rw (get_or-replicate {A = ℕ} n j _ 0 k)
