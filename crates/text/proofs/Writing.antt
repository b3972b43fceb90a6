-- Laws of text that is written from the right, and of a number's width: each character goes by its place counted from the right.
-- Assumes nothing.
use mathlib.Core.Path.{◌≡◌, refl, sym, ap, ap₂, ◌∙◌}
use mathlib.Core.Bool.{true}
use mathlib.Core.List.{List, [], ◌∷◌}
use Prim.Native.Nat.{ℕ, zero, suc, ◌+◌, ◌-◌, ◌/◌, ◌%◌, ◌^◌, ◌≤◌, ◌<◌}
use native.Mathlib.Nat.{pow-suc, div-div-eq-div-mul, div-one, le_refl, sub_self, mod-lt}
use native.Mathlib.Numerals.{add-one}
use native.Mathlib.Omega.{arith}
use lib.Dec.{lit<}
use lib.IntN.{ℤ, nat_abs}
use lib.ListN.{length, set, drop, length-set, drop_of_length-le}
use lib.Seq.{drop-cons, get_or-set_same, drop-set-lt}
use borrow.Author.Tests.{lt-ltb, le-ltb}
use Rattle.rules.specs.Values.{is_neg}
use Rattle.rules.specs.Moves.{zero_at, placed, digit_at, written, width_from}

-- ---- a loop from the right: what stands from i on is the last of the whole

module _ (f : ℕ → ℕ) where
  right_more : (s : List ℕ) (i k b : ℕ) → i < length s → drop (i + 1) s ≡ placed f k → b ≡ f k → drop i (set s i b) ≡ placed f (suc k)
  unfolding placed
  right_more s i k b h e g =
      drop-cons (set s i b) i 0 (rw (length-set s i b) h)
      ∙ ap₂ ◌∷◌ (get_or-set_same s i b 0 h ∙ g) (drop-set-lt (suc i) s i b (omega arith) ∙ ap (λ (j : ℕ). drop j s) (sym (add-one i)) ∙ e)

  pub right_start : (s : List ℕ) → drop (length s) s ≡ placed f (length s - length s)
  unfolding placed
  right_start s = rw (sub_self (length s)) (drop_of_length-le s (le_refl (length s)))

  -- one character more, at i - 1
  pub right_next : (n : ℕ) (s : List ℕ) (i b : ℕ) → 0 < i → i ≤ n → length s ≡ n → b ≡ f (n - i) → drop i s ≡ placed f (n - i) → drop (i - 1) (set s (i - 1) b) ≡ placed f (n - (i - 1))
  right_next n s i b h g l e d =
      let k : n - (i - 1) ≡ suc (n - i) = omega arith in
      let j : i - 1 + 1 ≡ i = omega arith in
      rw k (right_more s (i - 1) (n - i) b (omega arith) (ap (λ (x : ℕ). drop x s) j ∙ d) e)

-- ---- the digits that are left

pub left_start : (m n : ℕ) → m ≡ m / 10 ^ (n - n)
left_start m n = rw (sub_self n) (sym (div-one m))

pub left_next : (m n left i : ℕ) → 0 < i → i ≤ n → left ≡ m / 10 ^ (n - i) → left / 10 ≡ m / 10 ^ (n - (i - 1))
left_next m n left i h g q =
    let k : n - (i - 1) ≡ suc (n - i) = omega arith in
    rw k (ap (λ (x : ℕ). x / 10) q ∙ div-div-eq-div-mul m (10 ^ (n - i)) 10 ∙ ap (λ (x : ℕ). m / x) (sym (pow-suc 10 (n - i))))

zero_48 : (k : ℕ) → zero_at 48 k ≡ 48
zero_48 zero = refl
zero_48 (suc k) = refl

pub digit_left : (m left k : ℕ) → left ≡ m / 10 ^ k → 48 + left % 10 ≡ digit_at 48 m k
digit_left m left k q = ap₂ (λ (z x : ℕ). z + x % 10) (sym (zero_48 k)) q

-- ---- the sign

-- the last character set anew
set_last : (z k m : ℕ) → set (placed (digit_at 48 m) (suc k)) k (z + m % 10) ≡ placed (digit_at z m) (suc k)
unfolding placed
set_last z zero m = ap (λ (x : ℕ). (z + x % 10) ∷ []) (sym (div-one m))
set_last z (suc k) m = ap (λ (l : List ℕ). (48 + m / 10 ^ suc k % 10) ∷ l) (set_last z k m)

pub sign_set : (z n m : ℕ) → 1 ≤ n → set (placed (digit_at 48 m) n) (n - 1) (z + m % 10) ≡ placed (digit_at z m) n
sign_set z zero m h = absurd (omega arith)
sign_set z (suc k) m h = ap (λ (j : ℕ). set (placed (digit_at 48 m) (suc k)) j (z + m % 10)) (omega arith) ∙ set_last z k m

-- where digits are kept there is room for them
pub some_room : (n m : ℕ) → 0 < m % 10 ^ n → 1 ≤ n
some_room zero m h = omega (arith, mod-lt m {m = 1} (lit< tt))
some_room (suc n) m h = omega arith

pub written_minus : (sign n : ℕ) (v : ℤ) → is_neg v ≡ true → 0 < nat_abs v % 10 ^ n → written sign n v ≡ placed (digit_at sign (nat_abs v)) n
written_minus sign n v e h = simp (e, lt-ltb 0 (nat_abs v % 10 ^ n) h)

-- ---- the width: with w digits tried, 18 - w are still to be tried

module _ (w m : ℕ) where
  pub width_hit : w < 18 → m < 10 ^ w → width_from (18 - w) w m ≡ w
  unfolding width_from
  width_hit h l =
      let k : 18 - w ≡ suc (17 - w) = omega arith in
      ap (λ (j : ℕ). width_from j w m) k ∙ simp (lt-ltb m (10 ^ w) l)

  pub width_miss : w < 18 → 10 ^ w ≤ m → width_from (18 - w) w m ≡ width_from (18 - (w + 1)) (w + 1) m
  unfolding width_from
  width_miss h l =
      let k : 18 - w ≡ suc (17 - w) = omega arith in
      let j : 17 - w ≡ 18 - (w + 1) = omega arith in
      ap (λ (x : ℕ). width_from x w m) k ∙ (simp (le-ltb m (10 ^ w) l)) ∙ ap (λ (x : ℕ). width_from x (w + 1) m) j

  pub width_end : 18 ≤ w → width_from (18 - w) w m ≡ w
  unfolding width_from
  width_end h =
      let k : 18 - w ≡ 0 = omega arith in
      ap (λ (j : ℕ). width_from j w m) k
