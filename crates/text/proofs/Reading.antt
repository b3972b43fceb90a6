-- Laws of reading a decimal, one for each way through the loops of `text::read` and `text::figures` and each way out of them.
-- Assumes nothing.
use Rattle.std.specs.Prelude.{Err, Ok}
use mathlib.Core.Path.{◌≡◌, refl, sym, ap, ◌∙◌}
use mathlib.Core.Bool.{true, false}
use mathlib.Core.List.{List, [], ◌∷◌}
use Prim.Native.Nat.{ℕ, suc, ◌+◌, ◌-◌, ◌*◌, ◌≤◌, ◌<◌}
use native.Mathlib.Numerals.{add-one}
use native.Mathlib.Omega.{arith}
use lib.IntN.{pos}
use lib.ListN.{length, get_or, drop, drop_of_length-le}
use lib.Seq.{drop-cons}
use borrow.Author.Tests.{lt-ltb, le-ltb, ne_eqb}
use Rattle.rules.specs.declared.Fault.TheVariants as fault
use Rattle.rules.specs.Values.{is_from, last_digit, read_from, padded_read, read_of}

-- ---- before the loops

pub read_empty : (limit sign : ℕ) (s : List ℕ) → length s ≡ 0 → read_of limit sign s ≡ Err fault.BadDigit
unfolding read_of
read_empty limit sign [] e = refl
read_empty limit sign (b ∷ bs) e = absurd (omega arith)

pub read_long : (limit sign : ℕ) (s : List ℕ) → limit < length s → read_of limit sign s ≡ Err fault.TooLong
unfolding read_of
read_long limit sign [] h = absurd (omega arith)
read_long limit sign (b ∷ bs) h = simp (lt-ltb limit (suc (length bs)) h)

pub read_start : (limit sign : ℕ) (s : List ℕ) → (length s ≡ 0 → ⊥) → length s ≤ limit → read_of limit sign s ≡ padded_read sign s
unfolding read_of
read_start limit sign [] n h = absurd (n refl)
read_start limit sign (b ∷ bs) n h = simp (le-ltb limit (suc (length bs)) h)

-- `drop-cons` in the code's terms: `j + 1` is stuck, where `suc j` would compute under `drop`'s binder
pub drop_next : (s : List ℕ) (j : ℕ) → j < length s → drop j s ≡ get_or s j 0 ∷ drop (j + 1) s
drop_next s j h = drop-cons s j 0 h ∙ ap (λ (n : ℕ). get_or s j 0 ∷ drop n s) (sym (add-one j))

-- ---- leading spaces: what is left of s from the character i on

module _ (sign : ℕ) (s : List ℕ) (i : ℕ) where
  pub padded_on : i < length s → get_or s i 0 ≡ 32 → padded_read sign (drop i s) ≡ padded_read sign (drop (i + 1) s)
  unfolding padded_read
  padded_on h e = rw (drop_next s i h, e)

  pub padded_figures : i < length s → (get_or s i 0 ≡ 32 → ⊥) → padded_read sign (drop i s) ≡ read_from sign 0 (get_or s i 0) (drop (i + 1) s)
  unfolding padded_read
  padded_figures h n = rw (drop_next s i h, ne_eqb (get_or s i 0) 32 n)

  pub padded_empty : length s ≤ i → padded_read sign (drop i s) ≡ Ok (pos 0)
  unfolding padded_read
  padded_empty h = rw (drop_of_length-le s h)

-- ---- one character

module _ (sign acc : ℕ) (s : List ℕ) (i : ℕ) where
  pub read_bad : i + 1 < length s → is_from 48 (get_or s i 0) ≡ false → read_from sign acc (get_or s i 0) (drop (i + 1) s) ≡ Err fault.BadDigit
  unfolding read_from
  read_bad h e = rw (drop_next s (i + 1) h) (simp e)

  pub read_more : i + 1 < length s → is_from 48 (get_or s i 0) ≡ true → read_from sign acc (get_or s i 0) (drop (i + 1) s) ≡ read_from sign (acc * 10 + (get_or s i 0 - 48)) (get_or s (i + 1) 0) (drop (i + 1 + 1) s)
  unfolding read_from
  read_more h e = rw (drop_next s (i + 1) h) (simp e)

  pub read_last : length s ≤ i + 1 → read_from sign acc (get_or s i 0) (drop (i + 1) s) ≡ last_digit sign acc (get_or s i 0)
  unfolding read_from
  read_last h = rw (drop_of_length-le s h)
