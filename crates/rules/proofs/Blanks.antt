-- Spaces in a decimal (request 2 of document 02): leading ones read as zeros do, one behind a digit is 22, and none is written.
-- Assumes nothing.
use Rattle.std.specs.Prelude.{Err}
use mathlib.Core.Path.{◌≡◌, refl, sym, ap, ◌∙◌}
use mathlib.Core.Bool.{Bool, true, false}
use mathlib.Core.Logic.{◌⊎◌, inl, inr}
use mathlib.Core.List.{List, [], ◌∷◌, ◌++◌}
use Prim.Native.Nat.{ℕ, zero, suc, ◌+◌, ◌-◌, ◌≤◌, ◌<◌}
use native.Mathlib.Omega.{arith}
use lib.Dec.{ltb, eqb}
use lib.IntN.{ℤ}
use lib.ListN.{length, get_or, length-append}
use borrow.Author.Tests.{ltb-true, ltb-false, ne_eqb, eqb-true, eqb-false}
use Rattle.rules.specs.declared.Fault.TheVariants as fault
use Rattle.rules.specs.Values.{Letters, is_from, Valid, Figures, read_from, padded_read, read_of}
use Rattle.rules.specs.Moves.{written, blanks, zeros}
use Rattle.rules.proofs.Valid.{not_space}
use Rattle.rules.proofs.Decimals.{length_written, length_blanks, length_zeros, written_figures, zeros_figures}
use Rattle.rules.proofs.Causes.{read_22}

-- ---- leading spaces

-- Spaces before s change nothing, and neither do zeros behind a zero.
past_blanks : (sign k : ℕ) (s : List ℕ) → padded_read sign (blanks k ++ s) ≡ padded_read sign s
unfolding padded_read
past_blanks sign zero s = refl
past_blanks sign (suc k) s = past_blanks sign k s

past_zeros : (sign k : ℕ) (s : List ℕ) → (get_or s 0 0 ≡ 32 → ⊥) → read_from sign 0 48 (zeros k ++ s) ≡ padded_read sign s
unfolding read_from padded_read
past_zeros sign zero [] n = refl
past_zeros sign zero (x ∷ xs) n = rw (ne_eqb x 32 n)
past_zeros sign (suc k) s n = past_zeros sign k s n

pub leading_zeros : (limit sign k : ℕ) (s : List ℕ) → (get_or s 0 0 ≡ 32 → ⊥) → read_of limit sign (blanks k ++ s) ≡ read_of limit sign (zeros k ++ s)
unfolding read_of padded_read
leading_zeros limit sign zero s n = refl
leading_zeros limit sign (suc k) s n =
    let l : length (blanks k ++ s) ≡ length (zeros k ++ s) =
    length-append (blanks k) s ∙ ap (λ (x : ℕ). x + length s) (length_blanks k ∙ sym (length_zeros k)) ∙ sym (length-append (zeros k) s) in
    rw (l, past_blanks sign k s, past_zeros sign k s n)

-- ---- spaces that do not lead

module _ {sign : ℕ} (letters : Letters sign) where
  last_space : (b : ℕ) → (is_from 48 b ≡ true) ⊎ (is_from sign b ≡ true) → b ≡ 32 → ⊥
  last_space b (inl e) = not_space 48 b (omega arith) e
  last_space b (inr e) = not_space sign b (omega (arith, letters.above)) e

  -- The digit at i, the space at j: either it stands last, or it is one of those that must be digits.
  behind : (limit : ℕ) (s : List ℕ) (i j : ℕ) → i < j → j < length s → is_from 48 (get_or s i 0) ≡ true → get_or s j 0 ≡ 32 → Valid limit sign s → ⊥
  behind limit s i j h l e q v = by (ltb i v.blanks) (eqb (j + 1) (length s)) refl refl
    where
      by : (t u : Bool) → ltb i v.blanks ≡ t → eqb (j + 1) (length s) ≡ u → ⊥
      by true u x y = not_space 48 (get_or s i 0) (omega arith) e (v.spaces i (ltb-true i v.blanks x))
      by false true x y =
          let n : length s - 1 ≡ j = omega (arith, eqb-true (j + 1) (length s) y) in
          last_space (get_or s j 0) (rw n at (v.last (omega (arith, ltb-false i v.blanks x)))) q
      by false false x y =
          let n = eqb-false (j + 1) (length s) y in
          not_space 48 (get_or s j 0) (omega arith) (v.digits j (omega (arith, ltb-false i v.blanks x)) (omega arith)) q

  figures_space : {limit : ℕ} (s : List ℕ) → Figures limit sign s → (j : ℕ) → j < length s → get_or s j 0 ≡ 32 → ⊥
  figures_space s f j h q = by (eqb (j + 1) (length s)) refl
    where
      by : (t : Bool) → eqb (j + 1) (length s) ≡ t → ⊥
      by true y =
          let n : length s - 1 ≡ j = omega (arith, eqb-true (j + 1) (length s) y) in
          last_space (get_or s j 0) (rw n at f.last) q
      by false y =
          let n = eqb-false (j + 1) (length s) y in
          not_space 48 (get_or s j 0) (omega arith) (f.digits j (omega arith)) q

  pub written_space : (n : ℕ) (v : ℤ) (j : ℕ) → j < length (written sign n v) → get_or (written sign n v) j 0 ≡ 32 → ⊥
  written_space n v j h = figures_space (written sign n v) (written_figures letters n n v (omega (arith, length_written sign n v)) (omega arith)) j h

  pub zeros_space : (n j : ℕ) → j < length (zeros n) → get_or (zeros n) j 0 ≡ 32 → ⊥
  zeros_space n j h = figures_space (zeros n) (zeros_figures n sign n (omega (arith, length_zeros n)) (omega arith)) j h

pub space_behind : (limit sign : ℕ) → Letters sign → (s : List ℕ) → length s ≤ limit → (i j : ℕ) → i < j → j < length s → is_from 48 (get_or s i 0) ≡ true → get_or s j 0 ≡ 32
    → read_of limit sign s ≡ Err fault.BadDigit
space_behind limit sign letters s m i j h l e q = (read_22 limit sign s).1 (m, behind letters limit s i j h l e q)
