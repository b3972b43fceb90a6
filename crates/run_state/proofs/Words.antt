-- Values as C holds them, and the numbers of a state put in place of others, one law for each way out of the code.
-- Assumes nothing.
use Prim.Native.Nat.{ℕ, zero, suc, ◌+◌, ◌-◌, ◌<◌, ◌≤◌, min}
use native.Mathlib.Omega.{arith}
use mathlib.Core.Path.{◌≡◌, refl, sym, ap, ◌∙◌}
use mathlib.Core.Bool.{Bool, true, false, true≢false}
use mathlib.Core.List.{List}
use lib.Dec.{T, leb}
use lib.IntN.{ℤ, pos, negsuc, nat_abs, neg_ℤ, ◌+ℤ◌, ◌-ℤ◌, +ℤ_idl}
use lib.ListN.{length, take, set}
use lib.Signed.{lt_z, mag, non_neg}
use mir.Syntax.{w64}
use mir.Val.{Fits, SFits, to_z, of_z}
use borrow.Author.Tests.{ltb-true, lt-ltb, leb-true, leb-false}
use Rattle.rules.proofs.Signed.{back, abs_neg, abs_fits}
use Rattle.rules_run.specs.declared.State.{State}
use Rattle.rules_host.specs.Laid.{laid}
use Rattle.rules_host.proofs.Laid.{laid_next, laid_full, laid_all}
use Rattle.rules_host.proofs.Listed.{length_listed, get_d_listed}
use Rattle.rules_host.specs.Numbers.{word, number_at, numbers_of}

-- ---- a value

up : (v : ℤ) → lt_z v (pos 0) ≡ true → v +ℤ pos 1 ≡ neg_ℤ (pos (mag v))
up (pos n) e = absurd (omega (arith, ltb-true n 0 e))
up (negsuc zero) e = refl
up (negsuc (suc n)) e = let q : suc (suc n) - 2 ≡ n = omega arith in rw (lt-ltb 1 (suc (suc n)) (omega arith), q)

twice : (m : ℕ) → pos 0 -ℤ neg_ℤ (pos m) ≡ pos m
twice zero = refl
twice (suc m) = +ℤ_idl (pos (suc m))

module _ (v : ℤ) (f : SFits w64 v) where
  module _ (t : lt_z (to_z w64 (of_z w64 v)) (pos 0) ≡ true) where
    low : lt_z v (pos 0) ≡ true
    low = rw (back f) at t

    turned_fits : SFits w64 (neg_ℤ (pos (mag v)))
    turned_fits = abs_fits (omega (arith, abs_neg (pos (mag v)), f.sfits))

    up_back : to_z w64 (of_z w64 (to_z w64 (of_z w64 v) +ℤ pos 1)) ≡ neg_ℤ (pos (mag v))
    up_back = rw (back f, up v low) (back turned_fits)

    mag_fits : SFits w64 (pos (mag v))
    mag_fits = abs_fits (omega (arith, f.sfits))

  module _ (t : lt_z (to_z w64 (of_z w64 v)) (pos 0) ≡ false) where
    plain : (z : ℤ) → lt_z z (pos 0) ≡ false → T (non_neg z) × (nat_abs z ≡ mag z) × (nat_abs z ≡ word z)
    plain (pos n) e = (tt, refl, refl)
    plain (negsuc n) e = absurd (true≢false e)

-- ---- the numbers, put one after the other

module _ (s : State) (l m : List ℕ) (k : ℕ) (is : m ≡ laid (take k (numbers_of s)) l) where
  pub write_next : (n : ℕ) → k < 104 → n ≡ number_at s k → set m k n ≡ laid (take (k + 1) (numbers_of s)) l
  write_next n h e =
      ap (set m k) (e ∙ sym (get_d_listed 104 (number_at s) k 0 h)) ∙ laid_next (numbers_of s) l m k (omega (arith, length_listed 104 (number_at s))) is

  -- There is no room for more, or all are put.
  pub write_end : length m ≡ length l → min (length l) 104 ≤ k → m ≡ laid (numbers_of s) l
  write_end e h = by (leb 104 k) refl
    where
      by : (t : Bool) → leb 104 k ≡ t → m ≡ laid (numbers_of s) l
      by true q = laid_all (numbers_of s) l m k (omega (arith, length_listed 104 (number_at s), leb-true 104 k q)) is
      by false q = laid_full (numbers_of s) l m k (omega (arith, leb-false 104 k q)) is
