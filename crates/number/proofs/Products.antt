-- The test of a product before it is made: the most that is allowed, divided by one magnitude, against the other.
-- Assumes nothing.
use mathlib.Core.Path.{◌≡◌}
use mathlib.Core.Bool.{false}
use Prim.Native.Nat.{ℕ, suc, ◌*◌, ◌/◌, ◌≤◌, ◌<◌}
use native.Mathlib.Nat.{mul_comm, div-lt_iff_lt-mul, le-div_iff_mul-le, pos_of_ne-zero}
use native.Mathlib.Omega.{arith}
use lib.Dec.{ltb}
use lib.IntN.{ℤ, nat_abs, ◌*ℤ◌}
use borrow.Author.Tests.{le-ltb}
use Rattle.rules.proofs.Signed.{abs_mul}

module _ (top : ℕ) (a b : ℤ) where
  pub product_over : (most : ℕ) → (nat_abs a ≡ 0 → ⊥) → most / nat_abs a < nat_abs b → top ≤ suc most → ltb (nat_abs (a *ℤ b)) top ≡ false
  product_over most h l t =
      rw (abs_mul a b)
      (le-ltb (nat_abs a * nat_abs b) top (omega (arith, mul_comm (nat_abs a) (nat_abs b), (div-lt_iff_lt-mul (pos_of_ne-zero h)).0 l)))

  pub product_under : (most : ℕ) → (nat_abs a ≡ 0 → ⊥) → nat_abs b ≤ most / nat_abs a → most < top → nat_abs (a *ℤ b) < top
  product_under most h l t =
      rw (abs_mul a b)
      (omega (arith, mul_comm (nat_abs a) (nat_abs b), (le-div_iff_mul-le (pos_of_ne-zero h)).0 l))
