-- Signed numbers: from the bits that a local holds to the number, and the laws of the magnitude.
-- Assumes nothing.
use mathlib.Core.Path.{◌≡◌, refl, sym, ap, ◌∙◌, subst}
use mathlib.Core.Bool.{Bool, true, false, cond}
use Prim.Native.Nat.{ℕ, zero, suc, ◌+◌, ◌-◌, ◌*◌, ◌/◌, ◌^◌, ◌≤◌, ◌<◌}
use native.Mathlib.Nat.{div-le_self, lt_of_le_of_lt, pow-le-pow_right, one-le-pow}
use native.Mathlib.Omega.{arith}
use lib.Dec.{ltb, eqb, lit<}
use lib.IntN.{ℤ, pos, negsuc, nat_abs, neg_ℤ, ◌+ℤ◌, ◌-ℤ◌, ◌*ℤ◌}
use lib.Signed.{mag, quot_z}
use borrow.Author.Tests.{ltb-true, ltb-false, eq-eqb, ne_eqb}
use mir.Syntax.{w64}
use mir.Val.{SFits, to_z, of_z}
use mir.ValLaws.{to_z-of_z}
use Rattle.rules.specs.Values.{Val, Top, signed, is_neg}
use Rattle.rules.specs.Arithmetic.{eq_z}

-- ---- bits

pub back : {z : ℤ} → SFits w64 z → to_z w64 (of_z w64 z) ≡ z
back {z} f = to_z-of_z w64 z f

-- a test of two signed locals is a test of the numbers
pub tested : (f : ℤ → ℤ → Bool) {a b : ℤ} {t : Bool} → SFits w64 a → SFits w64 b → f (to_z w64 (of_z w64 a)) (to_z w64 (of_z w64 b)) ≡ t → f a b ≡ t
tested f {a} {b} {t} fa fb e = rw (to_z-of_z w64 a fa, to_z-of_z w64 b fb) at e

-- what a callee says of two signed locals that it was passed
pub op_plain : {X : Type 0} (f : ℤ → ℤ → X) {a b : ℤ} → SFits w64 a → SFits w64 b → f (to_z w64 (of_z w64 a)) (to_z w64 (of_z w64 b)) ≡ f a b
op_plain f {a} {b} fa fb = rw (to_z-of_z w64 a fa, to_z-of_z w64 b fb)

-- an operator on two signed locals: that the result fits, and what is read back of it
pub op_fits : (f : ℤ → ℤ → ℤ) {a b : ℤ} → SFits w64 a → SFits w64 b → SFits w64 (f a b) → SFits w64 (f (to_z w64 (of_z w64 a)) (to_z w64 (of_z w64 b)))
op_fits f {a} {b} fa fb h = rw (to_z-of_z w64 a fa, to_z-of_z w64 b fb) h

pub op_back : (f : ℤ → ℤ → ℤ) {a b : ℤ} → SFits w64 a → SFits w64 b → SFits w64 (f a b) → to_z w64 (of_z w64 (f (to_z w64 (of_z w64 a)) (to_z w64 (of_z w64 b)))) ≡ f a b
op_back f {a} {b} fa fb h = rw (to_z-of_z w64 a fa, to_z-of_z w64 b fb) (back h)

-- `==` of two signed locals compares their bits
pub same : {a b : ℤ} → SFits w64 a → SFits w64 b → of_z w64 a ≡ of_z w64 b → a ≡ b
same fa fb e = sym (back fa) ∙ ap (to_z w64) e ∙ back fb

eq_z_refl : (a : ℤ) → eq_z a a ≡ true
eq_z_refl (pos a) = eq-eqb a a refl
eq_z_refl (negsuc a) = eq-eqb a a refl

-- against 0
pub zero_abs : (z : ℤ) → SFits w64 z → of_z w64 z ≡ 0 → eqb (nat_abs z) 0 ≡ true
zero_abs (pos n) f e = eq-eqb n 0 e
zero_abs (negsuc n) f e = eq-eqb (suc n) 0 (absurd (omega (arith, f.sfits)))

pub pos_abs : (z : ℤ) → (of_z w64 z ≡ 0 → ⊥) → eqb (nat_abs z) 0 ≡ false
pos_abs (pos n) h = ne_eqb n 0 h
pos_abs (negsuc n) h = ne_eqb (suc n) 0 (λ e. omega arith)

-- ---- the magnitude

pub mag_abs : (z : ℤ) → mag z ≤ nat_abs z
mag_abs (pos n) = omega arith
mag_abs (negsuc n) = omega arith

pub abs_fits : {z : ℤ} → nat_abs z < 2 ^ 63 → SFits w64 z
abs_fits {z} h = record { sfits = lt_of_le_of_lt (mag_abs z) h }

pub abs_neg : (z : ℤ) → nat_abs (neg_ℤ z) ≡ nat_abs z
abs_neg (pos zero) = refl
abs_neg (pos (suc n)) = refl
abs_neg (negsuc n) = refl

sub_abs : (a b : ℕ) (t : Bool) → ltb a b ≡ t → nat_abs (cond t (negsuc (b - suc a)) (pos (a - b))) ≤ a + b
sub_abs a b true e = omega (arith, ltb-true a b e)
sub_abs a b false e = omega (arith, ltb-false a b e)

pub abs_add : (a b : ℤ) → nat_abs (a +ℤ b) ≤ nat_abs a + nat_abs b
abs_add (pos a) (pos b) = omega arith
abs_add (pos a) (negsuc b) = sub_abs a (suc b) (ltb a (suc b)) refl
abs_add (negsuc a) (pos b) = omega (arith, sub_abs b (suc a) (ltb b (suc a)) refl)
abs_add (negsuc a) (negsuc b) = omega arith

pub abs_sub : (a b : ℤ) → nat_abs (a -ℤ b) ≤ nat_abs a + nat_abs b
abs_sub a b = subst (λ (n : ℕ). nat_abs (a -ℤ b) ≤ nat_abs a + n) (abs_neg b) (abs_add a (neg_ℤ b))

pub abs_mul : (a b : ℤ) → nat_abs (a *ℤ b) ≡ nat_abs a * nat_abs b
abs_mul (pos a) (pos b) = refl
abs_mul (pos a) (negsuc b) = abs_neg (pos (a * suc b))
abs_mul (negsuc a) (pos b) = abs_neg (pos (suc a * b))
abs_mul (negsuc a) (negsuc b) = refl

pub abs_quot : (a b : ℤ) → nat_abs (quot_z a b) ≡ nat_abs a / nat_abs b
abs_quot (pos a) (pos b) = refl
abs_quot (pos a) (negsuc b) = abs_neg (pos (a / suc b))
abs_quot (negsuc a) (pos b) = abs_neg (pos (suc a / b))
abs_quot (negsuc a) (negsuc b) = refl

pub abs_signed : (t : Bool) (m : ℕ) → nat_abs (signed t m) ≡ m
abs_signed true m = abs_neg (pos m)
abs_signed false m = refl

-- the sign and the magnitude make the number
pub signed_abs : (z : ℤ) → signed (is_neg z) (nat_abs z) ≡ z
signed_abs (pos n) = refl
signed_abs (negsuc n) = refl

-- ---- what the operations want

pub val_fits : {z : ℤ} → Val (10 ^ 18) z → SFits w64 z
val_fits v = abs_fits (omega (arith, v.small))

-- a number passed on is one still
pub again : {z : ℤ} → Val (10 ^ 18) z → Val (10 ^ 18) (to_z w64 (of_z w64 z))
again {z} v = rw (to_z-of_z w64 z (val_fits v)) v

pub abs_zero : (z : ℤ) → nat_abs z ≡ 0 → z ≡ pos 0
abs_zero (pos n) e = ap pos e
abs_zero (negsuc n) e = absurd (omega arith)

-- a value of any dialect is one that these operations take
pub val_any : {top : ℕ} {z : ℤ} → Top top → Val top z → Val (10 ^ 18) z
val_any t v = record { small = omega (arith, v.small, t.most) }

-- the powers of ten that a number's digits need
pub pow_pos10 : (k : ℕ) → 0 < 10 ^ k
pow_pos10 k = one-le-pow k 10 (lit< tt)

pub pow_le18 : {k : ℕ} → k < 19 → 10 ^ k ≤ 10 ^ 18
pow_le18 {k} h = pow-le-pow_right (lit< tt) {i = k} {j = 18} (omega arith)
