-- Laws of the digits that a mask leaves of a number, past the table of the powers of ten.
-- Assumes nothing.
use mathlib.Core.Path.{◌≡◌, refl, sym}
use Prim.Native.Nat.{ℕ, ◌-◌, ◌^◌, ◌<◌}
use native.Mathlib.Nat.{div-eq_of_lt, mod-eq_of_lt, lt_of_lt_of_le, pow-le-pow_right}
use native.Mathlib.Omega.{arith}
use lib.Dec.{lit<}
use Rattle.rules.specs.declared.Picture.{Picture}
use Rattle.rules.specs.declared.Sight.{Sight}
use Rattle.rules.specs.Masks.{last_digits, digit_of}

-- a power of ten past the table is above every number
past : (m q : ℕ) → m < 10 ^ 18 → 18 < q → m < 10 ^ q
past m q h k = lt_of_lt_of_le h (pow-le-pow_right (lit< tt) {i = 18} {j = q} (omega arith))

pub left_all : (m n : ℕ) → m < 10 ^ 18 → 18 < n → m ≡ last_digits m n
left_all m n h k = sym (mod-eq_of_lt (past m n h k))

pub digit_past : (p : Picture) (w : Sight) (q : ℕ) → p.digits < 10 ^ 18 → 18 < q → q ≡ w.places - 1 → 0 ≡ digit_of p w
unfolding digit_of
digit_past p w q h k e = rw (sym e, div-eq_of_lt (past p.digits q h k)) refl
