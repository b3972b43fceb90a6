-- Every answer that is a number is in the range of values, so it can be an operand again.
--   InRange top n                a number that n answers is in the range
--   of_range                     the number of an answer in the range
--   range_kept                   a sum, a difference, a product: each is `kept` of a number
--   range_div, range_round, range_neg
--   range_truth                  a relation, NOT, AND, OR, XOR: each is `truth` of a test
-- Assumes nothing.
use Rattle.std.specs.Prelude.{Result, Err, Ok}
use Rattle.rules.specs.declared.Fault.{Fault}
use mathlib.Core.Path.{◌≡◌, subst}
use mathlib.Core.Bool.{Bool, true, false}
use Prim.Native.Nat.{ℕ, suc, ◌+◌, ◌/◌, ◌^◌, ◌≤◌, ◌<◌}
use native.Mathlib.Nat.{div-le_self, div-lt_iff_lt-mul, suc-mul, le-mul_of_pos_right}
use native.Mathlib.Omega.{arith}
use lib.Dec.{ltb, leb, eqb}
use lib.IntN.{ℤ, pos, negsuc, nat_abs, neg_ℤ}
use lib.Signed.{quot_z}
use borrow.Author.Tests.{ltb-true}
use Rattle.rules.specs.declared.Fault.TheVariants as fault
use Rattle.rules.specs.Values.{Val, is_neg}
use Rattle.rules.specs.Arithmetic.{kept, div_of, rounded, round_of, truth}
use Rattle.rules.proofs.Walk.{cond_case, cond_either}
use Rattle.rules.proofs.Signed.{abs_neg, abs_quot, abs_signed, pow_pos10}

abbrev pub InRange : ℕ → Result ℤ Fault → Type 0
InRange top (Ok z) = Val top z
InRange top (Err f) = Unit {0}

-- The number that a `match` on an answer found is in the range.
pub of_range : {top : ℕ} {n : Result ℤ Fault} {z : ℤ} → n ≡ Ok z → InRange top n → Val top z
of_range {top} e h = subst (InRange top) e h

pub range_kept : (top : ℕ) (z : ℤ) → InRange top (kept top z)
range_kept top z =
    cond_case (InRange top) (ltb (nat_abs z) top) (Ok z) (Err fault.TooLong) (λ e. record { small = ltb-true (nat_abs z) top e }) (λ e. tt)

pub range_div : {top : ℕ} (a b : ℤ) → Val top a → InRange top (div_of a b)
range_div {top} a b v =
    cond_either (InRange top) (eqb (nat_abs b) 0) (Err fault.ZeroDivisor) (Ok (quot_z a b)) tt
    (record { small = rw (abs_quot a b) (omega (arith, v.small, div-le_self (nat_abs a) (nat_abs b))) })

-- A part of the divisor added to a number makes the quotient no greater than the number.
pub round_le : (m h p : ℕ) → h < p → (m + h) / p ≤ m
round_le m h p l =
    let some : 0 < p = omega arith in
    omega (arith, (div-lt_iff_lt-mul {k = p} {x = m + h} {y = suc m} some).1 (omega (arith, suc-mul m p, le-mul_of_pos_right m some)))

range_rounded : {top : ℕ} (v : ℤ) (k : ℕ) → Val top v → Val top (rounded v k)
range_rounded v k h =
    let le = round_le (nat_abs v) (10 ^ k / 2) (10 ^ k) (omega (arith, pow_pos10 k)) in
    record { small = rw (abs_signed (is_neg v) ((nat_abs v + 10 ^ k / 2) / 10 ^ k)) (omega (arith, h.small)) }

pub range_round : {top : ℕ} (v k : ℤ) → Val top v → InRange top (round_of v k)
range_round {top} v (pos k) h = cond_either (InRange top) (leb k 18) (Ok (rounded v k)) (Err fault.RoundCount) (range_rounded v k h) tt
range_round v (negsuc k) h = tt

pub range_neg : {top : ℕ} {z : ℤ} → Val top z → Val top (neg_ℤ z)
range_neg {top} {z} v = record { small = rw (abs_neg z) v.small }

-- 0 and 1 are in the range of every dialect that has a digit.
pub range_truth : {top : ℕ} (t : Bool) → 1 < top → Val top (truth t)
range_truth true h = record { small = h }
range_truth false h = record { small = omega arith }
