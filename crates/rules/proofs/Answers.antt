-- Every number that is read, from a decimal or from alpha, is in the range of values: so it can be an operand (document 01, "Values and
-- references").
-- Assumes nothing.
use Rattle.std.specs.Prelude.{Err, Ok}
use mathlib.Core.Bool.{Bool, true, false, cond}
use mathlib.Core.List.{List, [], ◌∷◌}
use Prim.Native.Nat.{ℕ, suc, ◌+◌, ◌-◌, ◌*◌, ◌^◌, ◌≤◌, ◌<◌}
use native.Mathlib.Nat.{pow-le-pow_right, lt_of_lt_of_le}
use native.Mathlib.Omega.{arith}
use lib.Dec.{ltb, eqb, lit<}
use lib.IntN.{pos, nat_abs}
use lib.ListN.{length}
use borrow.Author.Tests.{ltb-true, ltb-false}
use Rattle.rules.specs.declared.Fault.TheVariants as fault
use Rattle.rules.specs.Values.{Val, signed, is_from, read_from, padded_read, read_of}
use Rattle.rules.specs.Moves.{alpha_from, alpha_of}
use Rattle.rules.proofs.Walk.{cond_case}
use Rattle.rules.proofs.Signed.{abs_signed, pow_pos10}
use Rattle.rules.proofs.Decimals.{from_digit, more_digits}
use Rattle.rules.proofs.Range.{InRange}

-- ---- reading a decimal

module _ (limit : ℕ) where
  -- A last digit after the i digits of acc.
  one_val : (t : Bool) (acc i d : ℕ) → acc < 10 ^ i → i < limit → d < 10 → Val (10 ^ limit) (signed t (acc * 10 + d))
  one_val t acc i d h k l =
      record { small = rw (abs_signed t (acc * 10 + d)) (lt_of_lt_of_le (more_digits acc i d h l) (pow-le-pow_right (lit< tt) {i = i + 1} {j = limit} (omega arith))) }

  -- The rest of a decimal after the i digits of acc.
  range_from : (sign acc i b : ℕ) (bs : List ℕ) → acc < 10 ^ i → i + length bs < limit → InRange (10 ^ limit) (read_from sign acc b bs)
  unfolding read_from
  range_from sign acc i b [] h k =
      cond_case (InRange (10 ^ limit)) (is_from 48 b) (Ok (pos (acc * 10 + (b - 48)))) (cond (is_from sign b) (Ok (signed true (acc * 10 + (b - sign)))) (Err fault.BadDigit))
      (λ e. one_val false acc i (b - 48) h (omega arith) (from_digit 48 b e))
      (λ n. cond_case (InRange (10 ^ limit)) (is_from sign b) (Ok (signed true (acc * 10 + (b - sign)))) (Err fault.BadDigit) (λ e. one_val true acc i (b - sign) h (omega arith) (from_digit sign b e)) (λ e. tt))
  range_from sign acc i b (x ∷ xs) h k =
      cond_case (InRange (10 ^ limit)) (is_from 48 b) (read_from sign (acc * 10 + (b - 48)) x xs) (Err fault.BadDigit)
      (λ e. range_from sign (acc * 10 + (b - 48)) (i + 1) x xs (more_digits acc i (b - 48) h (from_digit 48 b e)) (omega arith))
      (λ e. tt)

  -- Spaces before it change nothing.
  range_padded : (sign : ℕ) (s : List ℕ) → length s ≤ limit → InRange (10 ^ limit) (padded_read sign s)
  unfolding padded_read
  range_padded sign [] h = record { small = pow_pos10 limit }
  range_padded sign (b ∷ bs) h =
      cond_case (InRange (10 ^ limit)) (eqb b 32) (padded_read sign bs) (read_from sign 0 b bs) (λ e. range_padded sign bs (omega arith)) (λ e. range_from sign 0 0 b bs (lit< tt) (omega arith))

-- For any digit limit: the bound is 10 to the limit.
pub range_read : (limit sign : ℕ) (s : List ℕ) → InRange (10 ^ limit) (read_of limit sign s)
unfolding read_of
range_read limit sign [] = tt
range_read limit sign (b ∷ bs) =
    cond_case (InRange (10 ^ limit)) (ltb limit (length (b ∷ bs))) (Err fault.TooLong) (padded_read sign (b ∷ bs)) (λ e. tt)
    (λ e. range_padded limit sign (b ∷ bs) (ltb-false limit (suc (length bs)) e))

-- ---- alpha to number

range_after : (top : ℕ) (minus : Bool) (acc : ℕ) (s : List ℕ) → InRange top (alpha_from top minus acc s)
unfolding alpha_from
range_after top minus acc [] =
    cond_case (InRange top) (ltb (nat_abs (signed minus acc)) top) (Ok (signed minus acc)) (Err fault.TooLong) (λ e. record { small = ltb-true (nat_abs (signed minus acc)) top e }) (λ e. tt)
range_after top minus acc (b ∷ bs) =
    let same = range_after top minus acc bs in
    cond_case (InRange top) (eqb b 32) _ _ (λ e. same)
    (λ n. cond_case (InRange top) (eqb b 43) _ _ (λ e. same)
    (λ n. cond_case (InRange top) (eqb b 45) _ _ (λ e. cond_case (InRange top) minus (Err fault.BadDigit) (alpha_from top true acc bs) (λ e. tt) (λ e. range_after top true acc bs))
    (λ n. cond_case (InRange top) (is_from 48 b) _ (Err fault.BadDigit) (λ e. range_after top minus (acc * 10 + (b - 48)) bs) (λ e. tt))))

pub range_alpha : (top : ℕ) (s : List ℕ) → InRange top (alpha_of top s)
range_alpha top s = range_after top false 0 s
