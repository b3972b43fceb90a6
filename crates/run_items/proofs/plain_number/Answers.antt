-- `run_items::plain_number` meets its contract: each digit is taken over to acc, and the first character that is none ends it as the rule does.
-- Assumes nothing.
use mathlib.Core.Path.{refl}
use Prim.Native.Nat.{ℕ, ◌-◌, ◌^◌, ◌≤◌, ◌<◌}
use native.Mathlib.Nat.{pow-le-pow_right, lt_of_lt_of_le}
use native.Mathlib.Omega.{arith}
use lib.Dec.{lit<}
use Rattle.run_items.proofs.Literals.{plain_digits, plain_low, plain_high, plain_more, plain_end}
use Rattle.run_items.proofs.plain_number.Goals as goal
use Rattle.run_items.proofs.plain_number.Goals.{then-b-lt48-via-then-b-lt48, then-b-lt48-via-else-b-lt48+then-b-gt57}

-- at most k characters were passed, so acc has at most k digits
digits : (k i acc : ℕ) → acc < 10 ^ i → i ≤ k → acc < 10 ^ k
digits k i acc e h = lt_of_lt_of_le e (pow-le-pow_right (lit< tt) {i = i} {j = k} h)

pub loop-byte-init : goal.loop-byte-init
loop-byte-init c = (lit< tt, refl)

pub returns-then-b-lt48 : goal.returns-then-b-lt48
returns-then-b-lt48 c =
    elim c.then-b-lt48.branch [
      | then-b-lt48-via-then-b-lt48 w ↦ search plain_low depth 3
      | then-b-lt48-via-else-b-lt48+then-b-gt57 w ↦ let h : 57 < c.of_byte-b.result = omega arith in search plain_high depth 3
    ]

pub overflow_mul-acc : goal.overflow_mul-acc
overflow_mul-acc c = omega (arith, digits 17 c.loop-byte.byte-index c.loop-byte.acc c.loop-byte.invariant.0 (omega arith))

pub overflow_add-acc : goal.overflow_add-acc
overflow_add-acc c = omega (arith, digits 17 c.loop-byte.byte-index c.loop-byte.acc c.loop-byte.invariant.0 (omega arith))

pub loop-byte-preserved : goal.loop-byte-preserved
loop-byte-preserved c = (search plain_digits depth 3, search plain_more depth 3)

pub with_sign-requires : goal.with_sign-requires
with_sign-requires c = digits 18 c.loop-byte.byte-index c.loop-byte.acc c.loop-byte.invariant.0 (omega arith)

pub returns : goal.returns
returns c = search plain_end depth 3
