-- Arithmetic, relations and truth (document 01, "Moves and arithmetic").
--   kept top z                    z, or 20 where it is not in the range of values
--   add_of, sub_of, mul_of, div_of    the left operand first
--   round_of v k                   v # k
--   eq_of .. le_of, not_of, and_of, or_of, xor_of    1 or 0
--   Powers xs                     xs holds the nineteen powers of ten
-- Divide, round, negate, the relations and the truth of numbers in the range stay in it, so they are told no bound.
-- Assumes nothing.
use Rattle.rules.specs.declared.Fault.{Fault}
use Rattle.std.specs.Prelude.{Bool, true, false, cond, not, ◌||◌, List, ℕ, ◌+◌, ◌/◌, ◌^◌, ltb, leb, eqb, ℤ, pos, negsuc, nat_abs, ◌+ℤ◌, ◌-ℤ◌, ◌*ℤ◌, Result, Err, Ok}
use Rattle.std.specs.Int.Signed.{quot_z, lt_z, le_z}
use Rattle.rules.specs.Tests.{◌and◌}
use Rattle.rules.specs.Charts.{Charts}
use Rattle.rules.specs.declared.Fault.TheVariants as fault
use Rattle.rules.specs.Values.{signed, is_neg}

-- "Values run from -(10^18 - 1) to 10^18 - 1"; "20 | more than 18 digits"
abbrev pub kept : ℕ → ℤ → Result ℤ Fault
kept top z = cond (ltb (nat_abs z) top) (Ok z) (Err fault.TooLong)

-- "10 add, 11 subtract, 12 multiply"; "Of two operands the one held first is the left."
abbrev pub add_of : ℕ → ℤ → ℤ → Result ℤ Fault
add_of top a b = kept top (a +ℤ b)

abbrev pub sub_of : ℕ → ℤ → ℤ → Result ℤ Fault
sub_of top a b = kept top (a -ℤ b)

abbrev pub mul_of : ℕ → ℤ → ℤ → Result ℤ Fault
mul_of top a b = kept top (a *ℤ b)

-- "Divide truncates toward zero."; "23 | zero divisor"
abbrev pub div_of : ℤ → ℤ → Result ℤ Fault
div_of a b = cond (eqb (nat_abs b) 0) (Err fault.ZeroDivisor) (Ok (quot_z a b))

-- "v # k drops k digits of the magnitude, rounding half up in magnitude, sign kept"
abbrev pub rounded : ℤ → ℕ → ℤ
rounded v k = signed (is_neg v) ((nat_abs v + 10 ^ k / 2) / 10 ^ k)

-- "k outside 0 to 18 is 26"
abbrev pub round_of : ℤ → ℤ → Result ℤ Fault
round_of v (pos k) = cond (leb k 18) (Ok (rounded v k)) (Err fault.RoundCount)
round_of v (negsuc k) = Err fault.RoundCount

-- "Relations and NOT, AND, OR, XOR give 1 or 0; nonzero is true."
abbrev pub truth : Bool → ℤ
truth true = pos 1
truth false = pos 0

abbrev pub is_true : ℤ → Bool
is_true z = not (eqb (nat_abs z) 0)

abbrev pub eq_z : ℤ → ℤ → Bool
eq_z (pos a) (pos b) = eqb a b
eq_z (pos a) (negsuc b) = false
eq_z (negsuc a) (pos b) = false
eq_z (negsuc a) (negsuc b) = eqb a b

abbrev pub eq_of : ℤ → ℤ → ℤ
eq_of a b = truth (eq_z a b)

abbrev pub ne_of : ℤ → ℤ → ℤ
ne_of a b = truth (not (eq_z a b))

abbrev pub gt_of : ℤ → ℤ → ℤ
gt_of a b = truth (lt_z b a)

abbrev pub lt_of : ℤ → ℤ → ℤ
lt_of a b = truth (lt_z a b)

abbrev pub ge_of : ℤ → ℤ → ℤ
ge_of a b = truth (le_z b a)

abbrev pub le_of : ℤ → ℤ → ℤ
le_of a b = truth (le_z a b)

abbrev pub not_of : ℤ → ℤ
not_of a = truth (not (is_true a))

abbrev pub and_of : ℤ → ℤ → ℤ
and_of a b = truth (is_true a and is_true b)

abbrev pub or_of : ℤ → ℤ → ℤ
or_of a b = truth (is_true a || is_true b)

abbrev pub xorb : Bool → Bool → Bool
xorb true b = not b
xorb false b = b

abbrev pub xor_of : ℤ → ℤ → ℤ
xor_of a b = truth (xorb (is_true a) (is_true b))

-- "The nineteen powers of ten serve here."
abbrev pub Powers : List ℕ → Type 0
Powers xs = Charts (λ (k : ℕ). 10 ^ k) 19 xs
