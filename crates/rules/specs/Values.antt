-- Values and decimals (document 01, "Values and references"; request 2 of document 02, "Blank-padded amounts").
--   Val top z               z is in the range of values
--   Top top, Limit limit, Letters sign    what is asked of a dialect's numbers
--   signed t m, is_neg z     a number from its sign and its magnitude, and its sign
--   is_from z b              b is one of the ten characters from z on
--   validb limit sign s     s is a valid decimal, as a test; Valid says the same with quantifiers, and Figures of a decimal without spaces
--   read_of limit sign s     what a decimal reads as
-- A dialect is a digit limit, the first magnitude `top` that has more digits (10 to the limit), and the character `sign` that stands for a
-- last digit 0 with a minus. Document 01's own dialect is 18, 10 ^ 18 and 112 ('p'). 32 is a space, 48 '0'.
-- Assumes nothing.
use Rattle.rules.specs.declared.Fault.{Fault}
use Rattle.std.specs.Prelude.{◌≡◌, Bool, true, false, cond, ◌||◌, ◌⊎◌, List, [], ◌∷◌, ℕ, ◌+◌, ◌-◌, ◌*◌, ◌^◌, ◌<◌, ◌≤◌, ltb, leb, eqb, ℤ, pos, negsuc, nat_abs, neg_ℤ, length, get_or, Result, Err, Ok}
use Rattle.rules.specs.Tests.{◌and◌}
use Rattle.rules.specs.declared.Fault.TheVariants as fault

-- "Values run from -(10^18 - 1) to 10^18 - 1."
pub record Val (top : ℕ) (z : ℤ) : Type 0 where
  pub small : nat_abs z < top

-- A dialect's bound leaves room for 0 and 1, the two truths, and is one that a signed word of 64 bits holds with room for a sum.
pub record Top (top : ℕ) : Type 0 where
  pub some : 1 < top
  pub most : top ≤ 10 ^ 18

-- Eighteen digits are the most that a dialect has.
pub record Limit (limit : ℕ) : Type 0 where
  pub most : limit ≤ 18

-- The ten sign letters stand above the digits, and all are bytes.
pub record Letters (sign : ℕ) : Type 0 where
  pub above : 58 ≤ sign
  pub bytes : sign + 10 ≤ 256

-- The magnitude m, with a minus where the flag says so; minus zero is 0.
abbrev pub signed : Bool → ℕ → ℤ
signed true m = neg_ℤ (pos m)
signed false m = pos m

abbrev pub is_neg : ℤ → Bool
is_neg (pos n) = false
is_neg (negsuc n) = true

-- "0 to 9", and "p to y for a negative number ending in 0 to 9"
abbrev pub is_from : ℕ → ℕ → Bool
is_from z b = leb z b and ltb b (z + 10)

-- "all but the last are 0 to 9 and the last is 0 to 9, or p to y": the character b and those after it
unfoldable pub valid_from : ℕ → ℕ → List ℕ → Bool
valid_from sign b [] = is_from 48 b || is_from sign b
valid_from sign b (x ∷ xs) = let rest = valid_from sign x xs in is_from 48 b and rest

-- "leading spaces as zeros, and an all-space span as 0. A space after a digit is still 22."
unfoldable pub paddedb : ℕ → List ℕ → Bool
paddedb sign [] = true
paddedb sign (b ∷ bs) =
    let rest = paddedb sign bs in
    let number = valid_from sign b bs in
    cond (eqb b 32) rest number

-- "A decimal of 1 to 18 characters is valid when .."
unfoldable pub validb : ℕ → ℕ → List ℕ → Bool
validb limit sign [] = false
validb limit sign (b ∷ bs) = let rest = paddedb sign (b ∷ bs) in leb (length (b ∷ bs)) limit and rest

-- The same sentence with quantifiers: j goes over the leading spaces, as many as `blanks` says, and then over all characters behind them but the last.
pub record Valid (limit sign : ℕ) (s : List ℕ) : Type 0 where
  pub some : 1 ≤ length s
  pub most : length s ≤ limit
  pub blanks : ℕ
  pub few : blanks ≤ length s
  pub spaces : (j : ℕ) → j < blanks → get_or s j 0 ≡ 32
  pub digits : (j : ℕ) → blanks ≤ j → j + 1 < length s → is_from 48 (get_or s j 0) ≡ true
  pub last : blanks < length s → (is_from 48 (get_or s (length s - 1) 0) ≡ true) ⊎ (is_from sign (get_or s (length s - 1) 0) ≡ true)

-- "Writing never makes such spaces.": a valid decimal without them, j going over all characters but the last.
pub record Figures (limit sign : ℕ) (s : List ℕ) : Type 0 where
  pub some : 1 ≤ length s
  pub most : length s ≤ limit
  pub digits : (j : ℕ) → j + 1 < length s → is_from 48 (get_or s j 0) ≡ true
  pub last : (is_from 48 (get_or s (length s - 1) 0) ≡ true) ⊎ (is_from sign (get_or s (length s - 1) 0) ≡ true)

-- The last character b, after the digits of acc: "p to y for a negative number ending in 0 to 9"; "a stored "0p" reads as 0".
abbrev pub last_digit : ℕ → ℕ → ℕ → Result ℤ Fault
last_digit sign acc b =
    cond (is_from 48 b) (Ok (pos (acc * 10 + (b - 48))))
    (cond (is_from sign b) (Ok (signed true (acc * 10 + (b - sign)))) (Err fault.BadDigit))

-- The character b and those after it, after the digits of acc.
unfoldable pub read_from : ℕ → ℕ → ℕ → List ℕ → Result ℤ Fault
read_from sign acc b [] = last_digit sign acc b
read_from sign acc b (x ∷ xs) =
    let more = read_from sign (acc * 10 + (b - 48)) x xs in cond (is_from 48 b) more (Err fault.BadDigit)

-- "Reading must take leading spaces as zeros, and an all-space span as 0.": they are passed over, and spaces alone are 0.
unfoldable pub padded_read : ℕ → List ℕ → Result ℤ Fault
padded_read sign [] = Ok (pos 0)
padded_read sign (b ∷ bs) =
    let more = padded_read sign bs in
    let number = read_from sign 0 b bs in
    cond (eqb b 32) more number

-- "A decimal span of more than 18 characters then gives 20, and on reading, an invalid character 22." No characters are no decimal.
unfoldable pub read_of : ℕ → ℕ → List ℕ → Result ℤ Fault
read_of limit sign [] = Err fault.BadDigit
read_of limit sign (b ∷ bs) =
    let number = padded_read sign (b ∷ bs) in cond (ltb limit (length (b ∷ bs))) (Err fault.TooLong) number
