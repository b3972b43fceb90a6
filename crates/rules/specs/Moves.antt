-- What the moves write (document 01, "Moves and arithmetic").
--   placed f n            n characters, each by its place counted from the right
--   written sign n v      number to decimal
--   width m, shown n v    how many digits m has; number to alpha
--   alpha_of top s         alpha to number
--   fitted n s            alpha to alpha
--   upper b, lower b      UPCASE and LOCASE of a byte; upcased s, locased s of text
--   blanks n, zeros n     CLEAR of alpha and of decimal
-- Each answers the new characters alone: where they are stored is no matter of these rules. 32 is a space, 43 '+', 45 '-', 48 '0'.
-- Assumes nothing.
use Rattle.rules.specs.declared.Fault.{Fault}
use Rattle.std.specs.Prelude.{Bool, true, false, cond, List, [], ◌∷◌, map, ℕ, zero, suc, ◌+◌, ◌-◌, ◌*◌, ◌/◌, ◌%◌, ◌^◌, ltb, leb, eqb, ℤ, nat_abs, replicate, Result, Err}
use Rattle.rules.specs.Tests.{◌and◌}
use Rattle.rules.specs.declared.Fault.TheVariants as fault
use Rattle.rules.specs.Values.{signed, is_neg, is_from}
use Rattle.rules.specs.Arithmetic.{kept}

-- ---- number to decimal

unfoldable pub placed : (ℕ → ℕ) → ℕ → List ℕ
placed f zero = []
placed f (suc k) = f k ∷ placed f k

-- The character for 0 at the place k: the first sign letter z stands at the last place only.
abbrev pub zero_at : ℕ → ℕ → ℕ
zero_at z zero = z
zero_at z (suc k) = 48

abbrev pub digit_at : ℕ → ℕ → ℕ → ℕ
digit_at z m k = zero_at z k + m / 10 ^ k % 10

-- "right-justified, zeros in front, high digits dropped silently. The sign stays if the digits kept are not all 0."
abbrev pub written : ℕ → ℕ → ℤ → List ℕ
written sign n v = placed (digit_at (cond (is_neg v and ltb 0 (nat_abs v % 10 ^ n)) sign 48) (nat_abs v)) n

-- ---- number to alpha

-- The least w, from the one given on, for which m has at most w digits; k is how many more are tried.
unfoldable pub width_from : ℕ → ℕ → ℕ → ℕ
width_from zero w m = w
width_from (suc k) w m = let more = width_from k (w + 1) m in cond (ltb m (10 ^ w)) w more

-- "shortest digits": 0 has one, and no value more than eighteen
abbrev pub width : ℕ → ℕ
width m = width_from 17 1 m

-- "shortest digits, a minus in front if negative, right-justified behind spaces": the character at the place k
abbrev pub shown_at : Bool → ℕ → ℕ → ℕ → ℕ
shown_at neg m w k = cond (ltb k w) (48 + m / 10 ^ k % 10) (cond (neg and eqb k w) 45 32)

-- "the left is cut if too long"
abbrev pub shown : ℕ → ℤ → List ℕ
shown n v = placed (shown_at (is_neg v) (nat_abs v) (width (nat_abs v))) n

-- ---- alpha to number

-- "spaces and + are skipped; one minus anywhere makes it negative; a second minus, or any other character, is 22. No digits is 0. More than
-- 18 digits after leading zeros is 20; 22 comes before it." Here after a minus or none, and after the digits of acc.
unfoldable pub alpha_from : ℕ → Bool → ℕ → List ℕ → Result ℤ Fault
alpha_from top minus acc [] = kept top (signed minus acc)
alpha_from top minus acc (b ∷ bs) =
    let same = alpha_from top minus acc bs in
    let turned = alpha_from top true acc bs in
    let more = alpha_from top minus (acc * 10 + (b - 48)) bs in
    cond (eqb b 32) same
    (cond (eqb b 43) same
    (cond (eqb b 45) (cond minus (Err fault.BadDigit) turned)
    (cond (is_from 48 b) more (Err fault.BadDigit))))

abbrev pub alpha_of : ℕ → List ℕ → Result ℤ Fault
alpha_of top s = alpha_from top false 0 s

-- ---- alpha to alpha, case, CLEAR

-- "left-justified, cut or filled with spaces on the right"
unfoldable pub fitted : ℕ → List ℕ → List ℕ
fitted zero s = []
fitted (suc n) [] = 32 ∷ fitted n []
fitted (suc n) (x ∷ xs) = x ∷ fitted n xs

-- "UPCASE turns bytes 61 to 7A (hex) into 41 to 5A, LOCASE the reverse; other bytes stay."
abbrev pub upper : ℕ → ℕ
upper b = cond (leb 0x61 b and leb b 0x7a) (b - 0x20) b

abbrev pub lower : ℕ → ℕ
lower b = cond (leb 0x41 b and leb b 0x5a) (b + 0x20) b

abbrev pub upcased : List ℕ → List ℕ
upcased s = map upper s

abbrev pub locased : List ℕ → List ℕ
locased s = map lower s

-- "CLEAR writes spaces to alpha, zeros to decimal."
abbrev pub blanks : ℕ → List ℕ
blanks n = replicate n 32

abbrev pub zeros : ℕ → List ℕ
zeros n = replicate n 48
