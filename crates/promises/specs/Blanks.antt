-- Spaces in a decimal (request 2 of document 02).
--
-- "Reading must take leading spaces as zeros, and an all-space span as 0. A space after a digit is still 22. Writing never makes such spaces. "Valid" in demand 3
-- reads this way from then on": it is the `Valid` of Demand2 and Demand3, and a decimal that is not too long is 22 exactly when it is not valid (`read_22`).
--
--   spaces_as_zeros     leading spaces read as as many zeros do
--   space_after_digit   a space anywhere behind a digit is 22
--   writes_no_space     neither what a number is written as nor what CLEAR writes has a space
--   amounts             a table of spans, each told from what it might be taken for
-- Assumes nothing.
use Rattle.std.specs.Prelude.{◌≡◌, refl, true, false, List, [], ◌∷◌, ◌++◌, ℕ, ◌<◌, ◌≤◌, ℤ, pos, length, get_or, Err}
use Rattle.rules.specs.declared.Fault.TheVariants as fault
use Rattle.rules.specs.Values.{Letters, is_from, read_from, padded_read, read_of}
use Rattle.rules.specs.Moves.{placed, written, blanks, zeros}
use Rattle.rules.proofs.Blanks as laws
use Rattle.rules_unit.specs.Table.{verb_of}
use Rattle.rules_unit.specs.Expressions.{digitsb, numberb}
use Rattle.rules_run.specs.Spans.{within, start_end_span, span_of}
use Rattle.rules_run.specs.Evaluation.{digits_from, literal_number, step_by, place_by, place, last_of, worked_from, worked_of, calc}
use Rattle.rules_run.specs.Turns.{cleared, stored, applied, turn_by}
use Rattle.promises.specs.Rows.{number, text, stop, Row, ◌is◌, AllHold, limit, sign, bytes, minus, answer, alone, range}
use Rattle.promises.specs.Samples.{of_amount, counted}

-- "Reading must take leading spaces as zeros, and an all-space span as 0.": s is what stands behind them, if anything does.
pub spaces_as_zeros : (limit sign k : ℕ) (s : List ℕ) → (get_or s 0 0 ≡ 32 → ⊥) → read_of limit sign (blanks k ++ s) ≡ read_of limit sign (zeros k ++ s)
spaces_as_zeros = laws.leading_zeros

-- "A space after a digit is still 22.": the digit is the character i, the space the character j.
pub space_after_digit : (limit sign : ℕ) → Letters sign → (s : List ℕ) → length s ≤ limit → (i j : ℕ) → i < j → j < length s → is_from 48 (get_or s i 0) ≡ true → get_or s j 0 ≡ 32
    → read_of limit sign s ≡ Err fault.BadDigit
space_after_digit = laws.space_behind

-- "Writing never makes such spaces.": no character of the text is one.
abbrev NoSpace : List ℕ → Type 0
NoSpace s = (j : ℕ) → j < length s → get_or s j 0 ≡ 32 → ⊥

pub writes_no_space : (sign n : ℕ) → Letters sign → ((v : ℤ) → NoSpace (written sign n v)) × NoSpace (cleared true n)
writes_no_space sign n letters = (λ v. laws.written_space letters n v, laws.zeros_space letters n)

abbrev pub amounts : List Row
amounts =
    -- "leading spaces as zeros, and an all-space span as 0"
    answer (read_of limit sign (bytes "  12")) is number (pos 12)
    ∷ answer (read_of limit sign (bytes " 0")) is number (pos 0)
    ∷ answer (read_of limit sign (bytes "   ")) is number (pos 0)
    ∷ answer (read_of limit sign (bytes " ")) is number (pos 0)
    -- a sign letter may stand directly behind the spaces
    ∷ answer (read_of limit sign (bytes " s")) is number (minus 3)
    ∷ answer (read_of limit sign (bytes "  0p")) is number (pos 0)
    ∷ answer (read_of limit sign (bytes " p")) is number (pos 0)
    -- "A space after a digit is still 22.", and so is one behind a sign letter
    ∷ answer (read_of limit sign (bytes "1 2")) is stop 22
    ∷ answer (read_of limit sign (bytes "1 ")) is stop 22
    ∷ answer (read_of limit sign (bytes " 1 ")) is stop 22
    ∷ answer (read_of limit sign (bytes "0 ")) is stop 22
    ∷ answer (read_of limit sign (bytes " 1 2")) is stop 22
    ∷ answer (read_of limit sign (bytes "s ")) is stop 22
    -- no other character is such a space: a tab, a zero byte, 21 (hex), a sign
    ∷ answer (read_of limit sign (9 ∷ 49 ∷ [])) is stop 22
    ∷ answer (read_of limit sign (0 ∷ 49 ∷ [])) is stop 22
    ∷ answer (read_of limit sign (33 ∷ 49 ∷ [])) is stop 22
    ∷ answer (read_of limit sign (bytes "+1")) is stop 22
    ∷ answer (read_of limit sign (bytes " -1")) is stop 22
    -- spaces count as characters, and 20 comes before 22; no characters are no decimal
    ∷ answer (read_of limit sign (blanks 17 ++ bytes "7")) is number (pos 7)
    ∷ answer (read_of limit sign (blanks 18)) is number (pos 0)
    ∷ answer (read_of limit sign (blanks 18 ++ bytes "7")) is stop 20
    ∷ answer (read_of limit sign (blanks 19)) is stop 20
    ∷ answer (read_of limit sign (bytes "1" ++ blanks 18)) is stop 20
    ∷ answer (read_of limit sign []) is stop 22
    -- the spaces are those of the span that is read, not of the field
    ∷ of_amount "1 2" (alone 0) is stop 22
    ∷ of_amount "1 2" (range 0 2 3) is number (pos 2)
    ∷ of_amount "1 2" (range 0 1 1) is number (pos 1)
    ∷ of_amount "1 2" (range 0 1 2) is stop 22
    ∷ of_amount " 12" (range 0 1 1) is number (pos 0)
    ∷ of_amount " 12" (range 0 1 2) is number (pos 1)
    ∷ of_amount "   " (range 0 2 3) is number (pos 0)
    -- a blank amount is counted from 0, and what is written has no spaces
    ∷ counted "   " is text (bytes "001")
    ∷ counted "  y" is text (bytes "00x")
    ∷ counted "1 2" is stop 22
    -- a decimal under a record that was CLEARed
    ∷ answer (read_of limit sign (cleared false 3)) is number (pos 0)
    ∷ []

pub amounts_hold : AllHold amounts
unfolding read_of padded_read read_from placed verb_of digitsb numberb digits_from literal_number calc step_by within start_end_span span_of place_by place last_of worked_from worked_of stored applied turn_by
amounts_hold = refl
