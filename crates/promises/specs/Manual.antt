-- Worked examples of source document 000, sections 3.2.1 to 3.2.5, 3.3, 3.4.1, 3.4.2 and 5.10, computed from the written rules; misprints are put right
-- (docs/DIFFERENCES.md).
--   manual_examples      eleven examples of 3.2.1 to 3.2.4, 3.4.1 and 3.4.2, one or more of each section
--   manual_formats       the eleven examples of 3.2.5, and that of 5.10
--   manual_subscripts    the eleven examples of 3.3
-- The stored units tests/runs/manual-*.txt, named by section, run every worked example of these sections, those proved here among them.
-- Assumes nothing.
use Rattle.std.specs.Prelude.{refl, List, [], ◌∷◌, ◌++◌, ℕ, zero, suc, pos, Ok}
use Rattle.rules.specs.Values.{read_from, padded_read, read_of}
use Rattle.rules.specs.Arithmetic.{mul_of}
use Rattle.rules.specs.Moves.{placed, width_from, shown, alpha_from, alpha_of, fitted}
use Rattle.rules.specs.Masks.{tallied, tally_of, picture_of, first_sight, class_of, digit_of, sighted_by, sighted, moneyb, spot_from, spot_of, character_of, edit_from, edited, formatted}
use Rattle.rules_unit.specs.declared.Kind.TheVariants as kind
use Rattle.rules_unit.specs.declared.Field.{Field}
use Rattle.rules_unit.specs.declared.Item.{Item}
use Rattle.rules_unit.specs.Expressions.{digitsb, numberb}
use Rattle.rules_run.specs.Spans.{within, subscript_span, start_end_span, pos_length_span, span_of}
use Rattle.rules_run.specs.Evaluation.{digits_from, literal_number, step_by, place_by, place, last_of, worked_from, worked_of, calc}
use Rattle.promises.specs.Rows.{Answer, number, text, stop, Row, ◌is◌, AllHold, top, bytes, minus, into, unit_over, accessed, AM, NZ, NUM, expression, alone, element, range, forth, back}

abbrev pub examples : List Row
examples =
    -- 3.2.1: 'Johnson' moved to NAME1, A4, is 'John'
    text (fitted 4 (bytes "Johnson")) is text (bytes "John")
    -- 3.2.1: 'FGH' moved to A, A5, is 'FGH  '
    ∷ text (fitted 5 (bytes "FGH")) is text (bytes "FGH  ")
    -- 3.2.2: 1234 moved to C, D10, is 0000001234
    ∷ into 10 (Ok (pos 1234)) is text (bytes "0000001234")
    -- 3.2.2: 1234*34 moved to C, D4, is 1956
    ∷ into 4 (mul_of top (pos 1234) (pos 34)) is text (bytes "1956")
    -- 3.2.3: '-0065432178' moved to C, D10, is 006543217x
    ∷ into 10 (alpha_of top (bytes "-0065432178")) is text (bytes "006543217x")
    -- 3.2.4: 87654321 moved to B, A4, is '4321'
    ∷ text (shown 4 (pos 87654321)) is text (bytes "4321")
    -- 3.2.4: -8 moved to C, A3, is ' -8'
    ∷ text (shown 3 (minus 8)) is text (bytes " -8")
    -- 3.4.1: NUM(4,8) is 45678, not 478
    ∷ expression (range NUM 4 8) is number (pos 45678)
    -- 3.4.1: NZ(13,15) is z12
    ∷ expression (range NZ 13 15) is text (bytes "z12")
    -- 3.4.2: AM(13:-4) is jklm
    ∷ expression (back AM 13 4) is text (bytes "jklm")
    -- 3.4.2: NUM(10:2) is a subscript error
    ∷ expression (forth NUM 10 2) is stop 21
    ∷ []

pub manual_examples : AllHold examples
unfolding read_of padded_read read_from placed alpha_from width_from fitted digitsb numberb digits_from literal_number calc step_by within start_end_span pos_length_span span_of place_by place last_of worked_from worked_of
manual_examples = refl

-- ---- 3.2.5

abbrev pub formats : List Row
formats =
    -- 3.2.5: 123 by each of the places
    text (formatted 8 (bytes "XXXXXXXX") (pos 123)) is text (bytes "00000123")
    ∷ text (formatted 8 (bytes "ZZZZZZZ") (pos 123)) is text (bytes "     123")
    ∷ text (formatted 8 (bytes "********") (pos 123)) is text (bytes "*****123")
    ∷ text (formatted 8 (bytes "$$$$$$") (pos 123)) is text (bytes "    $123")
    -- 3.2.5: signs, points and commas
    ∷ text (formatted 8 (bytes "-XXX,XXX") (minus 1123)) is text (bytes "-001,123")
    ∷ text (formatted 8 (bytes "$$$$$.XX") (pos 123)) is text (bytes "   $1.23")
    ∷ text (formatted 8 (bytes "$***.**-") (minus 123)) is text (bytes "$**1.23-")
    ∷ text (formatted 8 (bytes "X,XXX.XX") (pos 12345678)) is text (bytes "3,456.78")
    ∷ text (formatted 8 (bytes "$,$$$.XX") (pos 1234)) is text (bytes "  $12.34")
    ∷ text (formatted 8 (bytes "*,***.XX") (pos 1234)) is text (bytes "***12.34")
    ∷ text (formatted 8 (bytes "Z,ZZZ.XX") (pos 1234)) is text (bytes "   12.34")
    -- 5.10: 123456789 to A15, with '$' as the money sign
    ∷ text (formatted 15 (bytes "$$$$$$$$.XX") (pos 123456789)) is text (bytes "    $1234567.89")
    ∷ []

pub manual_formats : AllHold formats
unfolding formatted edited edit_from character_of spot_of spot_from moneyb sighted sighted_by digit_of class_of first_sight picture_of tally_of tallied
manual_formats = refl

-- ---- 3.3

-- "NAME, 4A3, 'LAS', 'FIR', 'MID', 'ADD'" and "CODE, 4D4, 0617, 1739, 5173, 2480"
abbrev arrays : List ℕ
arrays = bytes "LASFIRMIDADD" ++ bytes "0617173951732480"

abbrev NAME : ℕ
NAME = 0

abbrev CODE : ℕ
CODE = 1

abbrev array_of : ℕ → Field
array_of zero = record { kind = kind.Alpha; zero = 0; offset = 0; size = 3; count = 4 }
array_of (suc f) = record { kind = kind.Decimal; zero = 0; offset = 12; size = 4; count = 4 }

abbrev pub of_arrays : List Item → Answer
of_arrays list = accessed (unit_over 28 2 array_of (λ e. [])) arrays list

abbrev pub subscripts : List Row
subscripts =
    -- NAME is LAS, CODE is 0617
    of_arrays (alone NAME) is text (bytes "LAS")
    ∷ of_arrays (alone CODE) is number (pos 617)
    -- NAME(1) is LAS, NAME(3) is MID, NAME(4) is ADD
    ∷ of_arrays (element NAME 1) is text (bytes "LAS")
    ∷ of_arrays (element NAME 3) is text (bytes "MID")
    ∷ of_arrays (element NAME 4) is text (bytes "ADD")
    -- CODE(1) is 0617, CODE(4) is 2480
    ∷ of_arrays (element CODE 1) is number (pos 617)
    ∷ of_arrays (element CODE 4) is number (pos 2480)
    -- beyond the end of the array: NAME(5) is 061, NAME(6) is 717
    ∷ of_arrays (element NAME 5) is text (bytes "061")
    ∷ of_arrays (element NAME 6) is text (bytes "717")
    -- beyond the end of the data: CODE(5) and NAME(10) are subscript errors
    ∷ of_arrays (element CODE 5) is stop 21
    ∷ of_arrays (element NAME 10) is stop 21
    ∷ []

pub manual_subscripts : AllHold subscripts
unfolding read_of padded_read read_from digitsb numberb digits_from literal_number calc step_by within subscript_span span_of place_by place last_of worked_from worked_of
manual_subscripts = refl
