-- What the statements with a place make of each sort of place and source (document 01, "Moves and arithmetic"), over "2s", which is a decimal and -23, the text
-- " 1-2 " and the text "abcd". Fields 0, 1 and 2 are these.
--   moves    the table
-- Assumes nothing.
use Rattle.std.specs.Prelude.{refl, List, [], ◌∷◌, pos}
use Rattle.rules.specs.Values.{read_from, padded_read, read_of}
use Rattle.rules.specs.Moves.{placed, width_from, alpha_from, fitted}
use Rattle.rules.specs.Masks.{tallied, tally_of, picture_of, first_sight, class_of, digit_of, sighted_by, sighted, moneyb, spot_from, spot_of, character_of, edit_from, edited, formatted}
use Rattle.rules_unit.specs.declared.Item.TheVariants as item
use Rattle.rules_unit.specs.declared.Op.TheVariants as op
use Rattle.rules_unit.specs.declared.Form.TheVariants as form
use Rattle.rules_unit.specs.Table.{verb_of}
use Rattle.rules_unit.specs.Expressions.{digitsb, numberb, textb}
use Rattle.rules_run.specs.Spans.{within, subscript_span, span_of}
use Rattle.rules_run.specs.Evaluation.{digits_from, literal_number, reference, step_by, place_by, place, last_of, worked_from, worked_of, calc}
use Rattle.rules_run.specs.Turns.{stored, applied, turn_by}
use Rattle.promises.specs.Rows.{text, stop, number, Row, ◌is◌, AllHold, bytes, alone, element}
use Rattle.promises.specs.Samples.{moved, masked}

abbrev pub moves : List Row
moves =
    -- "Alpha to alpha"
    moved 1 (alone 2) (alone 1) is text (bytes "2s 1-2  1-2")
    -- "Number to alpha": a decimal field, a number
    ∷ moved 1 (alone 2) (alone 0) is text (bytes "2s 1-2  -23")
    ∷ moved 1 (alone 2) (item.Number 14 2 ∷ []) is text (bytes "2s 1-2    7")
    -- "Alpha to decimal": a field, a literal
    ∷ moved 1 (alone 0) (alone 1) is text (bytes "1r 1-2 abcd")
    ∷ moved 1 (alone 0) (item.Text 2 4 ∷ []) is text (bytes "02 1-2 abcd")
    ∷ moved 1 (alone 0) (alone 2) is stop 22
    -- "Number to decimal"
    ∷ moved 1 (alone 0) (item.Number 14 2 ∷ []) is text (bytes "07 1-2 abcd")
    -- "CLEAR writes spaces to alpha, zeros to decimal."
    ∷ moved 2 (alone 2) [] is text (bytes "2s 1-2     ")
    ∷ moved 2 (alone 0) [] is text (bytes "00 1-2 abcd")
    -- "INCR and DECR compute, then store as a number move."
    ∷ moved 3 (alone 0) [] is text (bytes "2r 1-2 abcd")
    ∷ moved 4 (alone 0) [] is text (bytes "2t 1-2 abcd")
    ∷ moved 5 (alone 2) [] is text (bytes "2s 1-2 ABCD")
    -- "go to c if number b is zero"; "any other at i+n+1": a decimal field is a number
    ∷ moved 8 [] (alone 0) is text (bytes "2s 1-2 abcd")
    ∷ moved 12 [] (alone 0) is number (pos 1)
    -- "a is worked out before b"
    ∷ moved 1 (element 1 0) (item.Number 2 2 ∷ item.Number 0 2 ∷ item.Operator op.Divide ∷ []) is stop 21
    -- a mask of marks alone: a field, over itself, a literal
    ∷ masked (alone 2) (alone 0) (alone 1) is text (bytes "2s 1-2 1-2 ")
    ∷ masked (alone 1) (alone 0) (alone 1) is text (bytes "2s 1-2 abcd")
    ∷ masked (alone 1) (alone 0) (item.Text 2 4 ∷ []) is text (bytes "2s 0102abcd")
    -- "21 for the mask's place comes after the destination's and before the number's."
    ∷ masked (element 1 0) (alone 0) (alone 1) is stop 21
    ∷ masked (element 1 0) (alone 0) (item.Number 2 2 ∷ item.Number 0 2 ∷ item.Operator op.Divide ∷ item.Reference form.Subscript 1 ∷ []) is stop 21
    ∷ masked (alone 2) (alone 0) (item.Number 2 2 ∷ item.Number 0 2 ∷ item.Operator op.Divide ∷ item.Reference form.Subscript 1 ∷ []) is stop 23
    ∷ masked (alone 2) (item.Number 2 2 ∷ item.Number 0 2 ∷ item.Operator op.Divide ∷ []) (alone 1) is stop 23
    ∷ masked (alone 2) (item.Number 2 2 ∷ item.Number 0 2 ∷ item.Operator op.Divide ∷ []) (element 1 0) is stop 21
    ∷ []

pub moves_hold : AllHold moves
unfolding read_of padded_read read_from placed width_from alpha_from fitted verb_of digitsb numberb textb digits_from literal_number calc reference step_by within subscript_span span_of place_by place last_of worked_from worked_of stored applied turn_by formatted edited edit_from character_of spot_of spot_from moneyb sighted sighted_by digit_of class_of first_sight picture_of tally_of tallied
moves_hold = refl
