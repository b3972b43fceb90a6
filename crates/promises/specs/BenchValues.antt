-- The starred bench values of document 01 ("Bench values"), as one table under one claim.
--
-- The claim, `bench_values`: in every row of `rows`, what the written rules answer is what document 01 says. It is proved by computation alone: the
-- rules' side of each row is worked out to its answer.
-- Assumes nothing.
use Rattle.std.specs.Prelude.{refl, List, [], ◌∷◌, pos, Ok}
use Rattle.rules.specs.Values.{read_from, padded_read, read_of}
use Rattle.rules.specs.Arithmetic.{add_of, div_of, round_of}
use Rattle.rules.specs.Moves.{placed, alpha_from, alpha_of, fitted}
use Rattle.rules_unit.specs.Table.{verb_of}
use Rattle.rules_unit.specs.Expressions.{digitsb, numberb}
use Rattle.rules_run.specs.Spans.{within, start_end_span, pos_length_span, span_of}
use Rattle.rules_run.specs.Evaluation.{digits_from, literal_number, step_by, place_by, place, last_of, worked_from, worked_of, calc}
use Rattle.rules_run.specs.States.{started, look_of}
use Rattle.rules_run.specs.Turns.{stored, applied, turn_by, turn_of}
use Rattle.promises.specs.Rows.{number, text, stop, Row, ◌is◌, AllHold, limit, top, sign, bytes, minus, answer, into, image, AM, NZ, NUM, unit, expression, range, back, after}

abbrev pub rows : List Row
rows =
    -- *AM(12,15) is lmno
    expression (range AM 12 15) is text (bytes "lmno")
    -- *NZ(2:-5) is klmno
    ∷ expression (back NZ 2 5) is text (bytes "klmno")
    -- *AM(2:-5) is 21
    ∷ expression (back AM 2 5) is stop 21
    -- *NUM(10,11) is 21
    ∷ expression (range NUM 10 11) is stop 21
    -- *"2s" reads -23
    ∷ answer (read_of limit sign (bytes "2s")) is number (minus 23)
    -- *"q2" is 22
    ∷ answer (read_of limit sign (bytes "q2")) is stop 22
    -- *1234 into D2 is "34"
    ∷ into 2 (Ok (pos 1234)) is text (bytes "34")
    -- *-123 is "2s"
    ∷ into 2 (Ok (minus 123)) is text (bytes "2s")
    -- *-100 is "00"
    ∷ into 2 (Ok (minus 100)) is text (bytes "00")
    -- *-7/2 is -3
    ∷ answer (div_of (minus 7) (pos 2)) is number (minus 3)
    -- *25#1 is 3
    ∷ answer (round_of (pos 25) (pos 1)) is number (pos 3)
    -- *999999999999999999 + 1 is 20
    ∷ answer (add_of top (pos 999999999999999999) (pos 1)) is stop 20
    -- *" 1-2 " into D4 is "001r"
    ∷ into 4 (alpha_of top (bytes " 1-2 ")) is text (bytes "001r")
    -- *AM(2,6) from AM(1,5) gives AM "aabcdeghijklm"
    ∷ after 0 13 (turn_of unit (look_of started) 0 image) is text (bytes "aabcdeghijklm")
    ∷ []

pub bench_values : AllHold rows
unfolding read_of padded_read read_from placed alpha_from fitted digitsb numberb digits_from literal_number calc step_by within start_end_span pos_length_span span_of place_by place last_of worked_from worked_of stored applied verb_of turn_by turn_of
bench_values = refl
