-- Runs of FOR loops, computed (request 4 of document 02, "FOR loops"): what each comes to is its stop, its place, the statements completed, the loops still open
-- and the data, which is I, a decimal of two characters where nothing else is said, and P behind it, a decimal of one.
--
--   passed           whole loops: FOR I; INCR P; loop end
--   entries          the order of the errors on entry
--   ways             EXITLOOP, NEXTLOOP, loops that are nested, loops that are left open, and no loop
--   controls         the control place, found again at each pass
--   slots            a loop that is open, and the slot of one that is closed
-- Assumes nothing.
use Rattle.std.specs.Prelude.{◌≡◌, refl, List, [], ◌∷◌, ◌++◌, ℕ, length, replicate, pos}
use Prim.Native.String as string
use Rattle.rules.specs.Values.{read_from, padded_read, read_of}
use Rattle.rules.specs.Moves.{placed}
use Rattle.rules_unit.specs.Decode.{mark_of, parts_of, kind_of, field_at, reference_at, number_at, item_by, item_at, items_in, items_at, statement_at}
use Rattle.rules_unit.specs.Table.{verb_of}
use Rattle.rules_unit.specs.Expressions.{digitsb, numberb, sort_from, sort_at, extent_of, usesb}
use Rattle.rules_unit.specs.Checks.{filledb, rangesb, choiceb, entryb, good_fields, endb, rowb, shapeb, found_of, statements_from, parts_check, check_of}
use Rattle.rules_run.specs.Spans.{within, subscript_span, start_end_span, span_of}
use Rattle.rules_run.specs.Evaluation.{calc, digits_from, literal_number, reference, step_by, place_by, place, last_of, worked_from, worked_of}
use Rattle.rules_run.specs.States.{no_loop, returnsb, loopb, emptyb, slotsb, soundb}
use Rattle.rules_run.specs.Turns.{stored, applied, enters, repeats, exits, turn_by, turn_of}
use Rattle.rules_run.specs.Runs.{moved_by, run_from, run_checked, run_of}
use Rattle.promises.specs.Rows.{Answer, run, Row, ◌is◌, AllHold, bytes}
use Rattle.promises.specs.Samples.{figure, below, I, P, numbers, coded, plain, looping, ran_of, ends, slot, loop_of, looped, passes}

-- ---- whole loops

abbrev pub passed : List Row
passed =
    -- 1 to 9 by 2: five passes
    passes "000" (numbers (figure 1) (figure 9) (figure 2)) is run 0 3 11 0 (bytes "115")
    -- 5 to 1 never runs
    ∷ passes "000" (numbers (figure 5) (figure 1) (figure 1)) is run 0 3 1 0 (bytes "050")
    -- 3 to 1 by -1; 1 to 3 by -1 never runs
    ∷ passes "000" (numbers (figure 3) (figure 1) (below 1)) is run 0 3 7 0 (bytes "003")
    ∷ passes "000" (numbers (figure 1) (figure 3) (below 1)) is run 0 3 1 0 (bytes "010")
    -- 1 to 9 in a D1: 10 doesn't fit, and 9 is kept
    ∷ passes "00" (numbers (figure 1) (figure 9) (figure 1)) is run 20 2 18 1 (bytes "99")
    -- -9 to -8 in a D1: a sign costs no place
    ∷ passes "00" (numbers (below 9) (below 8) (figure 1)) is run 0 3 5 0 (bytes "w2")
    -- -7 to 30 by 15 in a D1: the limit and the step need not fit
    ∷ passes "00" (numbers (below 7) (figure 30) (figure 15)) is run 20 2 4 1 (bytes "82")
    -- 1 to P, where P is 3 and counts the passes: the limit is worked out once
    ∷ passes "003" (numbers (figure 1) P (figure 1)) is run 0 3 7 0 (bytes "046")
    -- the control place is not read on entry
    ∷ passes "ab0" (numbers (figure 1) (figure 2) (figure 1)) is run 0 3 5 0 (bytes "032")
    ∷ []

pub passed_hold : AllHold passed
unfolding read_of padded_read read_from placed mark_of parts_of kind_of field_at reference_at number_at item_by item_at items_in items_at statement_at verb_of digitsb numberb sort_from sort_at extent_of usesb filledb rangesb choiceb entryb good_fields endb rowb shapeb found_of statements_from parts_check check_of within subscript_span span_of calc digits_from literal_number reference step_by place_by place last_of worked_from worked_of returnsb loopb emptyb slotsb soundb stored applied enters repeats exits turn_by turn_of moved_by run_from run_checked run_of
passed_hold = refl

-- ---- the order of the errors on entry

-- Numbers that are not to be had: 1 / 0 is 23, 1 # 19 is 26, I(9) is 21. 100 doesn't fit I.
abbrev divided : List ℕ
divided = figure 1 ++ (figure 0 ++ (0x13 ∷ []))

abbrev rounded : List ℕ
rounded = figure 1 ++ (figure 19 ++ (0x14 ∷ []))

abbrev outside : List ℕ
outside = figure 9 ++ (3 ∷ 0 ∷ 0 ∷ [])

abbrev hundred : List ℕ
hundred = figure 10 ++ (figure 10 ++ (0x12 ∷ []))

-- I plus 1; 16 minus I.
abbrev one_more : List ℕ
one_more = I ++ (figure 1 ++ (0x10 ∷ []))

abbrev left_of_sixteen : List ℕ
left_of_sixteen = figure 16 ++ (I ++ (0x11 ∷ []))

abbrev pub entries : List Row
entries =
    -- "On entry the control place is found, then start, limit and step are worked out once, in that order."
    ends (ran_of 3 (looping "000" (numbers divided rounded (figure 0)) outside (coded 14 29 4 1 ∷ plain 15 ∷ []))) is run 21 0 0 0 (bytes "000")
    ∷ passes "000" (numbers divided rounded outside) is run 23 0 0 0 (bytes "000")
    ∷ passes "000" (numbers hundred rounded outside) is run 26 0 0 0 (bytes "000")
    ∷ passes "000" (numbers hundred (figure 9) outside) is run 21 0 0 0 (bytes "000")
    ∷ passes "00z" (numbers P rounded (figure 1)) is run 22 0 0 0 (bytes "00z")
    -- "27 zero step, after the step's own errors and before that 20", also where the loop would not run
    ∷ passes "000" (numbers hundred (figure 9) (figure 0)) is run 27 0 0 0 (bytes "000")
    ∷ passes "000" (numbers (figure 5) (figure 1) (figure 0)) is run 27 0 0 0 (bytes "000")
    ∷ passes "000" (numbers (figure 1) rounded (figure 0)) is run 26 0 0 0 (bytes "000")
    -- "20 for a control value that doesn't fit", also where the loop would not run
    ∷ passes "000" (numbers hundred (figure 9) (figure 1)) is run 20 0 0 0 (bytes "000")
    ∷ passes "000" (numbers hundred (figure 9) (below 1)) is run 20 0 0 0 (bytes "000")
    -- "28 more than 16 open loops, before anything is evaluated": in the second row the 17th would have a step of 0, and in the third one of 16 / 0
    ∷ looped "000" (numbers (figure 1) (figure 9) (figure 1)) 2 (coded 7 0 0 0 ∷ plain 15 ∷ []) is run 28 0 32 16 (bytes "010")
    ∷ looped "000" (numbers one_more (figure 30) left_of_sixteen) 2 (coded 7 0 0 0 ∷ plain 15 ∷ []) is run 28 0 32 16 (bytes "160")
    ∷ looped "000" (numbers one_more (figure 30) (figure 16 ++ (left_of_sixteen ++ (0x13 ∷ [])))) 2 (coded 7 0 0 0 ∷ plain 15 ∷ []) is run 28 0 32 16 (bytes "160")
    ∷ []

pub entries_hold : AllHold entries
unfolding read_of padded_read read_from placed mark_of parts_of kind_of field_at reference_at number_at item_by item_at items_in items_at statement_at verb_of digitsb numberb sort_from sort_at extent_of usesb filledb rangesb choiceb entryb good_fields endb rowb shapeb found_of statements_from parts_check check_of within subscript_span span_of calc digits_from literal_number reference step_by place_by place last_of worked_from worked_of returnsb loopb emptyb slotsb soundb stored applied enters repeats exits turn_by turn_of moved_by run_from run_checked run_of
entries_hold = refl

-- ---- ways through a loop and out of it

abbrev pub ways : List Row
ways =
    -- EXITLOOP goes on behind the entry's loop end; a loop end then finds none open
    looped "000" (numbers (figure 1) (figure 9) (figure 1)) 4 (plain 3 ∷ plain 16 ∷ plain 3 ∷ plain 15 ∷ plain 15 ∷ []) is run 29 5 3 0 (bytes "011")
    -- NEXTLOOP adds the step; then EXITLOOP, and NEXTLOOP, find none open
    ∷ looped "000" (numbers (figure 1) (figure 3) (figure 1)) 4 (plain 3 ∷ plain 17 ∷ plain 3 ∷ plain 15 ∷ plain 16 ∷ []) is run 29 5 7 0 (bytes "043")
    ∷ looped "000" (numbers (figure 1) (figure 3) (figure 1)) 4 (plain 3 ∷ plain 17 ∷ plain 3 ∷ plain 15 ∷ plain 17 ∷ []) is run 29 5 7 0 (bytes "043")
    -- the way out lies behind the entry's loop end, and not behind the one that is met
    ∷ looped "000" (numbers (figure 1) (figure 1) (figure 1)) 2 (plain 15 ∷ plain 15 ∷ []) is run 0 3 2 0 (bytes "020")
    -- a loop that is left by GOTO stays open, and a loop end met later acts on it
    ∷ looped "000" (numbers (figure 1) (figure 2) (figure 1)) 2 (coded 7 0 0 3 ∷ plain 15 ∷ plain 15 ∷ []) is run 29 3 5 0 (bytes "030")
    -- STOP keeps it open
    ∷ looped "000" (numbers (figure 1) (figure 9) (figure 1)) 2 (plain 11 ∷ plain 15 ∷ []) is run 0 3 2 1 (bytes "010")
    -- FOR P inside FOR I, both -2 to 2 by 2
    ∷ looped "000" (numbers (below 2) (figure 2) (figure 2)) 3 (coded 14 0 4 2 ∷ plain 15 ∷ plain 15 ∷ []) is run 0 4 16 0 (bytes "044")
    ∷ []

pub ways_hold : AllHold ways
unfolding read_of padded_read read_from placed mark_of parts_of kind_of field_at reference_at number_at item_by item_at items_in items_at statement_at verb_of digitsb numberb sort_from sort_at extent_of usesb filledb rangesb choiceb entryb good_fields endb rowb shapeb found_of statements_from parts_check check_of within subscript_span span_of calc digits_from literal_number reference step_by place_by place last_of worked_from worked_of returnsb loopb emptyb slotsb soundb stored applied enters repeats exits turn_by turn_of moved_by run_from run_checked run_of
ways_hold = refl

-- ---- the control place from pass to pass

-- FOR, whose loop end is the statement given, from 1 to the limit by 1 at the place given.
abbrev moving : string.String → ℕ → List ℕ → ℕ → List (List ℕ) → Answer
moving held limit place end body =
    ends (ran_of (length (bytes held)) (looping held (numbers (figure 1) (figure limit) (figure 1)) place (coded 14 19 4 end ∷ body)))

-- I(P); I(P,P).
abbrev element : List ℕ
element = P ++ (3 ∷ 0 ∷ 0 ∷ [])

abbrev character : List ℕ
character = P ++ (P ++ (4 ∷ 0 ∷ 0 ∷ []))

abbrev pub controls : List Row
controls =
    -- "the control place is found again from that statement at each pass": INCR P makes it I(2), which lies outside the data
    moving "001" 9 element 2 (plain 3 ∷ plain 15 ∷ []) is run 21 2 2 1 (bytes "012")
    -- EXITLOOP does not find it
    ∷ moving "001" 9 element 3 (plain 3 ∷ plain 16 ∷ plain 15 ∷ []) is run 0 4 3 0 (bytes "012")
    -- it may move: I(1,1) to I(3,3), and then to P itself, which is 4
    ∷ moving "0001" 1 character 2 (plain 3 ∷ plain 15 ∷ []) is run 0 3 7 0 (bytes "1115")
    -- INCR I in the loop: the step is added to what the control field then holds
    ∷ moving "000" 9 I 2 (coded 3 19 0 0 ∷ plain 15 ∷ []) is run 0 3 11 0 (bytes "110")
    ∷ []

pub controls_hold : AllHold controls
unfolding read_of padded_read read_from placed mark_of parts_of kind_of field_at reference_at number_at item_by item_at items_in items_at statement_at verb_of digitsb numberb sort_from sort_at extent_of usesb filledb rangesb choiceb entryb good_fields endb rowb shapeb found_of statements_from parts_check check_of within subscript_span start_end_span span_of calc digits_from literal_number reference step_by place_by place last_of worked_from worked_of returnsb loopb emptyb slotsb soundb stored applied enters repeats exits turn_by turn_of moved_by run_from run_checked run_of
controls_hold = refl

-- ---- slots

pub record Slots : Type 0 where
  -- of FOR I = 1 THRU 9 BY 2 and a STOP, of the whole loop, and of one with EXITLOOP
  pub still_open : (ran_of 3 (loop_of "000" (numbers (figure 1) (figure 9) (figure 2)) 2 (plain 11 ∷ plain 15 ∷ []))).outcome.state.loops ≡ slot 0 (pos 9) (pos 2) ∷ replicate 15 no_loop
  pub closed_again : (ran_of 3 (loop_of "000" (numbers (figure 1) (figure 9) (figure 2)) 2 (plain 3 ∷ plain 15 ∷ []))).outcome.state.loops ≡ replicate 16 no_loop
  pub closed_early : (ran_of 3 (loop_of "000" (numbers (figure 1) (figure 9) (figure 2)) 2 (plain 16 ∷ plain 15 ∷ []))).outcome.state.loops ≡ replicate 16 no_loop
  -- of two FORs inside one another the one opened last is closed
  pub outer_kept : (ran_of 3 (loop_of "000" (numbers (figure 1) (figure 2) (figure 1)) 5 (coded 14 0 4 3 ∷ plain 16 ∷ plain 15 ∷ plain 11 ∷ plain 15 ∷ []))).outcome.state.loops ≡ slot 0 (pos 2) (pos 1) ∷ replicate 15 no_loop

pub slots : Slots
unfolding read_of padded_read read_from placed mark_of parts_of kind_of field_at reference_at number_at item_by item_at items_in items_at statement_at verb_of digitsb numberb sort_from sort_at extent_of usesb filledb rangesb choiceb entryb good_fields endb rowb shapeb found_of statements_from parts_check check_of within subscript_span span_of calc digits_from literal_number reference step_by place_by place last_of worked_from worked_of returnsb loopb emptyb slotsb soundb stored applied enters repeats exits turn_by turn_of moved_by run_from run_checked run_of
slots = record { still_open = refl; closed_again = refl; closed_early = refl; outer_kept = refl }
