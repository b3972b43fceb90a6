-- Runs with a handler, computed (request 6 of document 02, "ONERROR and OFFERROR"): what each comes to is its stop, its place, the statements completed, the handler,
-- the last error, the calls and the loops still open, and the data, which is I, a decimal of all characters but the last, and P behind it, a decimal of one.
--
--   five             the five errors that are trapped, each beside the same without a handler
--   never            24, 25, 27, 28 and 29
--   statements       where in a statement an error arises
--   stays_open       calls and loops, where an error is trapped
--   told_last        what sets the handler and the last error, and what keeps them
--   allowances       a handler that fails, and allowances that end before it, or with the error
--   open_as_before   the return numbers and the slots, where an error is trapped
--   bad_digit_given, stopped_by_it    `Gives` of a trapped error, and of one that stops the run
--   none_without_allowance            with an allowance of 0 no error is given
--   fenced_text, text_given    the fence check says yes to a unit, and in a run of it 22 is given, by text that is moved to a decimal place
-- Assumes nothing.
use Rattle.std.proofs.Common.{arith}
use Rattle.std.specs.Prelude.{◌≡◌, refl, List, [], ◌∷◌, ◌++◌, ℕ, ◌+◌, length, set, replicate, pos, None, Some}
use Prim.Native.String as string
use Rattle.rules.specs.declared.Fault.{Fault}
use Rattle.rules.specs.declared.Fault.TheVariants as fault
use Rattle.rules.specs.Values.{read_from, padded_read, read_of}
use Rattle.rules.specs.Moves.{placed, alpha_from}
use Rattle.rules_unit.specs.Decode.{mark_of, parts_of, kind_of, field_at, reference_at, number_at, item_by, item_at, items_in, items_at, statement_at, decoded}
use Rattle.rules_unit.specs.Codes.{Code}
use Rattle.rules_unit.specs.Table.{verb_of}
use Rattle.rules_unit.specs.Expressions.{digitsb, numberb, sort_from, sort_at, extent_of, usesb}
use Rattle.rules_unit.specs.Checks.{filledb, rangesb, choiceb, entryb, good_fields, gotosb, tableb, endb, rowb, shapeb, found_of, statements_from, parts_check, check_of}
use Rattle.rules_run.specs.declared.State.{State}
use Rattle.rules_run.specs.Spans.{within, subscript_span, span_of}
use Rattle.rules_run.specs.Evaluation.{calc, digits_from, literal_number, reference, step_by, place_by, place, last_of, worked_from, worked_of}
use Rattle.rules_run.specs.States.{no_loop, returnsb, loopb, emptyb, slotsb, soundb, started, armed, error_at}
use Rattle.rules_run.specs.Turns.{stored, applied, enters, repeats, exits, turn_by, turn_of}
use Rattle.rules_run.specs.Runs.{moved_by, run_from, run_checked, run_of}
use Rattle.rules_run.specs.Answers.{Gives}
use Rattle.rules_fence.specs.declared.Verdict.TheVariants.{Yes}
use Rattle.rules_fence.specs.Bounds.{fixed_span}
use Rattle.rules_fence.specs.Breaches.{element_breach, apart_from, alpha_breach, reference_breach, breach_from, uses_breach, breach_of, verdict_from, fence_of}
use Rattle.promises.specs.Rows.{Answer, left, Row, ◌is◌, AllHold, bytes}
use Rattle.promises.specs.Samples.{figure, below, I, numbers, coded, plain, looping, ran_of, slot, told, on_error_lem, reads, erring, left_of, left_from}

-- Numbers that are not to be had: a product of 35 digits is 20, I(9) is 21, 1 / 0 is 23, 1 # 19 is 26. I is 22 where it holds "q2".
abbrev product : List ℕ
product = 1 ∷ 0 ∷ 20 ∷ 18 ∷ 1 ∷ 0 ∷ 20 ∷ 18 ∷ 0x12 ∷ []

abbrev outside : List ℕ
outside = figure 9 ++ (3 ∷ 0 ∷ 0 ∷ [])

abbrev divided : List ℕ
divided = figure 1 ++ (figure 0 ++ (0x13 ∷ []))

abbrev rounded : List ℕ
rounded = figure 1 ++ (figure 19 ++ (0x14 ∷ []))

-- SET P from the source given, and INCR P at 2, 3, 4 and 5: with ONERROR 5 before them, and with OFFERROR.
abbrev under : string.String → List ℕ → Answer
under held source = left_of (length (bytes held)) (erring held source (on_error_lem 5 ∷ reads ∷ plain 3 ∷ plain 3 ∷ plain 3 ∷ plain 3 ∷ []))

abbrev without : string.String → List ℕ → Answer
without held source = left_of (length (bytes held)) (erring held source (plain 19 ∷ reads ∷ plain 3 ∷ plain 3 ∷ plain 3 ∷ plain 3 ∷ []))

-- The first of these where I is "q2".
abbrev goes_on : List ℕ
goes_on = erring "q20" I (on_error_lem 5 ∷ reads ∷ plain 3 ∷ plain 3 ∷ plain 3 ∷ plain 3 ∷ [])

-- ---- the five

-- "one of the errors 20, 21, 22, 23 or 26 leaves the data as that statement found it, counts the statement as completed and goes on at c"
abbrev pub five : List Row
five =
    under "000" product is left 0 6 3 (Some 5) (error_at 20 1) 0 0 (bytes "001")
    ∷ under "000" outside is left 0 6 3 (Some 5) (error_at 21 1) 0 0 (bytes "001")
    ∷ under "q20" I is left 0 6 3 (Some 5) (error_at 22 1) 0 0 (bytes "q21")
    ∷ under "000" divided is left 0 6 3 (Some 5) (error_at 23 1) 0 0 (bytes "001")
    ∷ under "000" rounded is left 0 6 3 (Some 5) (error_at 26 1) 0 0 (bytes "001")
    -- "q2" alone: the run is at 5, and no byte has changed
    ∷ left_from 3 goes_on started 2 is left 30 5 2 (Some 5) (error_at 22 1) 0 0 (bytes "q20")
    -- a number that is to be had
    ∷ under "030" I is left 0 6 6 (Some 5) None 0 0 (bytes "037")
    -- without a handler; OFFERROR then does nothing but go on
    ∷ without "000" product is left 20 1 1 None None 0 0 (bytes "000")
    ∷ without "000" outside is left 21 1 1 None None 0 0 (bytes "000")
    ∷ without "q20" I is left 22 1 1 None None 0 0 (bytes "q20")
    ∷ without "000" divided is left 23 1 1 None None 0 0 (bytes "000")
    ∷ without "000" rounded is left 26 1 1 None None 0 0 (bytes "000")
    ∷ []

pub five_hold : AllHold five
unfolding read_of padded_read read_from placed mark_of parts_of kind_of field_at reference_at number_at item_by item_at items_in items_at statement_at verb_of digitsb numberb sort_from sort_at extent_of usesb filledb rangesb choiceb entryb good_fields endb rowb shapeb found_of statements_from parts_check check_of within subscript_span span_of calc digits_from literal_number reference step_by place_by place last_of worked_from worked_of returnsb loopb emptyb slotsb soundb stored applied enters repeats exits turn_by turn_of moved_by run_from run_checked run_of
five_hold = refl

-- ---- the others

-- ONERROR; FOR I with the numbers given, whose loop end is the statement given; the statements given.
abbrev for_under : string.String → ℕ → List ℕ → ℕ → List (List ℕ) → Answer
for_under held h three end body = left_of (length (bytes held)) (looping held three I (on_error_lem h ∷ coded 14 (length three + 4) 4 end ∷ body))

-- "Errors 24, 25, 27, 28 and 29 are not trapped."
abbrev pub never : List Row
never =
    -- the fifty-first CALL
    left_of 3 (erring "000" I (on_error_lem 2 ∷ coded 9 0 0 1 ∷ plain 3 ∷ [])) is left 24 1 51 (Some 2) None 50 0 (bytes "000")
    ∷ left_of 3 (erring "000" I (on_error_lem 2 ∷ plain 10 ∷ plain 3 ∷ [])) is left 25 1 1 (Some 2) None 0 0 (bytes "000")
    ∷ for_under "000" 3 (numbers (figure 1) (figure 9) (figure 0)) 2 (plain 15 ∷ plain 3 ∷ []) is left 27 1 1 (Some 3) None 0 0 (bytes "000")
    -- the seventeenth loop
    ∷ for_under "000" 4 (numbers (figure 1) (figure 9) (figure 1)) 3 (coded 7 0 0 1 ∷ plain 15 ∷ plain 3 ∷ []) is left 28 1 33 (Some 4) None 0 16 (bytes "010")
    ∷ left_of 3 (erring "000" I (on_error_lem 2 ∷ plain 15 ∷ plain 3 ∷ [])) is left 29 1 1 (Some 2) None 0 0 (bytes "000")
    ∷ left_of 3 (erring "000" I (on_error_lem 2 ∷ plain 16 ∷ plain 3 ∷ [])) is left 29 1 1 (Some 2) None 0 0 (bytes "000")
    ∷ left_of 3 (erring "000" I (on_error_lem 2 ∷ plain 17 ∷ plain 3 ∷ [])) is left 29 1 1 (Some 2) None 0 0 (bytes "000")
    ∷ []

pub never_hold : AllHold never
unfolding read_of padded_read read_from placed mark_of parts_of kind_of field_at reference_at number_at item_by item_at items_in items_at statement_at verb_of digitsb numberb sort_from sort_at extent_of usesb filledb rangesb choiceb entryb good_fields endb rowb shapeb found_of statements_from parts_check check_of within subscript_span span_of calc digits_from literal_number reference step_by place_by place last_of worked_from worked_of returnsb loopb emptyb slotsb soundb stored applied enters repeats exits turn_by turn_of moved_by run_from run_checked run_of
never_hold = refl

-- ---- where in a statement

-- A unit of three bytes of data, where P is A1; SET I from P, which is "z", under ONERROR 2, and STOP.
abbrev with_text : List ℕ → List ℕ
with_text u = set u 11 0

abbrev moves_text : List ℕ
moves_text = with_text (erring "00z" I (on_error_lem 2 ∷ coded 1 4 0 0 ∷ plain 11 ∷ []))

abbrev pub statements : List Row
statements =
    -- a place, before the source: I(9) from 1 / 0
    left_of 3 (erring "000" (outside ++ (0 ∷ divided)) (on_error_lem 2 ∷ coded 1 4 12 0 ∷ plain 11 ∷ [])) is left 0 3 3 (Some 2) (error_at 21 1) 0 0 (bytes "000")
    -- CLEAR, INCR, DECR
    ∷ left_of 3 (erring "000" outside (on_error_lem 2 ∷ coded 2 4 0 0 ∷ plain 11 ∷ [])) is left 0 3 3 (Some 2) (error_at 21 1) 0 0 (bytes "000")
    ∷ left_of 3 (erring "q20" I (on_error_lem 2 ∷ coded 3 4 0 0 ∷ plain 11 ∷ [])) is left 0 3 3 (Some 2) (error_at 22 1) 0 0 (bytes "q20")
    ∷ left_of 3 (erring "00z" I (on_error_lem 2 ∷ plain 4 ∷ plain 11 ∷ [])) is left 0 3 3 (Some 2) (error_at 22 1) 0 0 (bytes "00z")
    -- the test for zero, whose target is 3, and the computed GOTO, whose GOTO leads to 0
    ∷ left_of 3 (erring "000" divided (on_error_lem 2 ∷ coded 8 0 4 3 ∷ plain 11 ∷ plain 3 ∷ [])) is left 0 4 3 (Some 2) (error_at 23 1) 0 0 (bytes "000")
    ∷ left_of 3 (erring "000" rounded (on_error_lem 3 ∷ coded 12 1 4 0 ∷ coded 7 0 0 0 ∷ plain 11 ∷ [])) is left 0 4 3 (Some 3) (error_at 26 1) 0 0 (bytes "000")
    -- a number by a mask, which is P, and P moved to I, where P is A1
    ∷ left_of 3 (with_text (erring "000" divided (on_error_lem 2 ∷ coded 13 0 0 4 ∷ plain 11 ∷ []))) is left 0 3 3 (Some 2) (error_at 23 1) 0 0 (bytes "000")
    ∷ left_of 3 moves_text is left 0 3 3 (Some 2) (error_at 22 1) 0 0 (bytes "00z")
    ∷ []

pub statements_hold : AllHold statements
unfolding read_of padded_read read_from placed alpha_from mark_of parts_of kind_of field_at reference_at number_at item_by item_at items_in items_at statement_at verb_of digitsb numberb sort_from sort_at extent_of usesb filledb rangesb choiceb entryb good_fields gotosb tableb endb rowb shapeb found_of statements_from parts_check check_of within subscript_span span_of calc digits_from literal_number reference step_by place_by place last_of worked_from worked_of returnsb loopb emptyb slotsb soundb stored applied enters repeats exits turn_by turn_of moved_by run_from run_checked run_of
statements_hold = refl

-- ---- calls and loops

-- ONERROR 3; CALL 2; SET P from I, where I is "q2"; what stands at 3.
abbrev inside_a_call : List ℕ → List ℕ
inside_a_call at-three = erring "q20" I (on_error_lem 3 ∷ coded 9 0 0 2 ∷ reads ∷ at-three ∷ [])

-- ONERROR 4; FOR I = 8 THRU 30 BY 5; the statement given; loop end; STOP. I is D1, and 13 doesn't fit.
abbrev inside_a_loop : List ℕ → List ℕ
inside_a_loop statement = looping "8z" (numbers (figure 8) (figure 30) (figure 5)) I (on_error_lem 4 ∷ coded 14 19 4 3 ∷ statement ∷ plain 15 ∷ plain 11 ∷ [])

-- "Open calls and loops stay open."
abbrev pub stays_open : List Row
stays_open =
    left_of 3 (inside_a_call (plain 11)) is left 0 4 4 (Some 3) (error_at 22 2) 1 0 (bytes "q20")
    -- RETURN at the handler goes on behind the CALL, and the second time none is open
    ∷ left_of 3 (inside_a_call (plain 10)) is left 25 3 5 (Some 3) (error_at 22 2) 0 0 (bytes "q20")
    -- INCR P inside the loop, where P is "z"
    ∷ left_of 2 (inside_a_loop (plain 3)) is left 0 5 4 (Some 4) (error_at 22 2) 0 1 (bytes "8z")
    -- NEXTLOOP, and the loop end: the control field keeps its last value
    ∷ left_of 2 (inside_a_loop (plain 17)) is left 0 5 4 (Some 4) (error_at 20 2) 0 1 (bytes "8z")
    ∷ left_of 2 (inside_a_loop (plain 19)) is left 20 3 3 None None 0 1 (bytes "8z")
    ∷ left_of 2 (inside_a_loop (on_error_lem 4)) is left 0 5 5 (Some 4) (error_at 20 3) 0 1 (bytes "8z")
    -- FOR: nothing is opened, and nothing stored, whether a number is not to be had or the start doesn't fit
    ∷ for_under "000" 3 (numbers divided (figure 9) (figure 1)) 2 (plain 15 ∷ plain 11 ∷ []) is left 0 4 3 (Some 3) (error_at 23 1) 0 0 (bytes "000")
    ∷ for_under "000" 3 (numbers (figure 1) (figure 9) rounded) 2 (plain 15 ∷ plain 11 ∷ []) is left 0 4 3 (Some 3) (error_at 26 1) 0 0 (bytes "000")
    ∷ for_under "70" 3 (numbers (figure 10) (figure 9) (below 1)) 2 (plain 15 ∷ plain 11 ∷ []) is left 0 4 3 (Some 3) (error_at 20 1) 0 0 (bytes "70")
    ∷ []

pub stays_open_hold : AllHold stays_open
unfolding read_of padded_read read_from placed mark_of parts_of kind_of field_at reference_at number_at item_by item_at items_in items_at statement_at verb_of digitsb numberb sort_from sort_at extent_of usesb filledb rangesb choiceb entryb good_fields endb rowb shapeb found_of statements_from parts_check check_of within subscript_span span_of calc digits_from literal_number reference step_by place_by place last_of worked_from worked_of returnsb loopb emptyb slotsb soundb stored applied enters repeats exits turn_by turn_of moved_by run_from run_checked run_of
stays_open_hold = refl

pub record OpenAsBefore : Type 0 where
  pub returns : (ran_of 3 (inside_a_call (plain 11))).outcome.state.returns ≡ 2 ∷ replicate 49 0
  pub slots : (ran_of 2 (inside_a_loop (plain 3))).outcome.state.loops ≡ slot 1 (pos 30) (pos 5) ∷ replicate 15 no_loop
  pub slots_of_a_pass : (ran_of 2 (inside_a_loop (on_error_lem 4))).outcome.state.loops ≡ slot 1 (pos 30) (pos 5) ∷ replicate 15 no_loop

pub open_as_before : OpenAsBefore
unfolding read_of padded_read read_from placed mark_of parts_of kind_of field_at reference_at number_at item_by item_at items_in items_at statement_at verb_of digitsb numberb sort_from sort_at extent_of usesb filledb rangesb choiceb entryb good_fields endb rowb shapeb found_of statements_from parts_check check_of within subscript_span span_of calc digits_from literal_number reference step_by place_by place last_of worked_from worked_of returnsb loopb emptyb slotsb soundb stored applied enters repeats exits turn_by turn_of moved_by run_from run_checked run_of
open_as_before = record { returns = refl; slots = refl; slots_of_a_pass = refl }

-- ---- what sets the handler and the last error

-- The data "q2z", so that SET P from I is 22 and INCR P too; the source is the one given.
abbrev after_it : List ℕ → List (List ℕ) → Answer
after_it source statements = left_of 3 (erring "q2z" source statements)

abbrev pub told_last : List Row
told_last =
    -- a second error takes the place of the first: 1 / 0 and then INCR P, and the other way round, with OFFERROR between them
    after_it divided (on_error_lem 2 ∷ reads ∷ on_error_lem 4 ∷ plain 3 ∷ plain 11 ∷ []) is left 0 5 5 (Some 4) (error_at 22 3) 0 0 (bytes "q2z")
    ∷ after_it divided (on_error_lem 3 ∷ plain 3 ∷ plain 11 ∷ plain 19 ∷ on_error_lem 2 ∷ reads ∷ []) is left 0 6 6 (Some 2) (error_at 23 5) 0 0 (bytes "q2z")
    -- another ONERROR before the error takes the place of the first
    ∷ after_it I (on_error_lem 4 ∷ on_error_lem 3 ∷ reads ∷ plain 11 ∷ plain 10 ∷ []) is left 0 5 4 (Some 3) (error_at 22 2) 0 0 (bytes "q2z")
    -- ONERROR, OFFERROR and STOP keep the last error, and so does the end
    ∷ after_it I (on_error_lem 2 ∷ reads ∷ on_error_lem 3 ∷ plain 19 ∷ plain 11 ∷ []) is left 0 5 5 None (error_at 22 1) 0 0 (bytes "q2z")
    ∷ after_it I (on_error_lem 2 ∷ reads ∷ plain 19 ∷ []) is left 0 3 3 None (error_at 22 1) 0 0 (bytes "q2z")
    -- an error that stops the run keeps it: none of the five, and one of them after OFFERROR
    ∷ after_it I (on_error_lem 2 ∷ reads ∷ plain 10 ∷ []) is left 25 2 2 (Some 2) (error_at 22 1) 0 0 (bytes "q2z")
    ∷ after_it divided (on_error_lem 2 ∷ reads ∷ plain 19 ∷ plain 3 ∷ []) is left 22 3 3 None (error_at 23 1) 0 0 (bytes "q2z")
    ∷ []

pub told_last_hold : AllHold told_last
unfolding read_of padded_read read_from placed mark_of parts_of kind_of field_at reference_at number_at item_by item_at items_in items_at statement_at verb_of digitsb numberb sort_from sort_at extent_of usesb filledb rangesb choiceb entryb good_fields endb rowb shapeb found_of statements_from parts_check check_of within subscript_span span_of calc digits_from literal_number reference step_by place_by place last_of worked_from worked_of returnsb loopb emptyb slotsb soundb stored applied enters repeats exits turn_by turn_of moved_by run_from run_checked run_of
told_last_hold = refl

-- ---- allowances

-- ONERROR 1; SET P from I, where I is "q2": the handler is the statement that fails.
abbrev itself : List ℕ
itself = erring "q20" I (on_error_lem 1 ∷ reads ∷ [])

-- SET P from I; STOP. The state that is given has the handler 1.
abbrev handed_in : List ℕ
handed_in = erring "q20" I (reads ∷ plain 11 ∷ [])

abbrev pub allowances : List Row
allowances =
    -- a handler that is the statement itself, or that fails itself, spends the allowance
    left_from 3 itself started 6 is left 30 1 6 (Some 1) (error_at 22 1) 0 0 (bytes "q20")
    ∷ left_from 3 (erring "q2z" divided (on_error_lem 2 ∷ reads ∷ plain 3 ∷ [])) started 6 is left 30 2 6 (Some 2) (error_at 22 2) 0 0 (bytes "q2z")
    -- "An allowance of 0 gives 30": nothing is trapped
    ∷ left_from 3 handed_in (told (Some 1) None) 0 is left 30 0 0 (Some 1) None 0 0 (bytes "q20")
    -- a trapped error is a completed statement: with an allowance of 1 the run pauses at the handler, and with 2 it is at the end
    ∷ left_from 3 handed_in (told (Some 1) None) 1 is left 30 1 1 (Some 1) (error_at 22 0) 0 0 (bytes "q20")
    ∷ left_from 3 handed_in (told (Some 1) None) 2 is left 0 2 2 (Some 1) (error_at 22 0) 0 0 (bytes "q20")
    -- an error that is handed in is kept where none is trapped, and where one stops the run
    ∷ left_from 3 handed_in (told None (error_at 26 1)) 9 is left 22 0 0 None (error_at 26 1) 0 0 (bytes "q20")
    -- "7 for a handler or error statement not below N"
    ∷ left_from 3 handed_in (told (Some 2) None) 9 is left 7 0 0 (Some 2) None 0 0 (bytes "q20")
    ∷ left_from 3 handed_in (told None (error_at 26 2)) 9 is left 7 0 0 None (error_at 26 2) 0 0 (bytes "q20")
    ∷ []

pub allowances_hold : AllHold allowances
unfolding read_of padded_read read_from placed mark_of parts_of kind_of field_at reference_at number_at item_by item_at items_in items_at statement_at verb_of digitsb numberb sort_from sort_at extent_of usesb filledb rangesb choiceb entryb good_fields endb rowb shapeb found_of statements_from parts_check check_of within subscript_span span_of calc digits_from literal_number reference step_by place_by place last_of worked_from worked_of returnsb loopb emptyb slotsb soundb stored applied enters repeats exits turn_by turn_of moved_by run_from run_checked run_of
allowances_hold = refl

-- ---- given

-- The second statement gives 22, and the run goes on.
pub bad_digit_given : Gives (decoded goes_on) 2 started (bytes "q20") fault.BadDigit
unfolding read_of padded_read read_from mark_of parts_of kind_of field_at reference_at item_by item_at items_in items_at statement_at verb_of within span_of calc reference step_by place_by place last_of worked_from worked_of applied turn_by turn_of moved_by
bad_digit_given =
    record { done = 1; fewer = omega arith; at = armed started (Some 5); seen = bytes "q20"; reached = (omega arith, (armed started (Some 5), (refl, (refl, refl)))); low = omega arith; here = refl }

-- The same after OFFERROR: the run stops there.
abbrev stopped : List ℕ
stopped = erring "q20" I (plain 19 ∷ reads ∷ [])

pub stopped_by_it : Gives (decoded stopped) 2 started (bytes "q20") fault.BadDigit
unfolding read_of padded_read read_from mark_of parts_of kind_of field_at reference_at item_by item_at items_in items_at statement_at verb_of within span_of calc reference step_by place_by place last_of worked_from worked_of applied turn_by turn_of moved_by
stopped_by_it =
    record { done = 1; fewer = omega arith; at = armed started None; seen = bytes "q20"; reached = (omega arith, (armed started None, (refl, (refl, refl)))); low = omega arith; here = refl }

-- "An allowance of 0 gives 30": no statement is begun, so none gives an error.
pub none_without_allowance : (c : Code) (s : State) (d : List ℕ) (f : Fault) → Gives c 0 s d f → ⊥
none_without_allowance c s d f g = omega (arith, g.fewer)

-- "a bad digit can come only from moving alpha text to a decimal place", also where it is trapped
pub fenced_text : fence_of moves_text ≡ Yes
unfolding mark_of parts_of kind_of field_at reference_at item_by item_at items_in items_at verb_of statement_at sort_from sort_at usesb filledb rangesb choiceb entryb good_fields rowb shapeb found_of statements_from parts_check check_of within span_of fixed_span element_breach apart_from alpha_breach reference_breach breach_from uses_breach breach_of verdict_from fence_of
fenced_text = refl

pub text_given : Gives (decoded moves_text) 2 started (bytes "00z") fault.BadDigit
unfolding alpha_from mark_of parts_of kind_of field_at reference_at item_by item_at items_in items_at statement_at verb_of within span_of calc reference step_by place_by place last_of worked_from worked_of applied turn_by turn_of moved_by
text_given =
    record { done = 1; fewer = omega arith; at = armed started (Some 2); seen = bytes "00z"; reached = (omega arith, (armed started (Some 2), (refl, (refl, refl)))); low = omega arith; here = refl }
