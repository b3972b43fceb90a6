-- The slips of the owner's letter, and what the fence check says of them.
--
-- "Subscripts that run one past a seat table." "Upper-casing a whole record, too: the sign of a negative fare is kept in a lower-case letter, and a
-- refund turns into a field that no sum can read. And a move between two parts of one field that smears the first letter along the rest." And of
-- document 01: "Storing a negative number in a substring that stops mid-field, leaving a sign letter inside".
--
-- Each is a small unit in its bytes. The run does what the manual says, slip included; the fence check says no, names the statement and its rule; and the
-- same unit without the slip gets a yes. The smear does not come: "The result is as if the source had been copied away first."
--
--   slips    the runs, and what the check says; the units are in Samples
-- Assumes nothing.
use Rattle.std.specs.Prelude.{◌≡◌, refl, true, false, take}
use Rattle.rules.specs.Values.{valid_from, paddedb, validb}
use Rattle.rules.specs.Moves.{placed, fitted}
use Rattle.rules_unit.specs.Decode.{mark_of, parts_of, kind_of, field_at, reference_at, number_at, text_at, item_by, item_at, items_in, items_at, statement_at}
use Rattle.rules_unit.specs.Table.{verb_of}
use Rattle.rules_unit.specs.Expressions.{digitsb, numberb, textb, sort_from, sort_at, usesb}
use Rattle.rules_unit.specs.Checks.{filledb, rangesb, choiceb, entryb, good_fields, rowb, shapeb, found_of, statements_from, parts_check, check_of}
use Rattle.rules_run.specs.Spans.{within, subscript_span, start_end_span, span_of}
use Rattle.rules_run.specs.Evaluation.{calc, digits_from, literal_number, step_by, place_by, place, last_of, worked_from, worked_of}
use Rattle.rules_run.specs.States.{returnsb, emptyb, slotsb, soundb}
use Rattle.rules_run.specs.Turns.{stored, applied, turn_by, turn_of}
use Rattle.rules_run.specs.Runs.{moved_by, run_from, run_checked, run_of}
use Rattle.rules_fence.specs.declared.Verdict.TheVariants.{Yes, No}
use Rattle.rules_fence.specs.Bounds.{fixed_span}
use Rattle.rules_fence.specs.Breaches.{element_breach, apart_from, alpha_breach, reference_breach, breach_from, uses_breach, breach_of, verdict_from, fence_of, breach_number, breach_in}
use Rattle.promises.specs.Rows.{limit, sign, bytes}
use Rattle.promises.specs.Samples.{seats, fares, refund, smear, leaves, stops}

pub record Slips : Type 0 where
  -- The second booking lands on the name next door; the statement 1 leaves its field.
  pub past_table : fence_of (seats "34") ≡ No 1
  pub past_table_rule : breach_number (breach_in (seats "34") 1) ≡ 3
  pub past_table_run : leaves 10 (seats "34") ≡ bytes "A1B1ZZZZUL"
  pub past_table_stop : stops 10 (seats "34") ≡ 0
  pub in_table : fence_of (seats "33") ≡ Yes
  -- The fare -123 is no decimal any more; the statement 0 is an alpha destination on a decimal field.
  pub whole_record : fence_of (fares 0) ≡ No 0
  pub whole_record_rule : breach_number (breach_in (fares 0) 0) ≡ 6
  pub whole_record_run : leaves 6 (fares 0) ≡ bytes "12SMEG"
  pub whole_record_stop : stops 6 (fares 0) ≡ 0
  pub whole_record_fare : validb limit sign (take 3 (leaves 6 (fares 0))) ≡ false
  pub name_alone : fence_of (fares 4) ≡ Yes
  -- A sign letter stands inside the fare; the statement 0 stops mid-element.
  pub mid_field : fence_of (refund "12") ≡ No 0
  pub mid_field_rule : breach_number (breach_in (refund "12") 0) ≡ 5
  pub mid_field_run : leaves 4 (refund "12") ≡ bytes "0u00"
  pub mid_field_stop : stops 4 (refund "12") ≡ 0
  pub mid_field_fare : validb limit sign (leaves 4 (refund "12")) ≡ false
  pub field_end : fence_of (refund "34") ≡ Yes
  pub field_end_run : leaves 4 (refund "34") ≡ bytes "000u"
  pub field_end_fare : validb limit sign (leaves 4 (refund "34")) ≡ true
  -- The letters move one to the right, and the first is not smeared along the rest; both parts lie in their field.
  pub no_smear : fence_of smear ≡ Yes
  pub no_smear_run : leaves 13 smear ≡ bytes "aabcdeghijklm"
  pub no_smear_stop : stops 13 smear ≡ 0

pub slips : Slips
unfolding valid_from paddedb validb placed fitted mark_of parts_of kind_of field_at reference_at number_at text_at item_by item_at items_in items_at verb_of statement_at digitsb numberb textb sort_from sort_at usesb filledb rangesb choiceb entryb good_fields rowb shapeb found_of statements_from parts_check check_of within subscript_span start_end_span span_of calc digits_from literal_number step_by place_by place last_of worked_from worked_of returnsb emptyb slotsb soundb stored applied turn_by turn_of moved_by run_from run_checked run_of fixed_span element_breach apart_from alpha_breach reference_breach breach_from uses_breach breach_of verdict_from fence_of breach_in
slips =
    record {
      past_table = refl;
      past_table_rule = refl;
      past_table_run = refl;
      past_table_stop = refl;
      in_table = refl;
      whole_record = refl;
      whole_record_rule = refl;
      whole_record_run = refl;
      whole_record_stop = refl;
      whole_record_fare = refl;
      name_alone = refl;
      mid_field = refl;
      mid_field_rule = refl;
      mid_field_run = refl;
      mid_field_stop = refl;
      mid_field_fare = refl;
      field_end = refl;
      field_end_run = refl;
      field_end_fare = refl;
      no_smear = refl;
      no_smear_run = refl;
      no_smear_stop = refl;
    }
