-- Each statement of document 01 once, in one run: of each code the jump or the store shows in where it ends and in what it leaves. Moves has what
-- a statement makes of each sort of place and source.
--
--   tours    a run of the unit `tour` (Samples) over its data completes twelve statements, of twelve codes, reaches the end and leaves "04xabYCd80"
-- Assumes nothing.
use Rattle.std.specs.Prelude.{◌≡◌, refl}
use Rattle.rules.specs.Values.{read_from, padded_read, read_of}
use Rattle.rules.specs.Moves.{placed}
use Rattle.rules_unit.specs.Decode.{mark_of, parts_of, kind_of, field_at, reference_at, number_at, item_by, item_at, items_in, items_at, statement_at}
use Rattle.rules_unit.specs.Table.{verb_of}
use Rattle.rules_unit.specs.Expressions.{digitsb, numberb, sort_from, sort_at, usesb}
use Rattle.rules_unit.specs.Checks.{filledb, rangesb, choiceb, entryb, good_fields, gotosb, tableb, rowb, shapeb, found_of, statements_from, parts_check, check_of}
use Rattle.rules_run.specs.Spans.{within, start_end_span, span_of}
use Rattle.rules_run.specs.Evaluation.{calc, digits_from, literal_number, reference, step_by, place_by, place, last_of, worked_from, worked_of}
use Rattle.rules_run.specs.States.{returnsb, emptyb, slotsb, soundb, started}
use Rattle.rules_run.specs.Stops.{stop_number}
use Rattle.rules_run.specs.Turns.{stored, applied, turn_by, turn_of}
use Rattle.rules_run.specs.Runs.{Ran, moved_by, run_from, run_checked, run_of}
use Rattle.promises.specs.Rows.{bytes}
use Rattle.promises.specs.Samples.{tour, tour_data}

abbrev pub ran : Ran
ran = run_of tour tour_data started 100

pub record Tours : Type 0 where
  pub stops : stop_number ran.outcome.stop ≡ 0
  pub reached : ran.outcome.place ≡ 16
  pub completed : ran.outcome.count ≡ 12
  pub no_call_open : ran.outcome.state.depth ≡ 0
  pub leaves : ran.bytes ≡ bytes "04xabYCd80"

pub tours : Tours
unfolding read_of padded_read read_from placed mark_of parts_of kind_of field_at reference_at number_at item_by item_at items_in items_at statement_at verb_of digitsb numberb sort_from sort_at usesb filledb rangesb choiceb entryb good_fields gotosb tableb rowb shapeb found_of statements_from parts_check check_of within start_end_span span_of calc digits_from literal_number reference step_by place_by place last_of worked_from worked_of returnsb emptyb slotsb soundb stored applied turn_by turn_of moved_by run_from run_checked run_of
tours = record { stops = refl; reached = refl; completed = refl; no_call_open = refl; leaves = refl }
