-- The whole example of document 01 ("The bench program"), by the written rules: from its bytes to the stop, the place, the count and the data.
--
--   input      the unit of the example
--   example    a run over its image, from statement 0 with allowance 100,000, gives stop 0 at place 2 after 2 statements and leaves "42"
-- Assumes nothing.
use Rattle.std.specs.Prelude.{◌≡◌, refl, List, [], ◌∷◌, ℕ, take}
use Rattle.rules.specs.Values.{read_from, padded_read, read_of}
use Rattle.rules.specs.Moves.{placed}
use Rattle.rules_unit.specs.Decode.{mark_of, parts_of, kind_of, field_at, reference_at, item_by, item_at, items_in, items_at, statement_at}
use Rattle.rules_unit.specs.Table.{verb_of}
use Rattle.rules_unit.specs.Expressions.{sort_from, sort_at, usesb}
use Rattle.rules_unit.specs.Checks.{filledb, rangesb, choiceb, entryb, good_fields, rowb, shapeb, found_of, statements_from, parts_check, check_of}
use Rattle.rules_run.specs.Spans.{within, span_of}
use Rattle.rules_run.specs.Evaluation.{place_by, place, last_of, worked_from, worked_of}
use Rattle.rules_run.specs.States.{returnsb, emptyb, slotsb, soundb, started}
use Rattle.rules_run.specs.Stops.{stop_number}
use Rattle.rules_run.specs.Turns.{stored, applied, turn_by, turn_of}
use Rattle.rules_run.specs.Runs.{Ran, moved_by, run_from, run_checked, run_of}
use Rattle.promises.specs.Rows.{bytes}

-- "Whole input, hex: `34 31 | 01 00 00 00 00 02 00 01 | 02 00 00 00 | 03 00 00 00 00 00 00 00 | 0B 00 00 00 00 00 00 00 | 00 02 00 01 00 04 00 00 00
-- 02 44 42`."
abbrev pub input : List ℕ
input =
    0x34 ∷ 0x31
    ∷ 0x01 ∷ 0x00 ∷ 0x00 ∷ 0x00 ∷ 0x00 ∷ 0x02 ∷ 0x00 ∷ 0x01
    ∷ 0x02 ∷ 0x00 ∷ 0x00 ∷ 0x00
    ∷ 0x03 ∷ 0x00 ∷ 0x00 ∷ 0x00 ∷ 0x00 ∷ 0x00 ∷ 0x00 ∷ 0x00
    ∷ 0x0b ∷ 0x00 ∷ 0x00 ∷ 0x00 ∷ 0x00 ∷ 0x00 ∷ 0x00 ∷ 0x00
    ∷ 0x00 ∷ 0x02 ∷ 0x00 ∷ 0x01 ∷ 0x00 ∷ 0x04 ∷ 0x00 ∷ 0x00 ∷ 0x00 ∷ 0x02 ∷ 0x44 ∷ 0x42
    ∷ []

-- "starts from its image at statement 0 with allowance 100,000"
abbrev pub ran : Ran
ran = run_of input (take 2 input) started 100000

-- "Output: `0 2 2`, then `42`."
pub record Example : Type 0 where
  pub stops : stop_number ran.outcome.stop ≡ 0
  pub reached : ran.outcome.place ≡ 2
  pub completed : ran.outcome.count ≡ 2
  pub leaves : ran.bytes ≡ bytes "42"

pub example : Example
unfolding read_of padded_read read_from placed mark_of parts_of kind_of field_at reference_at item_by item_at items_in items_at statement_at verb_of sort_from sort_at usesb filledb rangesb choiceb entryb good_fields rowb shapeb found_of statements_from parts_check check_of within span_of place_by place last_of worked_from worked_of returnsb emptyb slotsb soundb stored applied turn_by turn_of moved_by run_from run_checked run_of
example = record { stops = refl; reached = refl; completed = refl; leaves = refl }
