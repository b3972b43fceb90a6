-- `dibol::field` meets its contract: the answer of the check decides.
-- Assumes nothing.
use Rattle.std.proofs.Common.{rules}
use Rattle.dibol.proofs.Entries.{entry_passed, entry_refused}
use Rattle.rules_unit.proofs.Sound.{fills_by}
use Rattle.dibol.proofs.field.Goals as goal

pub tail_of-requires : goal.tail_of-requires
tail_of-requires c = search fills_by depth 3

pub invariant_of-field_by : goal.invariant_of-field_by
invariant_of-field_by c = record { fills = search fills_by depth 3; words = search rules; starts = search rules }

pub returns-in-Ok : goal.returns-in-Ok
returns-in-Ok c = search entry_passed depth 3

pub returns-in-Err : goal.returns-in-Err
returns-in-Err c = search entry_refused depth 3
