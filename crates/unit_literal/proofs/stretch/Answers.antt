-- `unit_literal::stretch` meets its contract: the answer of the check decides, and a unit that passes is filled by its parts.
-- Assumes nothing.
use Rattle.std.proofs.Common.{rules}
use Rattle.rules_unit.proofs.Sound.{fills_by}
use Rattle.unit_literal.proofs.Stretches.{stretch_passed, stretch_refused}
use Rattle.unit_literal.proofs.stretch.Goals as goal

pub tail_of-requires : goal.tail_of-requires
tail_of-requires c = search fills_by depth 3

pub invariant_of-stretch_in : goal.invariant_of-stretch_in
invariant_of-stretch_in c = record { fills = search fills_by depth 3; words = search rules; starts = search rules }

pub returns-in-Ok : goal.returns-in-Ok
returns-in-Ok c = search stretch_passed depth 3

pub returns-in-Err : goal.returns-in-Err
returns-in-Err c = search stretch_refused depth 3
