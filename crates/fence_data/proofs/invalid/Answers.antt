-- `fence_data::invalid` meets its contract: the answer of the check decides.
-- Assumes nothing.
use Rattle.std.proofs.Common.{rules}
use Rattle.rules_unit.proofs.Sound.{passed_by, fills_by}
use Rattle.fence_data.proofs.Decimals.{invalid_passed, invalid_refused}
use Rattle.fence_data.proofs.invalid.Goals as goal

pub tail_of-requires : goal.tail_of-requires
tail_of-requires c = search fills_by depth 3

pub invariant_of-validity_by : goal.invariant_of-validity_by
invariant_of-validity_by c = record { fills = search fills_by depth 3; words = search rules; starts = search rules }

pub returns-in-Ok : goal.returns-in-Ok
returns-in-Ok c = search invalid_passed depth 3

pub returns-in-Err : goal.returns-in-Err
returns-in-Err c = search invalid_refused depth 3
