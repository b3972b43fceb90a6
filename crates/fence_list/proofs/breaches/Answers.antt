-- `fence_list::breaches` meets its contract: the answer of the check decides.
-- Assumes nothing.
use Rattle.std.proofs.Common.{rules}
use Rattle.rules_unit.proofs.Sound.{passed_by, fills_by}
use Rattle.fence_list.proofs.Statements.{all_passed, all_refused}
use Rattle.fence_list.proofs.breaches.Goals as goal

pub tail_of-requires : goal.tail_of-requires
tail_of-requires c = search fills_by depth 3

pub invariant_of-list_unit : goal.invariant_of-list_unit
invariant_of-list_unit c = record { fills = search fills_by depth 3; words = search rules; starts = search rules }

pub list_unit-requires : goal.list_unit-requires
list_unit-requires c = search passed_by depth 3

pub returns-in-Ok : goal.returns-in-Ok
returns-in-Ok c = search all_passed depth 3

pub returns-in-Err : goal.returns-in-Err
returns-in-Err c = search all_refused depth 3
