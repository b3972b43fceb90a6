-- `fence_list::statement_breaches` meets its contract: the answer of the check decides.
-- Assumes nothing.
use Rattle.std.proofs.Common.{rules}
use Rattle.rules_unit.proofs.Sound.{passed_by, fills_by}
use Rattle.fence_list.proofs.Statements.{one_passed, one_refused}
use Rattle.fence_list.proofs.statement_breaches.Goals as goal

pub tail_of-requires : goal.tail_of-requires
tail_of-requires c = search fills_by depth 3

pub invariant_of-list_by : goal.invariant_of-list_by
invariant_of-list_by c = record { fills = search fills_by depth 3; words = search rules; starts = search rules }

pub list_by-requires : goal.list_by-requires
list_by-requires c = search passed_by depth 3

pub returns-in-Ok : goal.returns-in-Ok
returns-in-Ok c = search one_passed depth 3

pub returns-in-Err : goal.returns-in-Err
returns-in-Err c = search one_refused depth 3
