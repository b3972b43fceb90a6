-- `fence_list::list_use` meets its contract: a use is its expression, and where there is none nothing is listed.
-- Assumes nothing.
use Rattle.fence_statements.proofs.Statements.{use_known}
use Rattle.fence_list.proofs.Statements.{use_none, use_some}
use Rattle.fence_list.proofs.list_use.Goals as goal

pub list_at-requires-clause-all_known : goal.list_at-requires-clause-all_known
list_at-requires-clause-all_known c = search use_known depth 3

pub returns-in-None : goal.returns-in-None
returns-in-None c = search use_none depth 3

pub returns-in-Some : goal.returns-in-Some
returns-in-Some c = search use_some depth 3
