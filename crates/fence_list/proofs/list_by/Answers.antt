-- `fence_list::list_by` meets its contract: a statement number below N has the breaches of that statement, and any other has none.
-- Assumes nothing.
use Rattle.fence_list.proofs.Statements.{by_past, by_in}
use Rattle.fence_list.proofs.list_by.Goals as goal

pub returns-then-long-i : goal.returns-then-long-i
returns-then-long-i c = search by_past depth 3

pub returns : goal.returns
returns c = search by_in depth 3
