-- `fence_list::list_all` meets its contract: each turn lists the next statement.
-- Assumes nothing.
use borrow.Author.Rules.{rules}
use Rattle.fence_list.proofs.Statements.{statements_over, statements_on}
use Rattle.fence_list.proofs.list_all.Goals as goal

pub loop-i-preserved : goal.loop-i-preserved
loop-i-preserved c = (search statements_on depth 3, search rules, search rules, search rules)

pub returns : goal.returns
returns c = search statements_over depth 3
