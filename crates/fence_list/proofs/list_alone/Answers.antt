-- `fence_list::list_alone` meets its contract: the table of a unit that passed its check tells what the rule asks, and nothing is noted.
-- Assumes nothing.
use Rattle.unit_decode.proofs.Rows.{rows_none}
use Rattle.fence_decimals.proofs.Tables.{ahead_says}
use Rattle.fence_list.proofs.Statements.{statement_listed}
use Rattle.fence_list.proofs.list_alone.Goals as goal

pub list_statement-requires-clause-ahead : goal.list_statement-requires-clause-ahead
list_statement-requires-clause-ahead c = search ahead_says depth 3

pub list_statement-requires-clause-rows_of : goal.list_statement-requires-clause-rows_of
list_statement-requires-clause-rows_of c = rows_none _ 1

pub returns : goal.returns
returns c = search statement_listed depth 3
