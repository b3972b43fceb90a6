-- `fence_list::list_unit` meets its contract: the table of a unit that passed its check tells what the rule asks, and at first nothing is noted.
-- Assumes nothing.
use Rattle.unit_decode.proofs.Rows.{rows_none}
use Rattle.fence_decimals.proofs.Tables.{ahead_says}
use Rattle.fence_list.proofs.Statements.{unit_listed}
use Rattle.fence_list.proofs.list_unit.Goals as goal

pub list_all-requires-clause-ahead : goal.list_all-requires-clause-ahead
list_all-requires-clause-ahead c = search ahead_says depth 3

pub list_all-requires-clause-rows_of : goal.list_all-requires-clause-rows_of
list_all-requires-clause-rows_of c = rows_none _ 16384

pub returns : goal.returns
returns c = search unit_listed depth 3
