-- `fence::verdict_of` meets its contract: the table of a unit that passed its check tells what the rule asks, and at first nothing is noted.
-- Assumes nothing.
use Rattle.unit_decode.proofs.Rows.{rows_none}
use Rattle.fence_decimals.proofs.Tables.{ahead_says}
use Rattle.fence_statements.proofs.Notes.{both_none}
use Rattle.fence.proofs.verdict_of.Goals as goal

pub verdict_by-requires-clause-ahead : goal.verdict_by-requires-clause-ahead
verdict_by-requires-clause-ahead c = search ahead_says depth 3

pub verdict_by-requires-clause-both : goal.verdict_by-requires-clause-both
verdict_by-requires-clause-both c = both_none _ 16384 16384

pub verdict_by-requires-clause-rows_of : goal.verdict_by-requires-clause-rows_of
verdict_by-requires-clause-rows_of c = rows_none _ 16384
