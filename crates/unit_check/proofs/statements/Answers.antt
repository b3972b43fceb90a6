-- `unit_check::statements` meets its contract: where every note is 0, nothing is noted, so what is noted is so, however much room there is.
-- Assumes nothing.
use Rattle.unit_decode.proofs.Rows.{rows_none}
use Rattle.unit_sorts.proofs.Notes.{noted_none}
use Rattle.unit_check.proofs.statements.Goals as goal

pub statements_noted-requires-clause-noted_of : goal.statements_noted-requires-clause-noted_of
statements_noted-requires-clause-noted_of c = search noted_none depth 3

pub statements_noted-requires-clause-rows_of : goal.statements_noted-requires-clause-rows_of
statements_noted-requires-clause-rows_of c = rows_none _ 1
