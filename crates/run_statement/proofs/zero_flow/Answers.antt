-- `run_statement::zero_flow` meets its contract: the bits of a number are 0 exactly where its magnitude is.
-- Assumes nothing.
use Rattle.run_statement.proofs.Jumps.{zero_goes, zero_next}
use Rattle.run_statement.proofs.zero_flow.Goals as goal

pub returns-then-v-eq0 : goal.returns-then-v-eq0
returns-then-v-eq0 c = search zero_goes depth 3

pub returns : goal.returns
returns c = search zero_next depth 3
