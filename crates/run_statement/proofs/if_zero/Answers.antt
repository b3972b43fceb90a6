-- `run_statement::if_zero` meets its contract: what the expression comes to lies where the rules say.
-- Assumes nothing.
use Rattle.run_evaluate.proofs.Answers.{within_by}
use Rattle.run_statement.proofs.if_zero.Goals as goal

pub number_of-requires-clause-within : goal.number_of-requires-clause-within
number_of-requires-clause-within c = search within_by depth 3
