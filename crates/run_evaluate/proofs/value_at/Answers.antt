-- `run_evaluate::value_at` meets its contract: what the expression comes to lies where the rules say.
-- Assumes nothing.
use Rattle.run_evaluate.proofs.Answers.{within_by, number_by}
use Rattle.run_evaluate.proofs.value_at.Goals as goal

pub number_of-requires-clause-within : goal.number_of-requires-clause-within
number_of-requires-clause-within c = search within_by depth 3

pub returns : goal.returns
returns c = search number_by depth 3
