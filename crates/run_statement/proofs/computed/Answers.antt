-- `run_statement::computed` meets its contract: the number that the expression comes to is in the range of values.
-- Assumes nothing.
use Rattle.run_evaluate.proofs.Answers.{number_again, within_by}
use Rattle.run_statement.proofs.computed.Goals as goal

pub number_of-requires-clause-within : goal.number_of-requires-clause-within
number_of-requires-clause-within c = search within_by depth 3

pub chosen-requires-clause-val : goal.chosen-requires-clause-val
chosen-requires-clause-val c = let was = c.in_ok-v.was in search number_again depth 3
