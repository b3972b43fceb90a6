-- `run_passes::enter_at` meets its contract: the number that the first expression comes to is the start, and the limit stands behind it.
-- Assumes nothing.
use Rattle.run_evaluate.proofs.Answers.{value_again}
use Rattle.run_passes.proofs.Entries.{start_known}
use Rattle.run_passes.proofs.enter_at.Goals as goal

pub enter_limit-requires-clause-val : goal.enter_limit-requires-clause-val
enter_limit-requires-clause-val c = let was = c.in_ok-v.was in search value_again depth 3

pub returns : goal.returns
returns c = let was = c.in_ok-v.was in search start_known depth 3
