-- `run_passes::pass` meets its contract: a place that is found lies inside the data, and a decimal one is short enough.
-- Assumes nothing.
use Rattle.run_evaluate.proofs.Answers.{found_inside, found_short}
use Rattle.run_passes.proofs.pass.Goals as goal

pub pass_at-requires-clause-len_in_bounds : goal.pass_at-requires-clause-len_in_bounds
pass_at-requires-clause-len_in_bounds c = let was = c.in_ok-decimal.was in search found_inside depth 3

pub pass_at-requires-clause-len_bound : goal.pass_at-requires-clause-len_bound
pass_at-requires-clause-len_bound c = let was = c.in_ok-decimal.was in search found_short depth 3
