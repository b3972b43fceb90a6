-- `run_statement::on_place` meets its contract: a place that is found lies inside the data.
-- Assumes nothing.
use Rattle.run_evaluate.proofs.Answers.{found_inside}
use Rattle.run_statement.proofs.on_place.Goals as goal

pub at_place-requires-clause-len_in_bounds : goal.at_place-requires-clause-len_in_bounds
at_place-requires-clause-len_in_bounds c = let was = c.in_ok-decimal.was in search found_inside depth 3
