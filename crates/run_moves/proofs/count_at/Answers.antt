-- `run_moves::count_at` meets its contract: what is read is in the range of values, so it is counted.
-- Assumes nothing.
use Rattle.run_items.proofs.Places.{read_again}
use Rattle.run_moves.proofs.count_at.Goals as goal

pub count_value-requires : goal.count_value-requires
count_value-requires c = let was = c.in_ok-v.was in search read_again depth 3
