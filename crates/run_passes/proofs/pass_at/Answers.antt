-- `run_passes::pass_at` meets its contract: what is read is in the range of values, so the step is added to it.
-- Assumes nothing.
use Rattle.run_items.proofs.Places.{read_again}
use Rattle.run_passes.proofs.Passes.{read_known}
use Rattle.run_passes.proofs.pass_at.Goals as goal

pub pass_by-requires-clause-val : goal.pass_by-requires-clause-val
pass_by-requires-clause-val c = let was = c.in_ok-x.was in search read_again depth 3

pub returns : goal.returns
returns c = let was = c.in_ok-x.was in search read_known depth 3
