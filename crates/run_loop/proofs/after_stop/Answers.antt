-- `run_loop::after_stop` meets its contract: after any stop but an error the run stops.
-- Assumes nothing.
use Rattle.run_loop.proofs.Stretches.{after_failed}
use Rattle.run_loop.proofs.after_stop.Goals as goal

pub returns-in-Failed : goal.returns-in-Failed
returns-in-Failed c = search after_failed depth 3
