-- `run_loop::after_error` meets its contract: the handler is asked first, and then the error.
-- Assumes nothing.
use Rattle.run_loop.proofs.Stretches.{error_goes, error_stops_here}
use Rattle.run_loop.proofs.after_error.Goals as goal

pub returns-then-trapped : goal.returns-then-trapped
returns-then-trapped c = search error_goes depth 4

pub returns-else-trapped : goal.returns-else-trapped
returns-else-trapped c = search error_stops_here depth 4
