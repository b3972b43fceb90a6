-- `run_passes::control` meets its contract: a value that fits is stored.
-- Assumes nothing.
use Rattle.run_passes.proofs.Values.{control_not, control_fits}
use Rattle.run_passes.proofs.control.Goals as goal

pub returns-then-not-fits : goal.returns-then-not-fits
returns-then-not-fits c = search control_not depth 3

pub returns : goal.returns
returns c = search control_fits depth 3
