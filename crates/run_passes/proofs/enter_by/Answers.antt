-- `run_passes::enter_by` meets its contract: a step that is not zero hands on to `control`.
-- Assumes nothing.
use Rattle.run_passes.proofs.Entries.{by_zero, by_control}
use Rattle.run_passes.proofs.enter_by.Goals as goal

pub returns-then-step-eq0 : goal.returns-then-step-eq0
returns-then-step-eq0 c = search by_zero depth 3

pub returns : goal.returns
returns c = search by_control depth 3
