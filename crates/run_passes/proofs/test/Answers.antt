-- `run_passes::test` meets its contract: the sign of the step says which way is tested.
-- Assumes nothing.
use Rattle.run_passes.proofs.Values.{test_down, test_up}
use Rattle.run_passes.proofs.test.Goals as goal

pub returns-then-step-lt0 : goal.returns-then-step-lt0
returns-then-step-lt0 c = search test_down depth 3

pub returns : goal.returns
returns c = search test_up depth 3
