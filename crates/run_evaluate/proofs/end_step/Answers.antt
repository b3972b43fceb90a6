-- `run_evaluate::end_step` meets its contract: one value that is held is the answer, and any other number of them is none.
-- Assumes nothing.
use Rattle.run_evaluate.proofs.Steps.{end_one, end_other}
use Rattle.run_evaluate.proofs.end_step.Goals as goal

pub returns-then-n-eq1 : goal.returns-then-n-eq1
returns-then-n-eq1 c = search end_one depth 3

pub returns : goal.returns
returns c = search end_other depth 3
