-- `run_evaluate::held_on` meets its contract: a value is held, and a fault is the answer.
-- Assumes nothing.
use Rattle.run_evaluate.proofs.Steps.{on_value, on_failed}
use Rattle.run_evaluate.proofs.held_on.Goals as goal

pub returns-in-Ok : goal.returns-in-Ok
returns-in-Ok c = search on_value depth 3

pub returns-in-Err : goal.returns-in-Err
returns-in-Err c = search on_failed depth 3
