-- `run_evaluate::operator_step` meets its contract: the operator takes what is held, or finds too few or no room.
-- Assumes nothing.
use Rattle.run_evaluate.proofs.Steps.{held_val, operator_few, operator_over, operator_held}
use Rattle.run_evaluate.proofs.operator_step.Goals as goal

pub returns-then-n-taken : goal.returns-then-n-taken
returns-then-n-taken c = search operator_few depth 3

pub returns-then-m-ge-MOST : goal.returns-then-m-ge-MOST
returns-then-m-ge-MOST c = search operator_over depth 3

pub calculate-requires-clause-val : goal.calculate-requires-clause-val
calculate-requires-clause-val c = search held_val depth 2

pub calculate-requires-clause-val_2 : goal.calculate-requires-clause-val_2
calculate-requires-clause-val_2 c = search held_val depth 2

pub returns : goal.returns
returns c = search operator_held depth 3
