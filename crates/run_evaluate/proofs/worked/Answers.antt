-- `run_evaluate::worked` meets its contract: it works out the expressions of the unit.
-- Assumes nothing.
use Rattle.run_evaluate.proofs.worked.Goals as goal

pub returns : goal.returns
returns c = rw (c.expressions.ensures.value, c.long.ensures) at c.worked_in.ensures
