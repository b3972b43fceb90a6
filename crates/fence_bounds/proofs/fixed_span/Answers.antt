-- `fence_bounds::fixed_span` meets its contract: the bounds are handed on as the rule names them, and they are values.
-- Assumes nothing.
use Rattle.fence_bounds.proofs.Fixed.{fixed_found}
use Rattle.fence_bounds.proofs.fixed_span.Goals as goal

pub returns : goal.returns
returns c = search fixed_found depth 3
