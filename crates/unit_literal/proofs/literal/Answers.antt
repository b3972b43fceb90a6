-- `unit_literal::literal` meets its contract: the stretch of a unit that passes lies inside it, and the part of the unit from its start to its end is the literal.
-- Assumes nothing.
use native.Mathlib.Omega.{arith}
use Rattle.unit_literal.proofs.Stretches.{stretch_inside, literal_part}
use Rattle.unit_literal.proofs.literal.Goals as goal

pub overflow_add-end : goal.overflow_add-end
overflow_add-end c = omega (arith, stretch_inside _ _ _ c.stretch-s.ensures)

pub slice_bounds-result-end : goal.slice_bounds-result-end
slice_bounds-result-end c = omega (arith, stretch_inside _ _ _ c.stretch-s.ensures)

pub returns : goal.returns
returns c = search literal_part depth 3
