-- `dibol::start` meets its contract: every slot is empty.
-- Assumes nothing.
use mathlib.Core.Path.{refl}
use Rattle.dibol.proofs.Ways.{start_by}
use Rattle.dibol.proofs.start.Goals as goal

pub returns : goal.returns
returns c = start_by _ _ c.no_loop-none.ensures refl
