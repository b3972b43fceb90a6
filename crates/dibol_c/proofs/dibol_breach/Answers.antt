-- `dibol_c::dibol_breach` meets its contract: it is the number of the breach that `dibol` answers.
-- Assumes nothing.
use Rattle.dibol_c.proofs.dibol_breach.Goals as goal

pub returns : goal.returns
returns c = cc
