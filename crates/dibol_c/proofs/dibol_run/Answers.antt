-- `dibol_c::dibol_run` meets its contract: it is `dibol::run` from the state read, with the outcome put into numbers; after 1 to 7 the state's
-- numbers are left alone.
-- Assumes nothing.
use Rattle.dibol_c.proofs.Handed.{hands}
use Rattle.dibol_c.proofs.dibol_run.Goals as goal

pub returns-then-refuses : goal.returns-then-refuses
returns-then-refuses c = search hands depth 3

pub returns : goal.returns
returns c = search hands depth 3
