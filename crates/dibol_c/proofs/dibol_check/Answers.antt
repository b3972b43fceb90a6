-- `dibol_c::dibol_check` meets its contract: it tells what `dibol::check` answers, in numbers.
-- Assumes nothing.
use Rattle.dibol_c.proofs.Told.{tells_check}
use Rattle.dibol_c.proofs.dibol_check.Goals as goal

pub returns-in-Ok : goal.returns-in-Ok
returns-in-Ok c = search tells_check depth 3

pub returns-in-Err : goal.returns-in-Err
returns-in-Err c = search tells_check depth 3
