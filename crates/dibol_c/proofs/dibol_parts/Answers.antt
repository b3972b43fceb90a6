-- `dibol_c::dibol_parts` meets its contract: it tells the lengths that `dibol::check` answers, in numbers.
-- Assumes nothing.
use Rattle.dibol_c.proofs.Told.{tells_parts}
use Rattle.dibol_c.proofs.dibol_parts.Goals as goal

pub returns-in-Ok : goal.returns-in-Ok
returns-in-Ok c = search tells_parts depth 3

pub returns-in-Err : goal.returns-in-Err
returns-in-Err c = search tells_parts depth 3
