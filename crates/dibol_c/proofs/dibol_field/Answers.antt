-- `dibol_c::dibol_field` meets its contract: it tells what `dibol::field` answers, in numbers.
-- Assumes nothing.
use Rattle.dibol_c.proofs.Told.{tells_field}
use Rattle.dibol_c.proofs.dibol_field.Goals as goal

pub returns-in-None : goal.returns-in-None
returns-in-None c = search tells_field depth 3

pub returns-in-Some : goal.returns-in-Some
returns-in-Some c = search tells_field depth 3
