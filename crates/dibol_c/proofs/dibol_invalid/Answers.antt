-- `dibol_c::dibol_invalid` meets its contract: it tells what `dibol::invalid` answers, in numbers.
-- Assumes nothing.
use Rattle.dibol_c.proofs.Told.{tells_invalid}
use Rattle.dibol_c.proofs.dibol_invalid.Goals as goal

pub returns-in-Refused : goal.returns-in-Refused
returns-in-Refused c = search tells_invalid depth 3

pub returns-in-WrongSize : goal.returns-in-WrongSize
returns-in-WrongSize c = search tells_invalid depth 3

pub returns-in-AllValid : goal.returns-in-AllValid
returns-in-AllValid c = search tells_invalid depth 3

pub returns-in-Invalid : goal.returns-in-Invalid
returns-in-Invalid c = search tells_invalid depth 3
