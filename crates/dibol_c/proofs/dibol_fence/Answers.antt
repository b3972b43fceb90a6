-- `dibol_c::dibol_fence` meets its contract: it tells what `dibol::fence` answers, in numbers.
-- Assumes nothing.
use Rattle.dibol_c.proofs.Told.{tells_fence}
use Rattle.dibol_c.proofs.dibol_fence.Goals as goal

pub returns-in-Yes : goal.returns-in-Yes
returns-in-Yes c = search tells_fence depth 3

pub returns-in-No : goal.returns-in-No
returns-in-No c = search tells_fence depth 3

pub returns-in-Refused : goal.returns-in-Refused
returns-in-Refused c = search tells_fence depth 3
