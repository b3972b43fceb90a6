-- `dibol_c::put_field` meets its contract: the numbers are those of the entry, in their order.
-- Assumes nothing.
use Rattle.dibol_c.proofs.Told.{entry_told}
use Rattle.dibol_c.proofs.put_field.Goals as goal

pub returns : goal.returns
returns c = search entry_told depth 3
