-- `dibol_c::dibol_literal` meets its contract: it tells what `dibol::stretch` answers, in numbers.
-- Assumes nothing.
use Rattle.dibol_c.proofs.Told.{literal_told_lem}
use Rattle.dibol_c.proofs.dibol_literal.Goals as goal

pub returns : goal.returns
returns c = search literal_told_lem depth 3
