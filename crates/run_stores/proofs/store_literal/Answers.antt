-- `run_stores::store_literal` meets its contract: the part that is lent comes back as the literal, cut or filled.
-- Assumes nothing.
use Rattle.run_stores.proofs.Storing.{part_literal}
use Rattle.run_stores.proofs.store_literal.Goals as goal

pub returns : goal.returns
returns c = search part_literal depth 3
