-- `run_stores::store_cleared` meets its contract: the part that is lent comes back as zeros or as spaces, as the flag says.
-- Assumes nothing.
use Rattle.run_stores.proofs.Storing.{part_cleared}
use Rattle.run_stores.proofs.store_cleared.Goals as goal

pub returns : goal.returns
returns c = search part_cleared depth 3
