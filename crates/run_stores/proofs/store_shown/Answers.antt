-- `run_stores::store_shown` meets its contract: the part that is lent has the span's characters, and comes back as the number is shown.
-- Assumes nothing.
use Rattle.run_stores.proofs.Storing.{part_shown}
use Rattle.run_stores.proofs.store_shown.Goals as goal

pub returns : goal.returns
returns c = search part_shown depth 3
