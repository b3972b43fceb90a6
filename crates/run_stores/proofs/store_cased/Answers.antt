-- `run_stores::store_cased` meets its contract: the part that is lent comes back in the case that the flag says.
-- Assumes nothing.
use Rattle.run_stores.proofs.Storing.{part_upcased, part_locased}
use Rattle.run_stores.proofs.store_cased.Goals as goal

pub returns-then-upper : goal.returns-then-upper
returns-then-upper c = search part_upcased depth 3

pub returns : goal.returns
returns c = search part_locased depth 3
