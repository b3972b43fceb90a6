-- `run_items::read_at` meets its contract: the part of the data that is handed to the reader is the span.
-- Assumes nothing.
use Rattle.run_items.proofs.Places.{read_part}
use Rattle.run_items.proofs.read_at.Goals as goal

pub returns : goal.returns
returns c = search read_part depth 3
