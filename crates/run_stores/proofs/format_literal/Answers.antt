-- `run_stores::format_literal` meets its contract: the part that is lent comes back as the number, formatted by the literal as mask.
-- Assumes nothing.
use Rattle.run_stores.proofs.Storing.{part_formatted}
use Rattle.run_stores.proofs.format_literal.Goals as goal

pub returns : goal.returns
returns c = search part_formatted depth 3
