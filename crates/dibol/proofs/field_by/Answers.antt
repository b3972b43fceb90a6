-- `dibol::field_by` meets its contract: a number below F has its entry, and any other has none.
-- Assumes nothing.
use Rattle.dibol.proofs.Entries.{entry_past, entry_in}
use Rattle.dibol.proofs.field_by.Goals as goal

pub returns-then-long-i : goal.returns-then-long-i
returns-then-long-i c = search entry_past depth 3

pub returns : goal.returns
returns c = search entry_in depth 3
