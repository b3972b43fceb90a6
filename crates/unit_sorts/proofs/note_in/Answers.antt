-- `unit_sorts::note_in` meets its contract: on the way through an expression of a known sort, each turn notes that sort for what is left.
-- Assumes nothing.
use borrow.Author.Rules.{rules}
use Rattle.unit_sorts.proofs.Leads.{lead_few, lead_most, lead_on, lead_noted}
use Rattle.unit_sorts.proofs.note_in.Goals as goal

pub overflow_sub-n : goal.overflow_sub-n
overflow_sub-n c = search lead_few depth 3

pub loop-i-preserved : goal.loop-i-preserved
loop-i-preserved c = (search lead_noted depth 3, search lead_on depth 3, search lead_most depth 3, search rules)
