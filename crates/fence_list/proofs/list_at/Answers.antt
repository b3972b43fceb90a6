-- `fence_list::list_at` meets its contract: it lists the unit's expressions.
-- Assumes nothing.
use Rattle.fence_list.proofs.list_at.Goals as goal

pub list_items-requires-clause-all_known : goal.list_items-requires-clause-all_known
list_items-requires-clause-all_known c = rw (c.expressions.ensures.value, c.long.ensures) c.requires.all_known

pub returns : goal.returns
returns c = rw (c.expressions.ensures.value, c.long.ensures) at c.list_items.ensures
