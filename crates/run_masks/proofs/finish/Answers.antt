-- `run_masks::finish` meets its contract: what is lent from the gap on is the right end, and comes back edited.
-- Assumes nothing.
use Rattle.run_masks.proofs.Plans.{finish_end}
use Rattle.run_masks.proofs.finish.Goals as goal

pub returns : goal.returns
returns c = let a = c.args in finish_end a.g a.s.now _ c.saturating_sub-gap.result c.saturating_sub-gap.ensures c.edit.ensures
