-- `run_masks::add_to` meets its contract: each count is the rule's.
-- Assumes nothing.
use Rattle.rules.specs.Masks.{tallied}
use Rattle.run_masks.proofs.add_to.Goals as goal

pub returns : goal.returns
unfolding tallied
returns c = cc
