-- `run_masks::skip` meets its contract: each turn goes one character on.
-- Assumes nothing.
use borrow.Author.Rules.{rules}
use Rattle.run_masks.proofs.Editing.{skip_turn, skip_end}
use Rattle.run_masks.proofs.skip.Goals as goal

pub loop-c-preserved : goal.loop-c-preserved
loop-c-preserved c = search (skip_turn, rules) depth 3

pub returns : goal.returns
returns c = search (skip_end, rules) depth 3
