-- `run_masks::edit` meets its contract: each turn puts what the rule shows in its character's place.
-- Assumes nothing.
use native.Mathlib.Omega.{arith}
use borrow.Author.Rules.{rules}
use Rattle.run_masks.proofs.Editing.{edit_turn, edit_end}
use Rattle.run_masks.proofs.edit.Goals as goal

pub loop-c-preserved : goal.loop-c-preserved
loop-c-preserved c = search (edit_turn, rules) depth 3

pub returns : goal.returns
returns c = edit_end c.args.p c.args.spot c.loop-c.w c.loop-c.s c.loop-c.c-index _ (omega arith) c.loop-c.invariant
