-- `text::width_of` meets its contract: each width is tried in turn, and 18 is the last.
-- Assumes nothing.
use mathlib.Core.Path.{◌≡◌, sym, ◌∙◌}
use native.Mathlib.Omega.{arith}
use Rattle.text.proofs.Writing.{width_hit, width_miss, width_end}
use Rattle.text.proofs.width_of.Goals as goal

pub returns-then-m-power : goal.returns-then-m-power
returns-then-m-power c = let l = c.loop-w in (sym (l.invariant ∙ width_hit l.w c.args.m (omega arith) (rw c.power.ensures at c.if-m-power.true)), omega arith)

pub loop-w-preserved : goal.loop-w-preserved
loop-w-preserved c = let l = c.loop-w in l.invariant ∙ width_miss l.w c.args.m (omega arith) (rw c.power.ensures at c.if-m-power.false)

pub returns : goal.returns
returns c = let l = c.loop-w in let e : l.w ≡ 18 = omega arith in (sym (l.invariant ∙ width_end l.w c.args.m (omega arith) ∙ e), omega arith)
