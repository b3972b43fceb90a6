-- `run_state::loops_of` meets its contract: each turn puts one slot more.
-- Assumes nothing.
use native.Mathlib.Omega.{arith}
use borrow.Author.Rules.{rules}
use Rattle.run_state.proofs.Reading.{loops_next, loops_all}
use Rattle.run_state.proofs.loops_of.Goals as goal

pub loop-k-preserved : goal.loop-k-preserved
loop-k-preserved c = (search rules, loops_next c.args.numbers.now c.loop-k.k c.loop-k.loops _ c.loop-k.invariant.0 (omega arith) c.loop-k.invariant.1 c.loop_at.ensures)

pub returns : goal.returns
returns c = loops_all c.args.numbers.now c.loop-k.k c.loop-k.loops c.loop-k.invariant.0 (omega arith) c.loop-k.invariant.1
