-- `run_state::write_state` meets its contract: each turn puts one number more.
-- Assumes nothing.
use native.Mathlib.Omega.{arith}
use borrow.Author.Rules.{rules}
use Rattle.rules_host.proofs.Laid.{laid_none}
use Rattle.run_state.proofs.Words.{write_next, write_end}
use Rattle.run_state.proofs.write_state.Goals as goal

pub loop-k-init : goal.loop-k-init
loop-k-init c = search laid_none

pub loop-k-preserved : goal.loop-k-preserved
loop-k-preserved c = search (write_next, rules) depth 3

pub returns : goal.returns
returns c = write_end c.args.s c.args.numbers.now c.loop-k.numbers c.loop-k.k c.loop-k.invariant (omega arith) (omega arith)
