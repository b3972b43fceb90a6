-- `run_state::returns_of` meets its contract: each turn puts one return number more.
-- Assumes nothing.
use mathlib.Core.Path.{refl}
use native.Mathlib.Omega.{arith}
use borrow.Author.Rules.{rules}
use Rattle.run_state.proofs.Reading.{return_small, returns_next, returns_all}
use Rattle.run_state.proofs.returns_of.Goals as goal

pub overflow_cast-returns : goal.overflow_cast-returns
overflow_cast-returns c = omega (arith, return_small _ c.requires.numbers_len c.requires.numbers_value _ c.loop-i-test.true)

pub loop-i-preserved : goal.loop-i-preserved
loop-i-preserved c = (search rules, returns_next c.args.numbers.now c.loop-i.i c.loop-i.returns _ c.loop-i.invariant.0 (omega arith) c.loop-i.invariant.1 refl)

pub returns : goal.returns
returns c = returns_all c.args.numbers.now c.loop-i.i c.loop-i.returns c.loop-i.invariant.0 (omega arith) c.loop-i.invariant.1
