-- `run_state::all_good` meets its contract: the numbers passed stand for values, and the one at which it says no stands for none.
-- The invariant: the numbers from here on answer what all of them answer.
-- Assumes nothing.
use mathlib.Core.Path.{◌≡◌}
use lib.ListN.{drop}
use Rattle.rules_host.specs.Numbers.{good_from}
use Rattle.run_state.proofs.all_good.Given as goal

abbrev pub invariant-loop-k : goal.invariant-loop-k
invariant-loop-k l = good_from l.k (drop l.k l.numbers) ≡ good_from 0 l.numbers
