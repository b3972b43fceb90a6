-- `run_state::loops_of` meets its contract: each turn puts one slot more.
-- The invariant: those before are put.
-- Assumes nothing.
use mathlib.Core.Path.{◌≡◌}
use lib.ListN.{length, take}
use Rattle.rules_host.specs.Numbers.{listed, loop_at}
use Rattle.run_state.proofs.loops_of.Given as goal

abbrev pub invariant-loop-k : goal.invariant-loop-k
invariant-loop-k l = (length l.loops ≡ 16) × (take l.k l.loops ≡ take l.k (listed 16 (loop_at l.numbers)))
