-- `run_state::returns_of` meets its contract: each turn puts one return number more.
-- The invariant: those before are put.
-- Assumes nothing.
use mathlib.Core.Path.{◌≡◌}
use lib.ListN.{length, take}
use Rattle.rules_host.specs.Numbers.{listed, return_at}
use Rattle.run_state.proofs.returns_of.Given as goal

abbrev pub invariant-loop-i : goal.invariant-loop-i
invariant-loop-i l = (length l.returns ≡ 50) × (take l.i l.returns ≡ take l.i (listed 50 (return_at l.numbers)))
