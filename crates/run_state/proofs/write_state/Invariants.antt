-- `run_state::write_state` meets its contract: each turn puts one number more.
-- The invariant: those before are put.
-- Assumes nothing.
use mathlib.Core.Path.{◌≡◌}
use lib.ListN.{take}
use Rattle.rules_host.specs.Laid.{laid}
use Rattle.rules_host.specs.Numbers.{numbers_of}
use Rattle.run_state.proofs.write_state.Given as goal

abbrev pub invariant-loop-k : goal.invariant-loop-k
invariant-loop-k l = l.numbers ≡ laid (take l.k (numbers_of l.s)) l.initial.numbers
