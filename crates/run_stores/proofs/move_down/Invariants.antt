-- `run_stores::move_down` meets its contract: the byte that a turn moves stands before all that were written, so it is still as it was.
-- The invariant: the bytes from i on are moved.
-- Assumes nothing.
use mathlib.Core.Path.{◌≡◌}
use Prim.Native.Nat.{◌+◌, ◌-◌}
use lib.ListN.{take, drop}
use Rattle.rules_run.specs.Turns.{stored}
use Rattle.run_stores.proofs.move_down.Given as goal

abbrev pub invariant-loop-i : goal.invariant-loop-i
invariant-loop-i l = l.bytes ≡ stored l.initial.bytes (l.to + l.i) (take (l.n - l.i) (drop (l.from + l.i) l.initial.bytes))
