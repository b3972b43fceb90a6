-- `run_stores::move_up` meets its contract: the byte that a turn moves stands behind all that were written, so it is still as it was.
-- The invariant: the first i bytes are moved.
-- Assumes nothing.
use mathlib.Core.Path.{◌≡◌}
use lib.ListN.{take, drop}
use Rattle.rules_run.specs.Turns.{stored}
use Rattle.run_stores.proofs.move_up.Given as goal

abbrev pub invariant-loop-i : goal.invariant-loop-i
invariant-loop-i l = l.bytes ≡ stored l.initial.bytes l.to (take l.i (drop l.from l.initial.bytes))
