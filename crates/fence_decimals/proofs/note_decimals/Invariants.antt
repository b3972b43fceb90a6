-- `fence_decimals::note_decimals` meets its contract: each turn fills the table from the end of the decimal fields before up to the end of this one.
-- The invariant: what is noted, with what the fields left give, is the whole table, and nothing is noted behind the floor.
-- Assumes nothing.
use mathlib.Core.Path.{◌≡◌}
use Prim.Native.Nat.{◌≤◌}
use lib.ListN.{length}
use Rattle.fence_decimals.proofs.Filling.{Half}
use Rattle.fence_decimals.proofs.note_decimals.Given as goal
use Rattle.unit_decode.specs.Units.{code_in}

abbrev pub invariant-loop-g : goal.invariant-loop-g
invariant-loop-g l =
    Half (code_in l.coded) l.g l.floor l.ahead × (l.floor ≤ l.coded.parts.d) × (length l.ahead ≡ length l.initial.ahead)
