-- `unit_decode::next_in` meets its contract: each turn goes on behind the next item, and the 00, what is no item or a note ends the row.
-- The invariant: what is left ends where the whole does. The measure: how many bytes are left.
-- Assumes nothing.
use mathlib.Core.Path.{◌≡◌}
use Prim.Native.Nat.{◌+◌, ◌-◌}
use lib.ListN.{length}
use Rattle.rules_unit.specs.Decode.{items_at}
use Rattle.rules_unit.specs.Expressions.{extent_of}
use Rattle.unit_decode.proofs.next_in.Given as goal

abbrev pub invariant-loop-i : goal.invariant-loop-i
invariant-loop-i l = l.i + extent_of (items_at l.s l.i) ≡ l.at + extent_of (items_at l.s l.at)

abbrev pub decreases-loop-i : goal.decreases-loop-i
decreases-loop-i l = length l.s - l.i
