-- `unit_decode::note_rows` meets its contract: on the way through an expression each turn notes where the row goes on, which is so for what is left.
-- The invariant: what is noted is so, and what is left ends where the whole does. The measure: how many bytes are left.
-- Assumes nothing.
use mathlib.Core.Path.{◌≡◌}
use Prim.Native.Nat.{◌+◌, ◌-◌}
use lib.ListN.{length}
use Rattle.rules_unit.specs.Decode.{items_at}
use Rattle.rules_unit.specs.Expressions.{extent_of}
use Rattle.unit_decode.specs.Rows.{Rows}
use Rattle.unit_decode.proofs.note_rows.Given as goal

abbrev pub invariant-loop-i : goal.invariant-loop-i
invariant-loop-i l = Rows l.s l.rows × (l.i + extent_of (items_at l.s l.i) ≡ l.next) × (length l.rows ≡ length l.initial.rows)

abbrev pub decreases-loop-i : goal.decreases-loop-i
decreases-loop-i l = length l.s - l.i
