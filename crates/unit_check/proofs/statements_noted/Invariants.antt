-- `unit_check::statements_noted` meets its contract: the statements passed are good, and the one at which it refuses is not, by 5 or by 4.
-- The invariant: what is left gives the answer of the whole, and what is noted is so.
-- Assumes nothing.
use Prim.Native.Nat.{◌-◌}
use mathlib.Core.Path.{◌≡◌}
use lib.ListN.{length}
use Rattle.rules_unit.specs.Checks.{statements_from}
use Rattle.unit_decode.specs.Units.{RowsIn}
use Rattle.unit_sorts.specs.Notes.{NotedIn}
use Rattle.unit_check.proofs.statements_noted.Given as goal

abbrev pub invariant-loop-i : goal.invariant-loop-i
invariant-loop-i l =
    (statements_from l.coded.unit.now l.coded.parts (l.coded.parts.n - l.i) l.i ≡ statements_from l.coded.unit.now l.coded.parts l.coded.parts.n 0)
    × NotedIn l.coded l.notes × RowsIn l.coded l.rows × (length l.notes ≡ length l.initial.notes) × (length l.rows ≡ length l.initial.rows)
