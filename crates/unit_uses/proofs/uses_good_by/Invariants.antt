-- `unit_uses::uses_good_by` meets its contract: each turn tests the next use.
-- The invariant: what is left gives the answer of the whole, and what is noted stays so.
-- Assumes nothing.
use mathlib.Core.Path.{◌≡◌}
use lib.ListN.{length, drop}
use Rattle.rules_unit.specs.Table.{uses_by}
use Rattle.rules_unit.specs.Expressions.{usesb}
use Rattle.unit_decode.specs.Units.{RowsIn, code_in}
use Rattle.unit_sorts.specs.Notes.{NotedIn}
use Rattle.unit_uses.proofs.uses_good_by.Given as goal

abbrev pub invariant-loop-k : goal.invariant-loop-k
invariant-loop-k l =
    (usesb (code_in l.coded) (drop l.k (uses_by (code_in l.coded) l.row l.s)) ≡ usesb (code_in l.coded) (uses_by (code_in l.coded) l.row l.s))
    × NotedIn l.coded l.notes × RowsIn l.coded l.rows × (length l.notes ≡ length l.initial.notes) × (length l.rows ≡ length l.initial.rows)
