-- `fence_statements::breach_by` meets its contract: each turn tests the next use.
-- The invariant: what is left gives the answer of the whole, what is noted keeps the rules, and rows are noted as they are.
-- Assumes nothing.
use mathlib.Core.Path.{◌≡◌}
use lib.ListN.{length}
use Rattle.unit_decode.specs.Units.{RowsIn}
use Rattle.fence_statements.specs.Notes.{Both}
use Rattle.fence_statements.proofs.Statements.{Left}
use Rattle.fence_statements.proofs.breach_by.Given as goal

abbrev pub invariant-loop-k : goal.invariant-loop-k
invariant-loop-k l =
    Left l.coded.unit.now l.coded.parts l.row l.s l.k × Both l.coded l.reads l.writes × RowsIn l.coded l.rows
    × (length l.reads ≡ length l.initial.reads) × (length l.writes ≡ length l.initial.writes) × (length l.rows ≡ length l.initial.rows)
