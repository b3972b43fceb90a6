-- `fence::verdict_by` meets its contract: the statements passed keep the rules, and the one at which it stops does not.
-- The invariant: what is left gives the answer of the whole, what is noted keeps the rules, and rows are noted as they are.
-- Assumes nothing.
use mathlib.Core.Path.{◌≡◌}
use lib.ListN.{length}
use Prim.Native.Nat.{◌-◌}
use Rattle.rules_fence.specs.Breaches.{verdict_from}
use Rattle.unit_decode.specs.Units.{RowsIn, code_in}
use Rattle.fence_statements.specs.Notes.{Both}
use Rattle.fence.proofs.verdict_by.Given as goal

abbrev pub invariant-loop-i : goal.invariant-loop-i
invariant-loop-i l =
    (verdict_from (code_in l.coded) (l.coded.parts.n - l.i) l.i ≡ verdict_from (code_in l.coded) l.coded.parts.n 0)
    × Both l.coded l.reads l.writes × RowsIn l.coded l.rows
    × (length l.reads ≡ length l.initial.reads) × (length l.writes ≡ length l.initial.writes) × (length l.rows ≡ length l.initial.rows)
