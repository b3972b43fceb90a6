-- `fence_list::list_all` meets its contract: each turn lists the next statement.
-- The invariant: what is left gives the answer of the whole, and rows are noted as they are.
-- Assumes nothing.
use Prim.Native.Nat.{◌-◌}
use mathlib.Core.Path.{◌≡◌}
use lib.ListN.{length}
use Rattle.rules_fence.specs.Listed.{statements_broken}
use Rattle.unit_decode.specs.Units.{RowsIn, code_in}
use Rattle.fence_list.specs.Gathered.{gathered}
use Rattle.fence_list.proofs.Gathering.{G}
use Rattle.fence_list.proofs.list_all.Given as goal

abbrev pub invariant-loop-i : goal.invariant-loop-i
invariant-loop-i l =
    (gathered l.skip (statements_broken (code_in l.coded) (l.coded.parts.n - l.i) l.i) (G l.n l.rows) ≡ gathered l.skip (statements_broken (code_in l.coded) l.coded.parts.n 0) (G 0 l.initial.rows))
    × RowsIn l.coded l.noted × (length l.noted ≡ length l.initial.noted) × (length l.rows ≡ length l.initial.rows)
