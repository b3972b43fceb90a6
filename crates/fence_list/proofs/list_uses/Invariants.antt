-- `fence_list::list_uses` meets its contract: each turn lists the next use.
-- The invariant: what is left gives the answer of the whole, and rows are noted as they are. The measure: the uses that are left.
-- Assumes nothing.
use Prim.Native.Nat.{◌-◌}
use mathlib.Core.Path.{◌≡◌}
use lib.ListN.{length, drop}
use Rattle.rules_unit.specs.Table.{uses_by}
use Rattle.rules_fence.specs.Listed.{uses_broken}
use Rattle.unit_decode.specs.Units.{RowsIn, code_in}
use Rattle.fence_list.specs.Gathered.{gathered}
use Rattle.fence_list.proofs.Gathering.{G}
use Rattle.fence_list.proofs.list_uses.Given as goal

abbrev pub invariant-loop-k : goal.invariant-loop-k
invariant-loop-k l =
    (gathered l.skip (uses_broken (code_in l.coded) l.i (drop l.k (uses_by (code_in l.coded) l.row l.s))) (G l.n l.rows)
    ≡ gathered l.skip (uses_broken (code_in l.coded) l.i (uses_by (code_in l.coded) l.row l.s)) (G l.count l.initial.rows))
    × RowsIn l.coded l.noted × (length l.noted ≡ length l.initial.noted) × (length l.rows ≡ length l.initial.rows)
