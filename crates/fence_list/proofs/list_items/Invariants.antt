-- `fence_list::list_items` meets its contract: each turn lists the next item and goes on to the items after it, with the bounds that stand before them.
-- The invariant: what is left gives the answer of the whole, the bounds are values, and the items left keep their own rules. The measure: how many bytes are left.
-- Assumes nothing.
use mathlib.Core.Path.{◌≡◌}
use Prim.Native.Nat.{◌-◌}
use lib.ListN.{length}
use Rattle.rules_unit.specs.Decode.{items_at}
use Rattle.rules_fence.specs.declared.Seen.TheVariants as seen
use Rattle.rules_fence.specs.Listed.{broken_from}
use Rattle.fence_bounds.specs.Asked.{Small}
use Rattle.fence_statements.specs.Asked.{AllKnown}
use Rattle.fence_list.specs.Gathered.{gathered}
use Rattle.fence_list.proofs.Gathering.{G}
use Rattle.fence_list.proofs.list_items.Given as goal
use Rattle.unit_decode.specs.Units.{code_in}

abbrev pub invariant-loop-at : goal.invariant-loop-at
invariant-loop-at l =
    (gathered l.skip (broken_from (code_in l.coded) l.i l.dest l.s l.at (items_at l.es l.at)) (G l.n l.rows)
    ≡ gathered l.skip (broken_from (code_in l.coded) l.i l.dest seen.Nothing l.from (items_at l.es l.from)) (G l.count l.initial.rows))
    × Small l.s × AllKnown (code_in l.coded) (items_at l.es l.at) × (length l.rows ≡ length l.initial.rows)

abbrev pub decreases-loop-at : goal.decreases-loop-at
decreases-loop-at l =
    length l.es - l.at
