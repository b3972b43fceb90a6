-- `fence_statements::breach_in` meets its contract: each turn tests the next item and goes on to the items after it, with the bounds that stand before them.
-- The invariant: what is left gives the answer of the whole, the bounds are values, the items left keep their own rules, and what is noted of them
-- keeps the fence rules; so does all that is noted, if the answer is that none is broken. The measure: how many bytes are left.
-- Assumes nothing.
use mathlib.Core.Path.{◌≡◌}
use Prim.Native.Nat.{◌-◌}
use lib.ListN.{length}
use Rattle.rules_unit.specs.Decode.{items_at}
use Rattle.rules_fence.specs.declared.Seen.TheVariants as seen
use Rattle.rules_fence.specs.Breaches.{breach_from}
use Rattle.fence_bounds.specs.Asked.{Small}
use Rattle.fence_statements.specs.Asked.{AllKnown}
use Rattle.fence_statements.proofs.Notes.{Keeping}
use Rattle.fence_statements.proofs.breach_in.Given as goal
use Rattle.unit_decode.specs.Units.{code_in}

abbrev pub invariant-loop-i : goal.invariant-loop-i
invariant-loop-i l =
    (breach_from (code_in l.coded) l.dest l.s (items_at l.es l.i) ≡ breach_from (code_in l.coded) l.dest seen.Nothing (items_at l.es l.at))
    × Small l.s × AllKnown (code_in l.coded) (items_at l.es l.i)
    × Keeping (code_in l.coded) l.dest l.es l.notes l.i (breach_from (code_in l.coded) l.dest seen.Nothing (items_at l.es l.at))
    × (length l.notes ≡ length l.initial.notes)

abbrev pub decreases-loop-i : goal.decreases-loop-i
decreases-loop-i l = length l.es - l.i
