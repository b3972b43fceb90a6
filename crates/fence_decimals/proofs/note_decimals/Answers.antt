-- `fence_decimals::note_decimals` meets its contract: each turn fills the table from the end of the decimal fields before up to the end of this one.
-- Assumes nothing.
use borrow.Author.Rules.{rules}
use mathlib.Core.Path.{◌≡◌}
use Prim.Native.Nat.{◌-◌}
use lib.ListN.{length, take, drop, replicate}
use Rattle.fence_decimals.proofs.Filling.{half_start, half_end, half_next, turn_high, turn_inside}
use Rattle.fence_decimals.proofs.note_decimals.Goals as goal

pub loop-g-init : goal.loop-g-init
loop-g-init c = (search half_start depth 3, search rules, search rules)

pub slice_bounds-fill-end : goal.slice_bounds-fill-end
slice_bounds-fill-end c = search turn_high depth 3

pub loop-g-preserved : goal.loop-g-preserved
loop-g-preserved c =
    let filled : c.fill.new.self ≡ replicate (length (take (c.behind-next.result - c.loop-g.floor) (drop c.loop-g.floor c.loop-g.ahead))) c.field-field.result.offset = c.fill.ensures.after (λ y e. e) in
    (search half_next depth 3, search turn_inside depth 3, search rules)

pub returns : goal.returns
returns c = search half_end depth 3
