-- `fence_list::list_items` meets its contract: each turn lists the next item and goes on to the items after it, with the bounds that stand before them.
-- Assumes nothing.
use borrow.Author.Rules.{rules}
use mathlib.Core.Path.{refl}
use Prim.Native.Nat.{◌-◌}
use native.Mathlib.Omega.{arith}
use Rattle.rules_unit.specs.declared.Item.{Item}
use Rattle.rules_unit.proofs.Items.{width_some, width_most}
use Rattle.fence_bounds.proofs.Seeing.{small_none, small_next}
use Rattle.fence_statements.proofs.Turns.{item_known, next_known}
use Rattle.fence_list.proofs.Turns.{turn_beyond, turn_closes, turn_on}
use Rattle.fence_list.proofs.list_items.Goals as goal

pub loop-at-init : goal.loop-at-init
loop-at-init c = (refl, small_none, search rules, search rules)

pub returns-then-closes : goal.returns-then-closes
returns-then-closes c = search turn_closes depth 3

pub overflow_add-next : goal.overflow_add-next
overflow_add-next c =
    let item_of : Item = c.item_at-item.result in
    omega (arith, width_most (item_of))

pub list_item-n-requires-clause-item_value : goal.list_item-n-requires-clause-item_value
list_item-n-requires-clause-item_value c = search item_known depth 3

pub loop-at-smaller : goal.loop-at-smaller
loop-at-smaller c =
    let item_of : Item = c.item_at-item.result in
    omega (arith, width_some (item_of))

pub loop-at-preserved : goal.loop-at-preserved
loop-at-preserved c = (search turn_on depth 3, search small_next depth 3, search next_known depth 3, search rules)

pub returns : goal.returns
returns c = search turn_beyond depth 3
