-- `unit_decode::next_in` meets its contract: each turn goes on behind the next item, and the 00, what is no item or a note ends the row.
-- Assumes nothing.
use mathlib.Core.Path.{refl}
use native.Mathlib.Omega.{arith}
use Rattle.rules_unit.proofs.Items.{width_some, width_most}
use Rattle.unit_decode.proofs.Rows.{not_end, row_past, row_noted, row_ends, row_bad, row_on}
use Rattle.unit_decode.proofs.next_in.Goals as goal

pub loop-i-init : goal.loop-i-init
loop-i-init c = refl

pub returns-then-known-gt0 : goal.returns-then-known-gt0
returns-then-known-gt0 c = search row_noted depth 3

pub returns-in-End : goal.returns-in-End
returns-in-End c = search row_ends depth 3

pub returns-then-closes : goal.returns-then-closes
returns-then-closes c = search (row_bad, not_end) depth 3

pub overflow_add-i : goal.overflow_add-i
overflow_add-i c = omega (arith, width_most c.item_at-item.result)

pub loop-i-smaller : goal.loop-i-smaller
loop-i-smaller c = omega (arith, width_some c.item_at-item.result)

pub loop-i-preserved : goal.loop-i-preserved
loop-i-preserved c = search row_on depth 3

pub returns : goal.returns
returns c = search row_past depth 3
