-- `unit_decode::note_rows` meets its contract: on the way through an expression each turn notes where the row goes on, which is so for what is left.
-- Assumes nothing.
use borrow.Author.Rules.{rules}
use native.Mathlib.Omega.{arith}
use Rattle.rules_unit.proofs.Items.{width_some, width_most}
use Rattle.unit_decode.proofs.Rows.{rows_more, row_on}
use Rattle.unit_decode.proofs.note_rows.Goals as goal

pub loop-i-init : goal.loop-i-init
loop-i-init c = (search rules, search rules, search rules)

pub overflow_add-i : goal.overflow_add-i
overflow_add-i c = omega (arith, width_most c.item_at-item.result)

pub loop-i-smaller : goal.loop-i-smaller
loop-i-smaller c = omega (arith, width_some c.item_at-item.result)

pub loop-i-preserved : goal.loop-i-preserved
loop-i-preserved c = (search rows_more depth 3, search row_on depth 3, search rules)
