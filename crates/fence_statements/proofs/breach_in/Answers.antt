-- `fence_statements::breach_in` meets its contract: each turn tests the next item and goes on to the items after it, with the bounds that stand before them.
-- keeps the fence rules; so does all that is noted, if the answer is that none is broken. The measure: how many bytes are left.
-- Assumes nothing.
use borrow.Author.Rules.{rules}
use Rattle.fence_bounds.proofs.Seeing.{small_next}
use Rattle.fence_statements.proofs.Notes.{keeping_end, turn_notes}
use Rattle.fence_statements.proofs.Turns.{turn_beyond, turn_closes, turn_breaks, turn_on, item_known, next_known}
use Rattle.fence_statements.proofs.breach_in.Goals as goal

pub returns-then-closes-clause-value : goal.returns-then-closes-clause-value
returns-then-closes-clause-value c = search turn_closes depth 3

pub returns-then-closes-clause-kept_if : goal.returns-then-closes-clause-kept_if
returns-then-closes-clause-kept_if c = search (keeping_end, turn_closes) depth 4

pub item_breach-b-requires-clause-item_value : goal.item_breach-b-requires-clause-item_value
item_breach-b-requires-clause-item_value c = search item_known depth 3

pub returns-then-not-keeps-clause-value : goal.returns-then-not-keeps-clause-value
returns-then-not-keeps-clause-value c = search turn_breaks depth 3

pub loop-i-preserved : goal.loop-i-preserved
loop-i-preserved c = (search turn_on depth 3, search small_next depth 3, search next_known depth 3, search turn_notes depth 3, search rules)

pub returns-clause-value : goal.returns-clause-value
returns-clause-value c = search turn_beyond depth 3

pub returns-clause-kept_if : goal.returns-clause-kept_if
returns-clause-kept_if c = search (keeping_end, turn_beyond) depth 4
