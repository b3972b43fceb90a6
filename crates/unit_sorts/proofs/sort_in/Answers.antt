-- `unit_sorts::sort_in` meets its contract: each turn tests what the rule tests of the next item, in its order, and goes on to the items after it;
-- where a sort is noted for what is left, that is the answer.
-- Assumes nothing.
use borrow.Author.Rules.{rules}
use Rattle.unit_sorts.proofs.Turns.{turn_beyond, turn_one, turn_none, turn_last, turn_noted, turn_item, turn_few, turn_full, turn_on}
use Rattle.unit_sorts.proofs.sort_in.Goals as goal
use Rattle.unit_sorts.proofs.sort_in.Goals.{then-n-taken-via-then-n-taken, then-n-taken-via-else-n-taken+then-n-taken-gt16}

pub returns-then-n-eq1 : goal.returns-then-n-eq1
returns-then-n-eq1 c = search turn_one depth 3

pub returns-in-End : goal.returns-in-End
returns-in-End c = search turn_none depth 3

pub returns-then-not-goes_on : goal.returns-then-not-goes_on
returns-then-not-goes_on c = search turn_last depth 3

pub returns-then-not-is_wrong : goal.returns-then-not-is_wrong
returns-then-not-is_wrong c = search turn_noted depth 3

pub returns-then-not-item_good : goal.returns-then-not-item_good
returns-then-not-item_good c = search turn_item depth 3

pub returns-then-n-taken : goal.returns-then-n-taken
returns-then-n-taken c =
    elim c.then-n-taken.branch [
      | then-n-taken-via-then-n-taken w ↦ search turn_few depth 3
      | then-n-taken-via-else-n-taken+then-n-taken-gt16 w ↦ search (turn_full, rules) depth 3
    ]

pub loop-i-preserved : goal.loop-i-preserved
loop-i-preserved c = (search turn_on depth 3, search rules)

pub returns : goal.returns
returns c = search turn_beyond depth 3
