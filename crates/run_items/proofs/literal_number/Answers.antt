-- `run_items::literal_number` meets its contract: the tests are the rule's own, and the part of the literals that `plain_number` reads is the literal.
-- Assumes nothing.
use Rattle.unit_decode.proofs.Literals.{number_empty, number_long}
use Rattle.run_items.proofs.Literals.{literal_none, literal_past, literal_there}
use Rattle.run_items.proofs.literal_number.Goals as goal
use Rattle.run_items.proofs.literal_number.Goals.{then-len-lt1-via-then-len-lt1, then-len-lt1-via-else-len-lt1+then-coded-len}

pub returns-then-len-lt1 : goal.returns-then-len-lt1
returns-then-len-lt1 c =
    elim c.then-len-lt1.branch [
      | then-len-lt1-via-then-len-lt1 w ↦ search (literal_none, number_empty) depth 4
      | then-len-lt1-via-else-len-lt1+then-coded-len w ↦ search (literal_none, number_long) depth 4
    ]

pub returns-then-literals-end : goal.returns-then-literals-end
returns-then-literals-end c = search literal_past depth 3

pub returns : goal.returns
returns c = search literal_there depth 3
