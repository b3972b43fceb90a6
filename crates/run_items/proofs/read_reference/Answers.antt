-- `run_items::read_reference` meets its contract: the tests are the rule's own, in its order, and the span that was found, by the rule that the field
-- chooses, is read. Assumes nothing.
use Rattle.run_items.proofs.Places.{found_by, found_inside, reference_none, reference_alpha, reference_read, reference_outside}
use Rattle.run_items.proofs.read_reference.Goals as goal

pub returns-then-coded-field : goal.returns-then-coded-field
returns-then-coded-field c = search reference_none depth 3

pub returns-then-not-is_decimal : goal.returns-then-not-is_decimal
returns-then-not-is_decimal c = search reference_alpha depth 3

pub read_at-requires-clause-len_in_bounds : goal.read_at-requires-clause-len_in_bounds
read_at-requires-clause-len_in_bounds c = search found_inside depth 3

pub returns-in-Some : goal.returns-in-Some
returns-in-Some c = search (reference_read, found_by) depth 4

pub returns-in-None : goal.returns-in-None
returns-in-None c = search (reference_outside, found_by) depth 4
