-- `run_items::read_first` meets its contract: the tests are the rule's own, in its order, and the span that was found is read.
-- Assumes nothing.
use Rattle.number.proofs.Negation.{zero_fits}
use Rattle.run_items.proofs.Places.{first_inside, reference_none, reference_alpha, reference_read, reference_outside}
use Rattle.run_items.proofs.read_first.Goals as goal

pub returns-then-coded-field : goal.returns-then-coded-field
returns-then-coded-field c = search reference_none depth 3

pub returns-then-not-is_decimal : goal.returns-then-not-is_decimal
returns-then-not-is_decimal c = search reference_alpha depth 3

pub read_at-requires-clause-len_in_bounds : goal.read_at-requires-clause-len_in_bounds
read_at-requires-clause-len_in_bounds c = search first_inside depth 3

pub returns-in-Some : goal.returns-in-Some
returns-in-Some c = search (reference_read, zero_fits) depth 3

pub returns-in-None : goal.returns-in-None
returns-in-None c = search (reference_outside, zero_fits) depth 3
