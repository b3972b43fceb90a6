-- `run_items::place_by` meets its contract: the tests are the rule's own, in its order, and the span that was found, by the rule that the field chooses,
-- becomes the place. Assumes nothing.
use Rattle.run_items.proofs.Places.{found_by, place_none, place_found, place_outside}
use Rattle.run_items.proofs.place_by.Goals as goal

pub returns-then-coded-field : goal.returns-then-coded-field
returns-then-coded-field c = search place_none depth 3

pub returns-in-Some : goal.returns-in-Some
returns-in-Some c = search (place_found, found_by) depth 4

pub returns-in-None : goal.returns-in-None
returns-in-None c = search (place_outside, found_by) depth 4
