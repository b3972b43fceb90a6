-- `run_items::place_first` meets its contract: the tests are the rule's own, in its order, and the span that was found becomes the place.
-- Assumes nothing.
use Rattle.number.proofs.Negation.{zero_fits}
use Rattle.run_items.proofs.Places.{place_none, place_found, place_outside}
use Rattle.run_items.proofs.place_first.Goals as goal

pub returns-then-coded-field : goal.returns-then-coded-field
returns-then-coded-field c = search place_none depth 3

pub returns-in-Some : goal.returns-in-Some
returns-in-Some c = search (place_found, zero_fits) depth 3

pub returns-in-None : goal.returns-in-None
returns-in-None c = search (place_outside, zero_fits) depth 3
