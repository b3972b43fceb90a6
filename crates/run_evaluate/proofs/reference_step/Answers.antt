-- `run_evaluate::reference_step` meets its contract: the reference is cut, or last, or takes its bounds from the values held and is read.
-- Assumes nothing.
use Rattle.run_evaluate.proofs.Steps.{held_val, reference_short, reference_place, reference_few, reference_over, reference_held}
use Rattle.run_evaluate.proofs.reference_step.Goals as goal

pub returns-then-es-i-le2 : goal.returns-then-es-i-le2
returns-then-es-i-le2 c = search reference_short depth 3

pub place_of-requires-clause-val : goal.place_of-requires-clause-val
place_of-requires-clause-val c = search held_val depth 2

pub place_of-requires-clause-val_2 : goal.place_of-requires-clause-val_2
place_of-requires-clause-val_2 c = search held_val depth 2

pub returns-then-ends : goal.returns-then-ends
returns-then-ends c = search reference_place depth 3

pub returns-then-n-taken : goal.returns-then-n-taken
returns-then-n-taken c = search reference_few depth 3

pub returns-then-m-ge-MOST : goal.returns-then-m-ge-MOST
returns-then-m-ge-MOST c = search reference_over depth 3

pub read_reference-requires-clause-val : goal.read_reference-requires-clause-val
read_reference-requires-clause-val c = search held_val depth 2

pub read_reference-requires-clause-val_2 : goal.read_reference-requires-clause-val_2
read_reference-requires-clause-val_2 c = search held_val depth 2

pub returns : goal.returns
returns c = search reference_held depth 3
