-- `run_evaluate::field_step` meets its contract: the reference is cut, or last, or read.
-- Assumes nothing.
use lib.Dec.{lit≤}
use Rattle.run_evaluate.proofs.Steps.{reference_short, field_place, field_bound, field_over, field_held}
use Rattle.run_evaluate.proofs.field_step.Goals as goal

pub returns-then-es-i-le2 : goal.returns-then-es-i-le2
returns-then-es-i-le2 c = search reference_short depth 3

pub returns-then-n-eq0 : goal.returns-then-n-eq0
returns-then-n-eq0 c = search field_place depth 3

pub returns-then-ends : goal.returns-then-ends
returns-then-ends c = search field_bound depth 3

pub returns-then-n-ge-MOST : goal.returns-then-n-ge-MOST
returns-then-n-ge-MOST c = search (field_over, lit≤) depth 4

pub returns : goal.returns
returns c = search field_held depth 3
