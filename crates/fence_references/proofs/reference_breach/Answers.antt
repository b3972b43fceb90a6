-- `fence_references::reference_breach` meets its contract: where there are bounds, the span that they name is held to the rules, and it lies inside the data.
-- Assumes nothing.
use Rattle.fence_references.proofs.References.{reference_unbound, found_inside, reference_at_lem, reference_outside}
use Rattle.fence_references.proofs.reference_breach.Goals as goal

pub returns-then-not-bounded : goal.returns-then-not-bounded
returns-then-not-bounded c = search reference_unbound depth 3

pub span_breach-requires-clause-n_bound : goal.span_breach-requires-clause-n_bound
span_breach-requires-clause-n_bound c = search found_inside depth 3

pub returns-in-Some : goal.returns-in-Some
returns-in-Some c = search reference_at_lem depth 3

pub returns-in-None : goal.returns-in-None
returns-in-None c = search reference_outside depth 3
