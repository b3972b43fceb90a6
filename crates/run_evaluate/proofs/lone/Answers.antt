-- `run_evaluate::lone` meets its contract: its tests are the rule's own, in the rule's order.
-- Assumes nothing.
use Rattle.rules.proofs.Walk.{walk}
use Rattle.run_evaluate.proofs.lone.Goals as goal

pub returns-then-es-at : goal.returns-then-es-at
returns-then-es-at c = search walk depth 5

pub returns-then-es-at-eq2 : goal.returns-then-es-at-eq2
returns-then-es-at-eq2 c = search walk depth 5

pub returns : goal.returns
returns c = search walk depth 5
