-- `run_evaluate::form_of` meets its contract: the arm of the `match` says which code it is.
-- Assumes nothing.
use Rattle.rules.proofs.Walk.{walk_match}
use Rattle.run_evaluate.proofs.form_of.Goals as goal

pub returns-in-3 : goal.returns-in-3
returns-in-3 c = search walk_match depth 4

pub returns-in-4 : goal.returns-in-4
returns-in-4 c = search walk_match depth 4

pub returns-in_default : goal.returns-in_default
returns-in_default c = search walk_match depth 4
