-- `run_statement::at_place` meets its contract: each arm knows what is done, and its callee answers what the rule has for that.
-- Assumes nothing.
use Rattle.run_evaluate.proofs.Answers.{within_by}
use Rattle.run_statement.proofs.Places.{at_set, at_as}
use Rattle.run_statement.proofs.at_place.Goals as goal

pub move_worked-requires-clause-within : goal.move_worked-requires-clause-within
move_worked-requires-clause-within c = search within_by depth 3

pub returns-in-Set : goal.returns-in-Set
returns-in-Set c = search at_set depth 3

pub returns-in-Clear : goal.returns-in-Clear
returns-in-Clear c = search at_as depth 3

pub returns-in-Count : goal.returns-in-Count
returns-in-Count c = search at_as depth 3

pub returns-in-Case : goal.returns-in-Case
returns-in-Case c = search at_as depth 3

pub returns-in-Edit : goal.returns-in-Edit
returns-in-Edit c = search at_as depth 3
