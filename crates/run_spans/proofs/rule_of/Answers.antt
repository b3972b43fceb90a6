-- `run_spans::rule_of` meets its contract: the test of the zero byte is the rule's own.
-- Assumes nothing.
use Rattle.rules.proofs.Walk.{walk}
use Rattle.run_spans.proofs.rule_of.Goals as goal

pub returns-then-field-eq128 : goal.returns-then-field-eq128
returns-then-field-eq128 c = search walk depth 3

pub returns : goal.returns
returns c = search walk depth 3
