-- `run_spans::first_span` meets its contract: without bounds the rule is that of the bytes inside the size, and the test is the rule's own.
-- Assumes nothing.
use Rattle.rules_run.specs.Spans.{span_of}
use Rattle.rules_run.proofs.Located.{past, found}
use Rattle.run_spans.proofs.first_span.Goals as goal

pub returns-then-size-offset : goal.returns-then-size-offset
unfolding span_of
returns-then-size-offset c = search past depth 2

pub returns : goal.returns
unfolding span_of
returns c = search found depth 2
