-- `run_spans::span_by` meets its contract: each of the two rules has its own function.
-- Assumes nothing.
use Rattle.run_spans.proofs.Finding.{by_loose, by_strict}
use Rattle.run_spans.proofs.span_by.Goals as goal

pub returns-in-Loose : goal.returns-in-Loose
returns-in-Loose c = search by_loose depth 3

pub returns-in-Strict : goal.returns-in-Strict
returns-in-Strict c = search by_strict depth 3
