-- `fence_references::element_breach` meets its contract: the element that the span starts in is found by a division.
-- Assumes nothing.
use Rattle.fence_references.proofs.Spans.{element_none, element_by}
use Rattle.fence_references.proofs.element_breach.Goals as goal

pub returns-then-size-eq0 : goal.returns-then-size-eq0
returns-then-size-eq0 c = search element_none depth 3

pub returns : goal.returns
returns c = search element_by depth 3
