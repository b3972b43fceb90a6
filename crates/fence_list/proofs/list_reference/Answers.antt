-- `fence_list::list_reference` meets its contract: a reference that keeps the rules is passed over, and any other is one row more.
-- Assumes nothing.
use Rattle.fence_list.proofs.Turns.{reference_keeps, reference_breaks}
use Rattle.fence_list.proofs.list_reference.Goals as goal

pub returns-then-keeps : goal.returns-then-keeps
returns-then-keeps c = search reference_keeps depth 3

pub returns : goal.returns
returns c = search reference_breaks depth 3
