-- `fence::fence` meets its contract: the answer of the check decides, and what passes is held to the rules.
-- Assumes nothing.
use Rattle.std.proofs.Common.{rules}
use Rattle.rules_unit.proofs.Sound.{fills_by}
use Rattle.fence.proofs.Answers.{fence_passed, fence_refused}
use Rattle.fence.proofs.fence.Goals as goal

pub tail_of-requires : goal.tail_of-requires
tail_of-requires c = search fills_by depth 3

pub invariant_of-verdict_of : goal.invariant_of-verdict_of
invariant_of-verdict_of c = record { fills = search fills_by depth 3; words = search rules; starts = search rules }

pub returns-in-Ok : goal.returns-in-Ok
returns-in-Ok c = search fence_passed depth 3

pub returns-in-Err : goal.returns-in-Err
returns-in-Err c = search fence_refused depth 3
