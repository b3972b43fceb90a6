-- `fence_statements::use_breach` meets its contract: a use is its expression, and where there is none nothing is broken.
-- Assumes nothing.
use Rattle.fence_statements.proofs.Statements.{use_known}
use Rattle.fence_statements.proofs.use_breach.Goals as goal

pub breach_as-requires-clause-all_known : goal.breach_as-requires-clause-all_known
breach_as-requires-clause-all_known c = search use_known depth 3
