-- `fence::breach_alone` meets its contract: the table of a unit that passed its check tells what the rule asks, and nothing is noted.
-- Assumes nothing.
use Rattle.fence_decimals.proofs.Tables.{ahead_says}
use Rattle.fence.proofs.breach_alone.Goals as goal

pub breach_of-requires-clause-ahead : goal.breach_of-requires-clause-ahead
breach_of-requires-clause-ahead c = search ahead_says depth 3
