-- `fence_statements::breach_of` meets its contract: the row is the statement's own, and every use of a unit that passed its check is good.
-- Assumes nothing.
use Rattle.rules_run.proofs.Lengths.{passed_dialect}
use Rattle.fence_statements.proofs.Statements.{all_good, breach_own}
use Rattle.fence_statements.proofs.breach_of.Goals as goal

pub breach_by-requires-clause-sound_dialect : goal.breach_by-requires-clause-sound_dialect
breach_by-requires-clause-sound_dialect c = search passed_dialect depth 3

pub breach_by-requires-clause-all_good : goal.breach_by-requires-clause-all_good
breach_by-requires-clause-all_good c = search all_good depth 3

pub returns-clause-value : goal.returns-clause-value
returns-clause-value c = search breach_own depth 3
