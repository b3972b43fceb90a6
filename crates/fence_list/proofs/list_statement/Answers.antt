-- `fence_list::list_statement` meets its contract: the row is the statement's own, and every use of a unit that passed its check is good.
-- Assumes nothing.
use Rattle.rules_run.proofs.Lengths.{passed_dialect}
use Rattle.fence_statements.proofs.Statements.{all_good}
use Rattle.fence_list.proofs.Statements.{statement_own}
use Rattle.fence_list.proofs.list_statement.Goals as goal

pub list_uses-requires-clause-sound_dialect : goal.list_uses-requires-clause-sound_dialect
list_uses-requires-clause-sound_dialect c = search passed_dialect depth 3

pub list_uses-requires-clause-all_good : goal.list_uses-requires-clause-all_good
list_uses-requires-clause-all_good c = search all_good depth 3

pub returns-clause-fact : goal.returns-clause-fact
returns-clause-fact c = search statement_own depth 3
