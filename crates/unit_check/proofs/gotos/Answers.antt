-- `unit_check::gotos` meets its contract: the statement at which it refuses is no GOTO statement.
-- Assumes nothing.
use Rattle.unit_check.proofs.Scans.{gotos_stop}
use Rattle.unit_check.proofs.gotos.Goals as goal

pub returns-then-not-is_goto : goal.returns-then-not-is_goto
returns-then-not-is_goto c = search gotos_stop depth 3
