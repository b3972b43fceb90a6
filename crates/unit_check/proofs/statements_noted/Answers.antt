-- `unit_check::statements_noted` meets its contract: the statements passed are good, and the one at which it refuses is not, by 5 or by 4.
-- Assumes nothing.
use borrow.Author.Rules.{rules}
use Rattle.rules_unit.proofs.Statements.{left_all}
use Rattle.unit_check.proofs.Scans.{scan_on, scan_out}
use Rattle.unit_check.proofs.statements_noted.Goals as goal

pub loop-i-init : goal.loop-i-init
loop-i-init c = (rw left_all, search rules, search rules, search rules, search rules)

pub returns-in-BadShape : goal.returns-in-BadShape
returns-in-BadShape c = search scan_out depth 3

pub returns-in-BadExpression : goal.returns-in-BadExpression
returns-in-BadExpression c = search scan_out depth 3

pub loop-i-preserved : goal.loop-i-preserved
loop-i-preserved c = (search scan_on depth 3, search rules, search rules, search rules, search rules)

pub returns : goal.returns
returns c = search scan_out depth 3
