-- `fence::verdict_by` meets its contract: the statements passed keep the rules, and the one at which it stops does not.
-- Assumes nothing.
use borrow.Author.Rules.{rules}
use Rattle.fence_statements.proofs.Notes.{both_kept}
use Rattle.fence.proofs.Answers.{verdict_yes, verdict_no, verdict_on}
use Rattle.fence.proofs.verdict_by.Goals as goal

pub returns-then-not-keeps : goal.returns-then-not-keeps
returns-then-not-keeps c = search verdict_no depth 3

pub loop-i-preserved : goal.loop-i-preserved
loop-i-preserved c = (search verdict_on depth 3, search both_kept depth 3, search rules, search rules, search rules, search rules)

pub returns : goal.returns
returns c = search verdict_yes depth 3
