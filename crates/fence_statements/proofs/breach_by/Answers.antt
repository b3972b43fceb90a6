-- `fence_statements::breach_by` meets its contract: each turn tests the next use.
-- Assumes nothing.
use mathlib.Core.Path.{ap}
use mathlib.Core.Bool.{not}
use borrow.Author.Rules.{rules}
use Rattle.fence_statements.proofs.Notes.{both_kept}
use Rattle.fence_statements.proofs.Statements.{use_good, uses_over, uses_break, uses_on}
use Rattle.fence_statements.proofs.breach_by.Goals as goal

pub use_breach-b-requires-clause-u_value : goal.use_breach-b-requires-clause-u_value
use_breach-b-requires-clause-u_value c = search use_good depth 3

pub returns-then-not-keeps-clause-value : goal.returns-then-not-keeps-clause-value
returns-then-not-keeps-clause-value c = search uses_break depth 3

pub loop-k-preserved : goal.loop-k-preserved
loop-k-preserved c = (
  uses_on _ _ _ _ _ c.loop-k.invariant.0 c.use_by-u.result c.use_by-u.ensures.value c.use_breach-b.result
      c.keeps.result c.use_breach-b.ensures.value c.keeps.ensures (ap not c.if-not-keeps.false),
  search both_kept depth 3,
  search rules,
  search rules,
  search rules,
  search rules,
)

pub returns-clause-value : goal.returns-clause-value
returns-clause-value c = search uses_over depth 3
