-- `fence_references::alpha_breach` meets its contract: what is read may lie on anything, and what is written ends at or before the next decimal field.
-- Assumes nothing.
use borrow.Author.Tests.{not-true}
use Rattle.fence_references.proofs.Spans.{alpha_read, alpha_apart, alpha_shared}
use Rattle.fence_references.proofs.alpha_breach.Goals.{then-not-dest-via-then-not-dest, then-not-dest-via-else-not-dest+then-apart}
use Rattle.fence_references.proofs.alpha_breach.Goals as goal

pub returns-then-not-dest : goal.returns-then-not-dest
returns-then-not-dest c = elim c.then-not-dest.branch [
  | then-not-dest-via-then-not-dest w ↦ search (alpha_read, not-true) depth 3
  | then-not-dest-via-else-not-dest+then-apart w ↦ search alpha_apart depth 3
]

pub returns : goal.returns
returns c = search alpha_shared depth 3
