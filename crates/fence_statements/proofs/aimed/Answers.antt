-- `fence_statements::aimed` meets its contract: where the place is written, the byte after the reference tells whether it is the last item.
-- Assumes nothing.
use Rattle.fence_statements.proofs.Turns.{aim_last}
use Rattle.fence_statements.proofs.aimed.Goals as goal

pub returns-then-dest : goal.returns-then-dest
returns-then-dest c = search aim_last depth 3
