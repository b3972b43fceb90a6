-- `unit_check::check` meets its contract: where check 1 passes, the unit has a trailer, the parts that it names fill the unit, and their check decides.
-- Assumes nothing.
use Rattle.std.proofs.Common.{rules}
use Rattle.unit_check.proofs.Whole.{check_laws, filled_least, filled_fills}
use Rattle.unit_check.proofs.check.Goals as goal

pub returns-then-not-filled : goal.returns-then-not-filled
returns-then-not-filled c = search check_laws depth 3

pub parts_of-parts-requires : goal.parts_of-parts-requires
parts_of-parts-requires c = search filled_least depth 3

pub tail_of-requires : goal.tail_of-requires
tail_of-requires c = search filled_fills depth 3

pub parts_check-requires : goal.parts_check-requires
parts_check-requires c = search filled_fills depth 3

pub returns : goal.returns
returns c = search check_laws depth 3

pub invariant_of-parts_check : goal.invariant_of-parts_check
invariant_of-parts_check c = record { fills = search filled_fills depth 3; words = search rules; starts = search rules }
