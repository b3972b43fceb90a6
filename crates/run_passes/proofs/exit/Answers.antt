-- `run_passes::exit` meets its contract: where a loop is open, its entry is a statement of the unit, and so is the loop end that it names.
-- Assumes nothing.
use Rattle.run_passes.proofs.Passes.{last_low, last_behind, exits_none, exits_out}
use Rattle.run_passes.proofs.exit.Goals as goal

pub returns-then-look-eq0 : goal.returns-then-look-eq0
returns-then-look-eq0 c = search exits_none depth 3

pub statement-s-requires : goal.statement-s-requires
statement-s-requires c = search last_low depth 3

pub overflow_add-s : goal.overflow_add-s
overflow_add-s c = search last_behind depth 3

pub returns : goal.returns
returns c = search exits_out depth 3
