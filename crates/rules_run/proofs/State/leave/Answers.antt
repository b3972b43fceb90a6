-- `rules_run::State::leave` meets its contract: the slot of the loop opened last becomes zero.
-- Assumes nothing.
use Rattle.rules_run.proofs.State.leave.Goals as goal

pub returns : goal.returns
returns c = cc
