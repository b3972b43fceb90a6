-- `rules_run::State::look` meets its contract: the loop opened last is seen, and none where none is open.
-- Assumes nothing.
use Rattle.rules_run.proofs.States.{look_laws}
use Rattle.rules_run.proofs.State.look.Goals as goal

pub returns-then-opened-eq0 : goal.returns-then-opened-eq0
returns-then-opened-eq0 c = search look_laws depth 3

pub returns : goal.returns
returns c = search look_laws depth 3
