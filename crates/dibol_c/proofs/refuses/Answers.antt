-- `dibol_c::refuses` meets its contract: 1 to 7, tested at both ends.
-- Assumes nothing.
use Rattle.rules.proofs.Walk.{walk}
use Rattle.rules_host.specs.Calls.{refusedb}
use Rattle.dibol_c.proofs.refuses.Goals as goal

pub returns-then-stop-lt1 : goal.returns-then-stop-lt1
unfolding refusedb
returns-then-stop-lt1 c = search walk depth 4

pub returns : goal.returns
unfolding refusedb
returns c = search walk depth 4
