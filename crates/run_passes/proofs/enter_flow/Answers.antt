-- `run_passes::enter_flow` meets its contract: the test is the rule's own.
-- Assumes nothing.
use Rattle.run_passes.proofs.Entries.{flow_in, flow_over}
use Rattle.run_passes.proofs.enter_flow.Goals as goal

pub returns-then-test : goal.returns-then-test
returns-then-test c = search flow_in depth 3

pub returns : goal.returns
returns c = search flow_over depth 3
