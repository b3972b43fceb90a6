-- `run_passes::pass_flow` meets its contract: the test is the rule's own.
-- Assumes nothing.
use mir.Facts.{to_z-of_z}
use Rattle.run_passes.proofs.Passes.{flow_again, flow_out}
use Rattle.run_passes.proofs.pass_flow.Goals as goal

pub returns-then-test : goal.returns-then-test
returns-then-test c = search (flow_again, to_z-of_z) depth 3

pub returns : goal.returns
returns c = search (flow_out, to_z-of_z) depth 3
