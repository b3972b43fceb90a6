-- `run_passes::enter_step` meets its contract: the number that the expression comes to is the step, or its fault stands.
-- Assumes nothing.
use Rattle.std.proofs.Common.{rules, ◌≡◌, Err}
use Rattle.run_passes.proofs.Entries.{step_known, step_failed}
use Rattle.run_passes.proofs.enter_step.Goals as goal

pub returns-in_err-step : goal.returns-in_err-step
returns-in_err-step c =
    let was = c.in_err-step.was in
    let same : c.from_residual.result ≡ Err c.in_err-step.field-0.0 = search rules in
    search step_failed depth 3

pub returns : goal.returns
returns c = let was = c.in_ok-step.was in search step_known depth 3
