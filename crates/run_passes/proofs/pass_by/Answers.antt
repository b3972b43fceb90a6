-- `run_passes::pass_by` meets its contract: the step is in the range of values, and so is the sum; or the fault stands.
-- Assumes nothing.
use Rattle.std.proofs.Common.{rules, ◌≡◌, Err}
use mir.Facts.{to_z-of_z}
use Rattle.run_passes.proofs.Passes.{sum_known, sum_failed}
use Rattle.run_passes.proofs.pass_by.Goals as goal

pub returns-in_err-v : goal.returns-in_err-v
returns-in_err-v c =
    let was = c.in_err-v.was in
    let same : c.from_residual.result ≡ Err c.in_err-v.field-0.0 = search rules in
    search (sum_failed, to_z-of_z) depth 3

pub returns : goal.returns
returns c = let was = c.in_ok-v.was in search (sum_known, to_z-of_z) depth 3
