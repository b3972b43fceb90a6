-- `run_passes::enter_limit` meets its contract: the number that the expression comes to is the limit, and the step stands behind it; or its fault stands.
-- Assumes nothing.
use Rattle.std.proofs.Common.{rules, ◌≡◌, Err}
use Rattle.run_passes.proofs.Entries.{limit_known, limit_failed}
use Rattle.run_passes.proofs.enter_limit.Goals as goal

pub returns-in_err-limit : goal.returns-in_err-limit
returns-in_err-limit c =
    let was = c.in_err-limit.was in
    let same : c.from_residual.result ≡ Err c.in_err-limit.field-0.0 = search rules in
    search limit_failed depth 3

pub returns : goal.returns
returns c = let was = c.in_ok-limit.was in search limit_known depth 3
