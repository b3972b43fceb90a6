-- `fence_data::is_valid` meets its contract: a decimal reads as a number exactly when it is valid.
-- Assumes nothing.
use Rattle.fence_data.proofs.Decimals.{valid_value, valid_failed}
use Rattle.fence_data.proofs.is_valid.Goals as goal

pub returns-in-Ok : goal.returns-in-Ok
returns-in-Ok c = search valid_value depth 3

pub returns-in-Err : goal.returns-in-Err
returns-in-Err c = search valid_failed depth 3
