-- `run_passes::fits` meets its contract: a value fits where its magnitude is below the power of ten of the length.
-- Assumes nothing.
use Rattle.run_passes.proofs.Values.{small_again, fits_by}
use Rattle.run_passes.proofs.fits.Goals as goal

pub magnitude-requires : goal.magnitude-requires
magnitude-requires c = search small_again depth 3

pub returns : goal.returns
returns c = search fits_by depth 3
