-- `number::power` meets its contract: the table has the power at each of its places.
-- Assumes nothing.
use Rattle.number.proofs.TenPowers.{powers_at}
use Rattle.number.proofs.power.Goals as goal

pub returns : goal.returns
returns c = powers_at c.args.k c.requires
