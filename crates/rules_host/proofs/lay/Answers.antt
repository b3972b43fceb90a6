-- `rules_host::lay` meets its contract: as many values as both have are copied to the front.
-- Assumes nothing.
use native.Mathlib.Omega.{arith}
use Rattle.rules_host.proofs.Laid.{laid_front}
use Rattle.rules_host.proofs.lay.Goals as goal

pub returns : goal.returns
returns g c = laid_front c.args.from.now c.args.to.now c.copy_from_slice.new.self c.min-n.result (omega arith) (grind arith)
