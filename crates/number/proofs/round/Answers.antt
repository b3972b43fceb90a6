-- `number::round` meets its contract: the power that it divides by is not 0.
-- Assumes nothing.
use Rattle.rules.proofs.Signed.{pow_pos10}
use Rattle.number.proofs.round.Goals as goal

pub nonzero_div-magnitude : goal.nonzero_div-magnitude
nonzero_div-magnitude c = rw c.power-p.ensures (pow_pos10 _)
