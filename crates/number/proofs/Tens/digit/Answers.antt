-- `number::Tens::digit` meets its contract: a power of ten is no divisor 0.
-- Assumes nothing.
use Rattle.rules.proofs.Signed.{pow_pos10}
use Rattle.number.proofs.Tens.digit.Goals as goal

pub nonzero_div-result : goal.nonzero_div-result
nonzero_div-result c = rw c.power.ensures (search pow_pos10)
