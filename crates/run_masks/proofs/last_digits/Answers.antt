-- `run_masks::last_digits` meets its contract: a number has no digit past the table.
-- Assumes nothing.
use Rattle.rules.proofs.Signed.{pow_pos10}
use Rattle.run_characters.proofs.Digits.{left_all}
use Rattle.run_masks.proofs.last_digits.Goals as goal

pub returns-then-n-gt18 : goal.returns-then-n-gt18
returns-then-n-gt18 c = search left_all depth 3

pub nonzero_rem-result : goal.nonzero_rem-result
nonzero_rem-result c = rw c.power.ensures (pow_pos10 _)
