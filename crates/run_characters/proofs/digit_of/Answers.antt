-- `run_characters::digit_of` meets its contract: past the table the digit is 0; in it the place's power of ten tells the digit.
-- Assumes nothing.
use Rattle.rules.specs.Masks.{digit_of}
use Rattle.run_characters.proofs.Digits.{digit_past}
use Rattle.run_characters.proofs.digit_of.Goals as goal

pub returns-then-q-gt18-clause-value : goal.returns-then-q-gt18-clause-value
returns-then-q-gt18-clause-value c = search digit_past depth 3

pub returns-clause-value : goal.returns-clause-value
unfolding digit_of
returns-clause-value c = cc
