-- Plain digits as the code reads them, in one pass.
--   plain_from acc s    the number that the digits s make after those of acc; Malformed where a character is no digit
-- Assumes nothing.
use Rattle.rules.specs.declared.Fault.{Fault}
use Rattle.std.specs.Prelude.{cond, List, ℕ, pos, Result, ℤ, Err, Ok}
use Rattle.rules.specs.declared.Fault.TheVariants as fault
use Rattle.rules_unit.specs.Expressions.{digitsb}
use Rattle.rules_run.specs.Evaluation.{digits_from}

unfoldable pub plain_from : ℕ → List ℕ → Result ℤ Fault
plain_from acc s = cond (digitsb s) (Ok (pos (digits_from acc s))) (Err fault.Malformed)
