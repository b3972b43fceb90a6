-- `unit_sorts::digits` meets its contract: it stops at the first character that is no digit, and the rule answers the same from there on.
-- The invariant: what is left gives the answer of the whole.
-- Assumes nothing.
use mathlib.Core.Path.{◌≡◌}
use lib.ListN.{drop}
use Rattle.rules_unit.specs.Expressions.{digitsb}
use Rattle.unit_sorts.proofs.digits.Given as goal

abbrev pub invariant-loop-b : goal.invariant-loop-b
invariant-loop-b l = digitsb (drop l.b-index l.s) ≡ digitsb l.s
