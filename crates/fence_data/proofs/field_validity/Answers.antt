-- `fence_data::field_validity` meets its contract: only of a decimal field the elements are looked at.
-- Assumes nothing.
use borrow.Author.Rules.{rules}
use Rattle.rules_unit.proofs.Sound.{passed_fills}
use Rattle.fence_data.proofs.Decimals.{field_decimal, field_other}
use Rattle.fence_data.proofs.field_validity.Goals as goal

pub returns-then-is_decimal : goal.returns-then-is_decimal
returns-then-is_decimal c = search field_decimal depth 3

pub returns : goal.returns
returns c = search field_other depth 3
