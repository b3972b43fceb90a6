-- `fence_data::fields_validity` meets its contract: the fields passed are valid, and the one at which it stops is not.
-- Assumes nothing.
use borrow.Author.Rules.{rules}
use Prim.Native.Nat.{◌-◌}
use Rattle.rules_unit.proofs.Statements.{left_all}
use Rattle.fence_data.proofs.Decimals.{fields_over, fields_stop, fields_on}
use Rattle.fence_data.proofs.fields_validity.Goals as goal

pub returns-then-not-is_all : goal.returns-then-not-is_all
returns-then-not-is_all c = search fields_stop depth 3

pub loop-f-preserved : goal.loop-f-preserved
loop-f-preserved c = search fields_on depth 3

pub returns : goal.returns
returns c = search fields_over depth 3
