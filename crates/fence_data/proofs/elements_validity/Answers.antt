-- `fence_data::elements_validity` meets its contract: the elements passed are valid, and the one at which it stops is not.
-- Assumes nothing.
use Prim.Native.Nat.{◌-◌}
use Rattle.rules_unit.proofs.Statements.{left_all}
use Rattle.fence_data.proofs.Decimals.{element_within, elements_over, elements_stop, elements_on}
use Rattle.fence_data.proofs.elements_validity.Goals as goal

pub loop-k-init : goal.loop-k-init
loop-k-init c = rw left_all

pub element_valid-requires-clause-k_bound : goal.element_valid-requires-clause-k_bound
element_valid-requires-clause-k_bound c = search element_within depth 3

pub returns-then-not-element_valid : goal.returns-then-not-element_valid
returns-then-not-element_valid c = search elements_stop depth 3

pub loop-k-preserved : goal.loop-k-preserved
loop-k-preserved c = search elements_on depth 3

pub returns : goal.returns
returns c = search elements_over depth 3
