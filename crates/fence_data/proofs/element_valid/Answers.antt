-- `fence_data::element_valid` meets its contract: the part of the data that it reads is the element.
-- Assumes nothing.
use Rattle.rules_unit.proofs.Sound.{passed_fills}
use Rattle.fence_data.proofs.Decimals.{limit_fits, letters_fit, element_low, element_high, element_by}
use Prim.Native.Nat.{◌+◌, ◌*◌, ◌≤◌}
use native.Mathlib.Omega.{arith}
use borrow.Author.Rules.{rules}
use Rattle.fence_data.proofs.element_valid.Goals as goal

pub slice_bounds-is_valid-end : goal.slice_bounds-is_valid-end
slice_bounds-is_valid-end c = search element_high depth 3

pub is_valid-requires-clause-limit : goal.is_valid-requires-clause-limit
is_valid-requires-clause-limit c = search limit_fits depth 3

pub is_valid-requires-clause-letters : goal.is_valid-requires-clause-letters
is_valid-requires-clause-letters c = search letters_fit depth 3

pub returns : goal.returns
returns c = search element_by depth 3
