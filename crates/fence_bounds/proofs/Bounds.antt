-- The bounds that a reference takes are values.
-- Assumes nothing.
use Prim.Native.Nat.{◌^◌}
use Rattle.rules.specs.Values.{Val}
use Rattle.rules_unit.specs.declared.Form.{Form}
use Rattle.rules_unit.specs.declared.Form.TheVariants as form
use Rattle.rules_fence.specs.declared.Seen.{Seen}
use Rattle.fence_bounds.specs.Asked.{start_bound, Small}

pub start_small : (h : Form) (s : Seen) → Small s → Val (10 ^ 18) (start_bound h s)
start_small form.First s m = m.first
start_small form.Subscript s m = m.last
start_small form.StartEnd s m = m.first
start_small form.PosLength s m = m.first
