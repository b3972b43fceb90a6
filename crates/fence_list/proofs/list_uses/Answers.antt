-- `fence_list::list_uses` meets its contract: each turn lists the next use.
-- Assumes nothing.
use borrow.Author.Rules.{rules}
use Prim.Native.Nat.{◌-◌}
use mathlib.Core.Path.{refl}
use Rattle.fence_list.proofs.Statements.{uses_over, use_good, uses_on}
use Rattle.fence_list.proofs.list_uses.Goals as goal

pub loop-k-init : goal.loop-k-init
loop-k-init c = (refl, search rules, search rules, search rules)

pub list_use-n-requires-clause-u_value : goal.list_use-n-requires-clause-u_value
list_use-n-requires-clause-u_value c = search use_good depth 3

pub loop-k-preserved : goal.loop-k-preserved
loop-k-preserved c = (search uses_on depth 3, search rules, search rules, search rules)

pub returns-clause-fact : goal.returns-clause-fact
returns-clause-fact c = search uses_over depth 3
