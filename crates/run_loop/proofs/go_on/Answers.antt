-- `run_loop::go_on` meets its contract: each stretch is a part of the run, and the error that ends one and is trapped is one step more.
-- unit passed its check; the state is sound; the data has the length that it had, which is the unit's. The measure: the allowance left.
-- Assumes nothing.
use Prim.Native.Nat.{◌-◌}
use borrow.Author.Rules.{rules}
use Rattle.run_loop.proofs.Stretches.{next_length, last_stops, next_count, next_fits, next_less, stretch_on}
use Rattle.run_loop.proofs.go_on.Goals as goal

pub loop-out-init : goal.loop-out-init
loop-out-init c = (search rules, search rules, search rules, search rules, search rules, search rules, search rules)

pub shape_of-bytes-in-Stops : goal.shape_of-bytes-in-Stops
shape_of-bytes-in-Stops c = search (next_length, rules) depth 3

pub returns-in-Stops : goal.returns-in-Stops
returns-in-Stops c = search last_stops depth 3

pub overflow_add-count : goal.overflow_add-count
overflow_add-count c = search next_fits depth 3

pub loop-out-smaller : goal.loop-out-smaller
loop-out-smaller c = search next_less depth 3

pub loop-out-preserved : goal.loop-out-preserved
loop-out-preserved c = (search stretch_on depth 3, search next_count depth 3, search rules, search rules, search stretch_on depth 3, search next_length depth 3, search next_length depth 3)
