-- `run_loop::stretch` meets its contract: each turn of the loop is one step of `run_from`, and each way out is the end of a stretch.
-- The invariant: what is left of the run from here comes to what the whole run comes to; the count and the allowance left make those of the beginning, which is a
-- number of the code; the unit passed its check; the state is sound, and look is what is seen of it; the data has the length that it had, which is the
-- unit's. The measure: the allowance left. Where a loop is opened or closed, the invariant lies too far back to be searched for, and is named; so are
-- the loop's own test and that of the allowance.
-- Assumes nothing.
use Rattle.std.specs.Prelude.{Ok}
use Prim.Native.Nat.{◌+◌, ◌<◌, ◌≤◌}
use mathlib.Core.Path.{◌≡◌}
use lib.ListN.{length}
use Rattle.rules_unit.specs.Checks.{check_of}
use Rattle.rules_run.specs.States.{Sound, look_of}
use Rattle.rules_run.specs.Runs.{run_from}
use Rattle.run_loop.proofs.stretch.Given as goal
use Rattle.unit_decode.specs.Units.{code_in}

abbrev pub invariant-loop-s : goal.invariant-loop-s
invariant-loop-s l =
    (run_from (code_in l.coded) l.left l.s l.bytes l.count ≡ run_from (code_in l.coded) l.allowance l.initial.s l.initial.bytes l.done)
    × (l.done ≤ l.count)
    × (l.count + l.left ≡ l.done + l.allowance)
    × (l.done + l.allowance < 18446744073709551616)
    × (check_of l.coded.unit.now ≡ Ok l.coded.parts)
    × Sound (code_in l.coded) l.s
    × (l.look ≡ look_of l.s)
    × (length l.bytes ≡ length l.initial.bytes)
    × (length l.bytes ≡ l.coded.parts.d)

abbrev pub decreases-loop-s : goal.decreases-loop-s
decreases-loop-s l = l.left
