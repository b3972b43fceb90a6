-- `run_loop::go_on` meets its contract: each stretch is a part of the run, and the error that ends one and is trapped is one step more.
-- The invariant: what is left of the run from here comes to what it came to at the beginning; the count is within the allowance, which is a number of the code; the
-- unit passed its check; the state is sound; the data has the length that it had, which is the unit's. The measure: the allowance left.
-- Assumes nothing.
use Rattle.std.specs.Prelude.{Ok}
use Prim.Native.Nat.{◌-◌, ◌<◌, ◌≤◌}
use mathlib.Core.Path.{◌≡◌}
use lib.ListN.{length}
use Rattle.rules_unit.specs.Checks.{check_of}
use Rattle.rules_run.specs.States.{Sound}
use Rattle.rules_run.specs.Runs.{run_from}
use Rattle.run_loop.proofs.go_on.Given as goal
use Rattle.unit_decode.specs.Units.{code_in}

abbrev pub invariant-loop-out : goal.invariant-loop-out
invariant-loop-out l =
    (run_from (code_in l.coded) (l.allowance - l.count) l.s l.bytes l.count ≡ run_from (code_in l.coded) (l.allowance - l.initial.count) l.initial.s l.initial.bytes l.initial.count)
    × (l.count ≤ l.allowance)
    × (l.allowance < 18446744073709551616)
    × (check_of l.coded.unit.now ≡ Ok l.coded.parts)
    × Sound (code_in l.coded) l.s
    × (length l.bytes ≡ length l.initial.bytes)
    × (length l.bytes ≡ l.coded.parts.d)

abbrev pub decreases-loop-out : goal.decreases-loop-out
decreases-loop-out l = l.allowance - l.count
