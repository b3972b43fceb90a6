-- `unit_check::gotos` meets its contract: the statements passed are GOTO statements, and the one at which it refuses is none.
-- The invariant: what is left gives the answer of the whole.
-- Assumes nothing.
use Prim.Native.Nat.{◌+◌, ◌-◌}
use mathlib.Core.Path.{◌≡◌}
use Rattle.rules_unit.specs.Checks.{gotosb}
use Rattle.unit_check.proofs.gotos.Given as goal
use Rattle.unit_decode.specs.Units.{code_in}

abbrev pub invariant-loop-j : goal.invariant-loop-j
invariant-loop-j l = gotosb (code_in l.coded) (l.i + l.n - l.j) l.j ≡ gotosb (code_in l.coded) l.n l.i
