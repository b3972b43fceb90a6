-- `run_spans::inside` meets its contract: at each `return` the tests say that the bytes go past the size, or that they lie inside.
-- Assumes nothing.
use native.Mathlib.Omega.{arith}
use Rattle.rules_run.proofs.Located.{past, found}
use Rattle.run_spans.proofs.inside.Goals as goal

pub returns-then-size-a : goal.returns-then-size-a
returns-then-size-a c = let s = c.args in past s.size s.a s.n (omega arith)

pub returns : goal.returns
returns c = let s = c.args in found s.size s.a s.n (omega arith)
