-- `run_spans::forward` meets its contract: a count past the size is past it all the more when it is multiplied, and any other is small.
-- Assumes nothing.
use Prim.Native.Nat.{◌+◌, ◌*◌}
use native.Mathlib.Omega.{arith}
use Rattle.rules.proofs.Sizes.{product}
use Rattle.rules_run.proofs.Located.{past}
use Rattle.run_spans.proofs.Finding.{grows}
use Rattle.run_spans.proofs.forward.Goals as goal

pub returns-then-size-k : goal.returns-then-size-k
returns-then-size-k c =
    let s = c.args in
    past s.size (s.offset + s.k * s.n) s.n (omega (arith, grows s.k s.n (omega arith)))

pub overflow_mul-k : goal.overflow_mul-k
overflow_mul-k c = omega (arith, product c.args.k c.args.n (omega arith) (omega arith))

pub overflow_add-offset : goal.overflow_add-offset
overflow_add-offset c = omega (arith, product c.args.k c.args.n (omega arith) (omega arith))
