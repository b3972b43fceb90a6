-- `text::put_digits` meets its contract: each digit goes by its place, counted from the right.
-- Assumes nothing.
use native.Mathlib.Omega.{arith}
use Prim.Native.Nat.{◌-◌}
use lib.ListN.{length}
use Rattle.rules.specs.Moves.{digit_at}
use Rattle.text.proofs.Writing.{right_start, right_next, left_start, left_next, digit_left}
use Rattle.text.proofs.put_digits.Goals as goal

pub loop-i-init : goal.loop-i-init
loop-i-init c = let a = c.args in (left_start a.m (length a.s.now), right_start (digit_at 48 a.m) a.s.now)

pub loop-i-preserved : goal.loop-i-preserved
loop-i-preserved c =
    let l = c.loop-i in
    let a = c.args in
    let n = length a.s.now in (
      left_next a.m n l.left l.i (omega arith) (omega arith) l.invariant.0,
      right_next (digit_at 48 a.m) n l.s l.i _ (omega arith) (omega arith) l.auto.s (digit_left a.m l.left (n - l.i) l.invariant.0) l.invariant.1,
    )
