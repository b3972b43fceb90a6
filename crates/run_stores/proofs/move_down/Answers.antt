-- `run_stores::move_down` meets its contract: the byte that a turn moves stands before all that were written, so it is still as it was.
-- Assumes nothing.
use mathlib.Core.Path.{◌≡◌, ◌∙◌}
use native.Mathlib.Omega.{arith}
use Rattle.run_stores.proofs.Moving.{down_start, down_turn, down_end}
use Rattle.run_stores.proofs.move_down.Goals as goal

pub loop-i-init : goal.loop-i-init
loop-i-init c = down_start c.args.bytes.now c.args.to c.args.from c.args.n

pub loop-i-preserved : goal.loop-i-preserved
loop-i-preserved c =
    let a = c.args in
    let l = c.loop-i in
    rw l.invariant (down_turn a.bytes.now a.to a.from a.n l.i (omega arith) (omega arith) (omega arith) (omega arith))

pub returns : goal.returns
returns c =
    let a = c.args in
    let l = c.loop-i in
    let e : l.i ≡ 0 = omega arith in
    l.invariant ∙ rw e (down_end a.bytes.now a.to a.from a.n)
