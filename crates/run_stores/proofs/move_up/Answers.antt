-- `run_stores::move_up` meets its contract: the byte that a turn moves stands behind all that were written, so it is still as it was.
-- Assumes nothing.
use mathlib.Core.Path.{◌≡◌, ◌∙◌}
use native.Mathlib.Omega.{arith}
use Rattle.run_stores.proofs.Moving.{up_start, up_turn}
use Rattle.run_stores.proofs.move_up.Goals as goal

pub loop-i-init : goal.loop-i-init
loop-i-init c = up_start c.args.bytes.now c.args.to c.args.from

pub loop-i-preserved : goal.loop-i-preserved
loop-i-preserved c =
    let a = c.args in
    let l = c.loop-i in
    rw l.invariant (up_turn a.bytes.now a.to a.from l.i (omega arith) (omega arith))

pub returns : goal.returns
returns c =
    let l = c.loop-i in
    let e : l.i ≡ c.args.n = omega arith in
    l.invariant ∙ rw e
