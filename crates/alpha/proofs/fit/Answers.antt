-- `alpha::fit` meets its contract: what fits is copied byte by byte, and spaces fill the rest.
-- Assumes nothing.
use mathlib.Core.Path.{refl}
use native.Mathlib.Omega.{arith}
use lib.ListN.{length}
use Rattle.alpha.proofs.Fitting.{copy_next, fit_end}
use Rattle.alpha.proofs.fit.Goals as goal

pub loop-i-init : goal.loop-i-init
loop-i-init c = refl

pub loop-i-preserved : goal.loop-i-preserved
loop-i-preserved c = copy_next c.loop-i.s c.args.from.now c.loop-i.i (omega arith) (omega arith) c.loop-i.invariant

pub returns : goal.returns
returns c =
    let l = c.loop-i in
    fit_end l.s c.args.from.now c.fill.new.self (length c.args.s.now) c.min-n.result l.i l.auto.s (grind arith) l.auto.i-end c.loop-i-test.false l.invariant (c.fill.ensures.after (λ y e. e))
