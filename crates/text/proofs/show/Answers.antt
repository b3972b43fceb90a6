-- `text::show` meets its contract: each character goes by its place, counted from the right.
-- Assumes nothing.
use mathlib.Core.Path.{◌≡◌, ap, ◌∙◌}
use native.Mathlib.Omega.{arith}
use Prim.Native.Nat.{◌-◌}
use lib.ListN.{length}
use Rattle.rules.specs.Moves.{shown_at}
use Rattle.text.proofs.Writing.{right_start, right_next}
use Rattle.text.proofs.show.Goals as goal

pub loop-i-init : goal.loop-i-init
loop-i-init c = right_start (shown_at c.is_neg-neg.result c.magnitude-m.result c.width_of-w.result) c.args.s.now

pub loop-i-preserved : goal.loop-i-preserved
loop-i-preserved c =
    let l = c.loop-i in
    let n = length c.args.s.now in
    let at = shown_at c.is_neg-neg.result c.magnitude-m.result c.width_of-w.result in
    let k : n - 1 - (l.i - 1) ≡ n - l.i = omega arith in
    right_next at n l.s l.i _ (omega arith) (omega arith) l.auto.s (c.shown_at.ensures ∙ ap at k) l.invariant
