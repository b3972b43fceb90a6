-- `number::multiply` meets its contract: the most that is allowed, divided by one magnitude, is below the other exactly where the
-- product is too long, and a product that is not too long fits a word.
-- Assumes nothing.
use mathlib.Core.Path.{◌≡◌, ap, ◌∙◌}
use Prim.Native.Nat.{◌<◌}
use native.Mathlib.Omega.{arith}
use borrow.Author.Tests.{lt-ltb}
use lib.IntN.{nat_abs, ◌*ℤ◌}
use mir.Syntax.{w64}
use mir.Val.{SFits}
use Rattle.rules.proofs.Signed.{back, op_fits, op_back, abs_fits}
use Rattle.number.proofs.Products.{product_over, product_under}
use Rattle.number.proofs.multiply.Goals as goal

pub returns-then-most-m : goal.returns-then-most-m
returns-then-most-m c =
    let s = c.before in
    let m : c.magnitude-m.result ≡ nat_abs c.args.a = c.magnitude-m.ensures ∙ ap nat_abs (back c.ranges.a) in
    let n : c.magnitude-n.result ≡ nat_abs c.args.b = c.magnitude-n.ensures ∙ ap nat_abs (back c.ranges.b) in
    simp (product_over s.args.top s.args.a s.args.b _ (rw m at c.if-m-eq0.false) (rw (m, n) at c.if-most-m.true) (omega (arith, s.requires.top.some)))

under : (c : goal.Else-most-m) → nat_abs (c.args.a *ℤ c.args.b) < c.args.top
under c =
    let s = c.before in
    let m : c.magnitude-m.result ≡ nat_abs c.args.a = c.magnitude-m.ensures ∙ ap nat_abs (back c.ranges.a) in
    let n : c.magnitude-n.result ≡ nat_abs c.args.b = c.magnitude-n.ensures ∙ ap nat_abs (back c.ranges.b) in
    product_under s.args.top s.args.a s.args.b _ (rw m at c.if-m-eq0.false) (rw (m, n) at c.if-most-m.false) (omega (arith, s.requires.top.some))

fit : (c : goal.Else-most-m) → SFits w64 (c.args.a *ℤ c.args.b)
fit c = abs_fits (omega (arith, under c, c.requires.top.most))

pub overflow_mul-result : goal.overflow_mul-result
overflow_mul-result c = let s = c.before in op_fits ◌*ℤ◌ s.ranges.a s.ranges.b (fit c)

pub returns : goal.returns
returns c =
    let s = c.before in
    simp (op_back ◌*ℤ◌ s.ranges.a s.ranges.b (fit c), lt-ltb _ _ (under c))
