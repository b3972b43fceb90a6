-- `run_spans::subscript_span` meets its contract: the sign of s says on which side of the field's start its element stands.
-- Assumes nothing.
use mathlib.Core.Path.{◌≡◌, ◌∙◌, ap}
use lib.IntN.{pos, neg_ℤ}
use native.Mathlib.Omega.{arith}
use Rattle.rules.proofs.Signed.{again}
use Rattle.rules_run.proofs.Located.{subscript_none, subscript_up, subscript_down}
use Rattle.run_spans.proofs.Finding.{told, told_below}
use Rattle.run_spans.proofs.subscript_span.Goals as goal

pub returns-then-n-eq0 : goal.returns-then-n-eq0
returns-then-n-eq0 c =
    let s = c.args in
    c.inside.ensures ∙ subscript_none s.size s.offset s.n s.s c.if-n-eq0.true

pub magnitude-k-requires : goal.magnitude-k-requires
magnitude-k-requires c = omega (arith, (again c.requires.val).small)

pub overflow_add-k : goal.overflow_add-k
overflow_add-k c =
    omega (arith, told_below c.requires.val c.magnitude-k.ensures)

pub returns-then-is_neg : goal.returns-then-is_neg
returns-then-is_neg c =
    let down : c.args.s ≡ neg_ℤ (pos c.magnitude-k.result) = told c.ranges.s c.is_neg.ensures c.if-is_neg.true c.magnitude-k.ensures in
    let s = c.args in
    c.backward.ensures ∙ subscript_down s.size s.offset s.n c.magnitude-k.result (down)

pub returns-then-k-eq0 : goal.returns-then-k-eq0
returns-then-k-eq0 c =
    let up : c.args.s ≡ pos c.magnitude-k.result = told c.ranges.s c.is_neg.ensures c.if-is_neg.false c.magnitude-k.ensures in
    let s = c.args in
    c.backward-then-k-eq0.ensures ∙ subscript_down s.size s.offset s.n 0 (up ∙ ap pos c.if-k-eq0.true)

pub returns : goal.returns
returns c =
    let up : c.args.s ≡ pos c.magnitude-k.result = told c.ranges.s c.is_neg.ensures c.if-is_neg.false c.magnitude-k.ensures in
    let s = c.args in
    c.forward.ensures ∙ subscript_up s.size s.offset s.n (up) (omega arith)
