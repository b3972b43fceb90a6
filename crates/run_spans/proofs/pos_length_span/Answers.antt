-- `run_spans::pos_length_span` meets its contract: bounds that are none are told by their signs, and the sign of n says whether p is the first byte or the last.
-- Assumes nothing.
use Rattle.std.specs.Prelude.{None}
use mathlib.Core.Path.{◌≡◌, ◌∙◌, ap}
use Prim.Native.Nat.{ℕ, ◌+◌, ◌-◌}
use lib.IntN.{pos, neg_ℤ}
use lib.Signed.{le_z}
use borrow.Author.Rules.{rules}
use native.Mathlib.Omega.{arith}
use Rattle.rules.proofs.Signed.{again}
use Rattle.rules_run.specs.Spans.{within}
use Rattle.rules_run.proofs.Located.{before, after, pos_length_low, pos_length_none, pos_length_up, pos_length_down}
use Rattle.run_spans.proofs.Finding.{told, told_none, told_zero, told_below}
use Rattle.run_spans.proofs.pos_length_span.Goals as goal
use Rattle.run_spans.proofs.pos_length_span.Goals.{then-a-eq0-via-then-a-eq0, then-a-eq0-via-else-a-eq0+then-k-eq0}

pub returns-then-is_neg : goal.returns-then-is_neg
returns-then-is_neg c =
    let s = c.args in
    pos_length_low s.size s.offset s.p s.n (told_none c.ranges.p c.is_neg.ensures c.if-is_neg.true)

pub magnitude-a-requires : goal.magnitude-a-requires
magnitude-a-requires c = omega (arith, (again c.requires.val).small)

pub magnitude-k-requires : goal.magnitude-k-requires
magnitude-k-requires c = omega (arith, (again c.requires.val_2).small)

pub returns-then-a-eq0 : goal.returns-then-a-eq0
returns-then-a-eq0 c =
    let s = c.args in
    let place : s.p ≡ pos c.magnitude-a.result = told c.ranges.p c.is_neg.ensures c.if-is_neg.false c.magnitude-a.ensures in
    elim c.then-a-eq0.branch [
      | then-a-eq0-via-then-a-eq0 w ↦ pos_length_low s.size s.offset s.p s.n (ap (le_z (pos 1)) (place ∙ ap pos w.if-a-eq0.true))
      | then-a-eq0-via-else-a-eq0+then-k-eq0 w ↦ pos_length_none s.size s.offset s.p (told_zero c.ranges.n c.magnitude-k.ensures w.if-k-eq0.true)
    ]

pub overflow_add-offset : goal.overflow_add-offset
overflow_add-offset c = omega (arith, told_below c.requires.val c.magnitude-a.ensures)

pub returns-in_err-checked_sub : goal.returns-in_err-checked_sub
returns-in_err-checked_sub c =
    let place : c.args.p ≡ pos c.magnitude-a.result = told c.ranges.p c.is_neg.ensures c.if-is_neg.false c.magnitude-a.ensures in
    let down : c.args.n ≡ neg_ℤ (pos c.magnitude-k.result) = told c.ranges.n c.is_neg-2.ensures c.if-is_neg-2.true c.magnitude-k.ensures in
    let s = c.args in
    let same : c.from_residual.result ≡ None = search rules in
    same
    ∙ before s.size (s.offset + c.magnitude-a.result) c.magnitude-k.result c.magnitude-k.result (grind arith)
    ∙ pos_length_down s.size s.offset c.magnitude-k.result (place) (down) (omega arith) (omega arith)

pub returns-then-is_neg-2 : goal.returns-then-is_neg-2
returns-then-is_neg-2 c =
    let place : c.args.p ≡ pos c.magnitude-a.result = told c.ranges.p c.is_neg.ensures c.if-is_neg.false c.magnitude-a.ensures in
    let down : c.args.n ≡ neg_ℤ (pos c.magnitude-k.result) = told c.ranges.n c.is_neg-2.ensures c.if-is_neg-2.true c.magnitude-k.ensures in
    let s = c.args in
    let start : c.in_ok-checked_sub.field-0 ≡ s.offset + c.magnitude-a.result - c.magnitude-k.result = omega arith in
    c.inside.ensures
    ∙ ap (λ (i : ℕ). within s.size (pos i) c.magnitude-k.result) start
    ∙ after s.size (s.offset + c.magnitude-a.result) c.magnitude-k.result c.magnitude-k.result (omega arith)
    ∙ pos_length_down s.size s.offset c.magnitude-k.result (place) (down) (omega arith) (omega arith)

pub overflow_add-offset-2 : goal.overflow_add-offset-2
overflow_add-offset-2 c = omega (arith, told_below c.requires.val c.magnitude-a.ensures)

pub returns : goal.returns
returns c =
    let place : c.args.p ≡ pos c.magnitude-a.result = told c.ranges.p c.is_neg.ensures c.if-is_neg.false c.magnitude-a.ensures in
    let up : c.args.n ≡ pos c.magnitude-k.result = told c.ranges.n c.is_neg-2.ensures c.if-is_neg-2.false c.magnitude-k.ensures in
    let s = c.args in
    c.inside-2.ensures ∙ pos_length_up s.size s.offset (place) (up) (omega arith) (omega arith)
