-- `run_spans::start_end_span` meets its contract: bounds that are none are told by their signs and their order, and all others count from the field's start.
-- Assumes nothing.
use mathlib.Core.Path.{◌≡◌, ◌∙◌, ap}
use lib.IntN.{pos}
use lib.Signed.{le_z}
use native.Mathlib.Omega.{arith}
use Rattle.rules.proofs.Signed.{again}
use Rattle.rules_run.proofs.Located.{start_end_low, start_end_turned, start_end_end, start_end_is}
use Rattle.run_spans.proofs.Finding.{told, told_none, told_below}
use Rattle.run_spans.proofs.start_end_span.Goals as goal
use Rattle.run_spans.proofs.start_end_span.Goals.{then-is_neg-via-then-is_neg, then-is_neg-via-else-is_neg+then-is_neg-2, then-a-eq0-via-then-a-eq0, then-a-eq0-via-else-a-eq0+then-b-a}

pub returns-then-is_neg : goal.returns-then-is_neg
returns-then-is_neg c =
    let s = c.args in
    elim c.then-is_neg.branch [
      | then-is_neg-via-then-is_neg w ↦ start_end_low s.size s.offset s.s s.e (told_none c.ranges.s c.is_neg.ensures w.if-is_neg.true)
      | then-is_neg-via-else-is_neg+then-is_neg-2 w ↦ start_end_end s.size s.offset s.s s.e (told_none c.ranges.e w.is_neg-else-is_neg.ensures w.if-is_neg-2.true)
    ]

pub magnitude-a-requires : goal.magnitude-a-requires
magnitude-a-requires c = omega (arith, (again c.requires.val).small)

pub magnitude-b-requires : goal.magnitude-b-requires
magnitude-b-requires c = omega (arith, (again c.requires.val_2).small)

pub returns-then-a-eq0 : goal.returns-then-a-eq0
returns-then-a-eq0 c =
    let s = c.args in
    let first : s.s ≡ pos c.magnitude-a.result = told c.ranges.s c.is_neg.ensures c.if-is_neg.false c.magnitude-a.ensures in
    let last : s.e ≡ pos c.magnitude-b.result = told c.ranges.e c.is_neg-else-is_neg.ensures c.if-is_neg-2.false c.magnitude-b.ensures in
    elim c.then-a-eq0.branch [
      | then-a-eq0-via-then-a-eq0 w ↦ start_end_low s.size s.offset s.s s.e (ap (le_z (pos 1)) (first ∙ ap pos w.if-a-eq0.true))
      | then-a-eq0-via-else-a-eq0+then-b-a w ↦ start_end_turned s.size s.offset (first) (last) (omega arith)
    ]

pub overflow_add-offset : goal.overflow_add-offset
overflow_add-offset c = omega (arith, told_below c.requires.val c.magnitude-a.ensures)

pub overflow_add-b : goal.overflow_add-b
overflow_add-b c = omega (arith, told_below c.requires.val_2 c.magnitude-b.ensures)

pub returns : goal.returns
returns c =
    let first : c.args.s ≡ pos c.magnitude-a.result = told c.ranges.s c.is_neg.ensures c.if-is_neg.false c.magnitude-a.ensures in
    let last : c.args.e ≡ pos c.magnitude-b.result = told c.ranges.e c.is_neg-else-is_neg.ensures c.if-is_neg-2.false c.magnitude-b.ensures in
    let s = c.args in
    c.inside.ensures ∙ start_end_is s.size s.offset (first) (last) (omega arith) (omega arith)
