-- `text::from_alpha` meets its contract: each character is read as the rule reads it, and from top on the number itself no longer matters.
-- Assumes nothing.
use Rattle.std.specs.Prelude.{Ok}
use mathlib.Core.Path.{sym, ap, ◌∙◌}
use native.Mathlib.Omega.{arith}
use borrow.Author.Tests.{lt-ltb}
use Rattle.rules.proofs.Signed.{back, abs_signed}
use Rattle.text.proofs.Alpha.{At, at_space, at_plus, at_minus, at_twice, at_digit, at_low, at_high, at_end, kept_long, over}
use Rattle.text.proofs.from_alpha.Goals.{then-b-lt48-via-then-b-lt48, then-b-lt48-via-else-b-lt48+then-b-gt57, then-b-eq45+else-twice, else-b-eq45+then-b-ne32+then-b-ne43+else-b-lt48+else-b-gt57+then-acc-top, else-b-eq45+then-b-ne32+then-b-ne43+else-b-lt48+else-b-gt57+else-acc-top, else-b-eq45+then-b-ne32+else-b-ne43, else-b-eq45+else-b-ne32}
use Rattle.text.proofs.from_alpha.Goals as goal

pub returns-then-twice : goal.returns-then-twice
returns-then-twice c =
    let l = c.loop-x in
    let a = c.args in
    let here : At a.s.now l.x-index c.from-b.result = record { inside = c.loop-x-test.true; is = c.from-b.ensures } in
    sym (l.invariant ∙ at_twice a.top l.minus l.acc here c.if-b-eq45.true (cc))

pub returns-then-b-lt48 : goal.returns-then-b-lt48
returns-then-b-lt48 c =
    let l = c.loop-x in
    let a = c.args in
    let here : At a.s.now l.x-index c.from-b.result = record { inside = c.loop-x-test.true; is = c.from-b.ensures } in
    elim c.then-b-lt48.branch [
      | then-b-lt48-via-then-b-lt48 w ↦ sym (l.invariant ∙ at_low a.top l.minus l.acc here c.if-b-ne32.true c.if-b-ne43.true c.if-b-eq45.false w.if-b-lt48.true)
      | then-b-lt48-via-else-b-lt48+then-b-gt57 w ↦ sym (l.invariant ∙ at_high a.top l.minus l.acc here w.if-b-gt57.true)
    ]

pub loop-x-preserved : goal.loop-x-preserved
loop-x-preserved c =
    let a = c.args in
    let l = c.loop-x in
    let here : At a.s.now l.x-index c.from-b.result = record { inside = c.loop-x-test.true; is = c.from-b.ensures } in
    elim c.if-b-eq45.branch [
      | then-b-eq45+else-twice w ↦ rw (w.minus-is, w.acc-is) (l.invariant ∙ at_minus a.top l.minus l.acc here w.if-b-eq45.true w.if-twice.false)
      | else-b-eq45+then-b-ne32+then-b-ne43+else-b-lt48+else-b-gt57+then-acc-top w ↦ rw (w.minus-is, w.acc-is) (l.invariant ∙ at_digit a.top l.minus l.acc here w.if-b-lt48.false (omega arith))
      | else-b-eq45+then-b-ne32+then-b-ne43+else-b-lt48+else-b-gt57+else-acc-top w ↦ rw (w.minus-is, w.acc-is) (l.invariant ∙ at_digit a.top l.minus l.acc here w.if-b-lt48.false (omega arith) ∙ over a.top l.minus _ l.acc (omega arith) w.if-acc-top.false _)
      | else-b-eq45+then-b-ne32+else-b-ne43 w ↦ rw (w.minus-is, w.acc-is) (l.invariant ∙ at_plus a.top l.minus l.acc here w.if-b-ne43.false)
      | else-b-eq45+else-b-ne32 w ↦ rw (w.minus-is, w.acc-is) (l.invariant ∙ at_space a.top l.minus l.acc here w.if-b-ne32.false)
    ]

pub returns-then-acc-top-2 : goal.returns-then-acc-top-2
returns-then-acc-top-2 c =
    let a = c.args in
    let l = c.loop-x in
    let e = l.invariant ∙ at_end a.top l.minus l.acc l.x-index a.s.now (omega arith) in
    ap Ok (back (record { sfits = c.with_sign.type_inv }) ∙ c.with_sign.ensures) ∙ sym (e ∙ rw (abs_signed l.minus l.acc, lt-ltb l.acc a.top c.if-acc-top-2.true))

pub returns : goal.returns
returns c =
    let a = c.args in
    let l = c.loop-x in
    sym (l.invariant ∙ at_end a.top l.minus l.acc l.x-index a.s.now (omega arith) ∙ kept_long a.top l.minus l.acc c.if-acc-top-2.false)
