-- `text::read` meets its contract: spaces are passed over, and the rest is read as the rule reads it.
-- Assumes nothing.
use mathlib.Core.Path.{sym, ◌∙◌}
use native.Mathlib.Omega.{arith}
use Rattle.std.proofs.Common.{rules}
use Rattle.text.proofs.Reading.{read_empty, read_long, read_start, padded_on, padded_figures, padded_empty}
use Rattle.text.proofs.read.Goals as goal

pub returns-then-is_empty : goal.returns-then-is_empty
returns-then-is_empty c = let a = c.args in sym (read_empty a.limit a.sign a.s.now (search rules))

pub returns-then-limit-s : goal.returns-then-limit-s
returns-then-limit-s c = let a = c.args in sym (read_long a.limit a.sign a.s.now c.if-limit-s.true)

pub loop-from-init : goal.loop-from-init
loop-from-init c = let a = c.args in read_start a.limit a.sign a.s.now (search rules) c.if-limit-s.false

pub returns-then-other : goal.returns-then-other
returns-then-other c =
    let a = c.args in
    c.figures.ensures ∙ sym (c.loop-from.invariant ∙ padded_figures a.sign a.s.now c.loop-from.from c.loop-from-test.true c.if-other.true)

pub loop-from-preserved : goal.loop-from-preserved
loop-from-preserved c = let a = c.args in c.loop-from.invariant ∙ padded_on a.sign a.s.now c.loop-from.from c.loop-from-test.true c.if-other.false

pub returns : goal.returns
returns c = let a = c.args in sym (c.loop-from.invariant ∙ padded_empty a.sign a.s.now c.loop-from.from (omega arith))
