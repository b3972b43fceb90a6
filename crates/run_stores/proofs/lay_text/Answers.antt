-- `run_stores::lay_text` meets its contract: what fits is moved as if it had been copied away first, and spaces go before any text that is shorter once it is moved.
-- Assumes nothing.
use mathlib.Core.Path.{◌∙◌}
use native.Mathlib.Omega.{arith}
use Rattle.run_stores.proofs.Moving.{cut_left, spaced}
use Rattle.run_stores.proofs.lay_text.Goals as goal

pub returns-then-len-count : goal.returns-then-len-count
returns-then-len-count c =
    let s = c.args in
    c.shift.ensures ∙ cut_left s.bytes.now s.start s.len s.from s.count (omega arith) (omega arith)

pub returns : goal.returns
returns c =
    let s = c.args in
    let x = c.shift-2 in
    let y = c.fill in
    rw x.ensures
    (spaced s.bytes.now s.start s.len s.from s.count y.new.s (omega arith) (omega arith) (omega arith)
    (rw x.ensures at y.ensures))
