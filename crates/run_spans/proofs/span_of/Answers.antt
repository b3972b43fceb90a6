-- `run_spans::span_of` meets its contract: each way of binding a reference has its own function, and the rule goes by the same four.
-- Assumes nothing.
use mathlib.Core.Path.{◌∙◌}
use Rattle.run_spans.proofs.Finding.{span_first, span_subscript, span_start_end, span_pos_length}
use Rattle.run_spans.proofs.span_of.Goals as goal

pub returns-in-First : goal.returns-in-First
returns-in-First c =
    let s = c.args in
    c.inside.ensures ∙ span_first s.size s.field s.x s.y c.in-First.is

pub returns-in-Subscript : goal.returns-in-Subscript
returns-in-Subscript c =
    let s = c.args in
    let f = c.ranges in
    c.subscript_span.ensures ∙ span_subscript s.size s.field s.x s.y c.in-Subscript.is f.x

pub returns-in-StartEnd : goal.returns-in-StartEnd
returns-in-StartEnd c =
    let s = c.args in
    let f = c.ranges in
    c.start_end_span.ensures ∙ span_start_end s.size s.field s.x s.y c.in-StartEnd.is f.x f.y

pub returns-in-PosLength : goal.returns-in-PosLength
returns-in-PosLength c =
    let s = c.args in
    let f = c.ranges in
    c.pos_length_span.ensures ∙ span_pos_length s.size s.field s.x s.y c.in-PosLength.is f.x f.y
