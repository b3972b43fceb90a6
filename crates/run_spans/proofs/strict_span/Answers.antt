-- `run_spans::strict_span` meets its contract: each way of binding a reference has its own function, and with bounds what it finds is held to the field.
-- Assumes nothing.
use Rattle.run_spans.proofs.Finding.{strict_first, strict_subscript, strict_start_end, strict_pos_length}
use Rattle.run_spans.proofs.strict_span.Goals as goal

pub returns-in-First : goal.returns-in-First
returns-in-First c = search strict_first depth 3

pub returns-in-Subscript : goal.returns-in-Subscript
returns-in-Subscript c = search strict_subscript depth 3

pub returns-in-StartEnd : goal.returns-in-StartEnd
returns-in-StartEnd c = search strict_start_end depth 3

pub returns-in-PosLength : goal.returns-in-PosLength
returns-in-PosLength c = search strict_pos_length depth 3
