-- `run_evaluate::text_step` meets its contract: the literal is cut, or last, or stands where none may.
-- Assumes nothing.
use Rattle.run_evaluate.proofs.Steps.{text_short, text_last, text_inner}
use Rattle.run_evaluate.proofs.text_step.Goals as goal

pub returns-then-es-i-le4 : goal.returns-then-es-i-le4
returns-then-es-i-le4 c = search text_short depth 3

pub returns-then-ends : goal.returns-then-ends
returns-then-ends c = search text_last depth 3

pub returns : goal.returns
returns c = search text_inner depth 3
