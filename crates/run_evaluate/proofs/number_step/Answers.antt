-- `run_evaluate::number_step` meets its contract: the literal is cut, or finds no room, or its value is held.
-- Assumes nothing.
use lib.Dec.{lit≤}
use Rattle.run_evaluate.proofs.Steps.{number_short, number_over, number_held}
use Rattle.run_evaluate.proofs.number_step.Goals as goal

pub returns-then-es-i-le3 : goal.returns-then-es-i-le3
returns-then-es-i-le3 c = search number_short depth 3

pub returns-then-n-ge-MOST : goal.returns-then-n-ge-MOST
returns-then-n-ge-MOST c = search (number_over, lit≤) depth 4

pub returns : goal.returns
returns c = search number_held depth 3
