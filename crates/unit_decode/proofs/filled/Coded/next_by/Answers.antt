-- `unit_decode::Coded::next_by` meets its contract: the row ends inside the expressions.
-- Assumes nothing.
use native.Mathlib.Omega.{arith}
use Rattle.unit_decode.proofs.Rows.{next_small}
use Rattle.unit_decode.proofs.filled.Coded.next_by.Goals as goal

pub next_in-requires : goal.next_in-requires
next_in-requires c = rw c.expressions.ensures.value c.requires

pub overflow_cast-result : goal.overflow_cast-result
overflow_cast-result c =
    omega (arith, next_small c.expressions.result.now c.long.result c.next_in.result (omega arith) (omega arith) c.next_in.ensures)

pub returns : goal.returns
returns c = rw (c.expressions.ensures.value, c.long.ensures) at c.next_in.ensures
