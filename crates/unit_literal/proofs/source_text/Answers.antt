-- `unit_literal::source_text` meets its contract: it reads the unit's expressions.
-- Assumes nothing.
use Rattle.unit_literal.proofs.source_text.Goals as goal

pub returns : goal.returns
returns c = rw (c.expressions.ensures.value, c.from.ensures, c.literals_offset-from.ensures) at c.lone_text.ensures
