-- `unit_sorts::sort_at` meets its contract: what is found and noted of the expressions is found and noted of the unit.
-- Assumes nothing.
use Rattle.rules.proofs.Walk.{told_no}
use Rattle.rules_unit.specs.Expressions.{sort_at}
use Rattle.unit_sorts.proofs.sort_at.Goals as goal

pub sort_in-k-requires : goal.sort_in-k-requires
sort_in-k-requires c = rw c.expressions-s.ensures.value c.requires

pub returns-then-is_wrong-clause-value : goal.returns-then-is_wrong-clause-value
unfolding sort_at
returns-then-is_wrong-clause-value c = rw (c.expressions-s.ensures.value, c.from-at.ensures) at c.sort_in-k.ensures

pub note_in-requires-clause-noted : goal.note_in-requires-clause-noted
note_in-requires-clause-noted c = rw c.expressions-s.ensures.value c.requires

pub note_in-requires-clause-k_value : goal.note_in-requires-clause-k_value
note_in-requires-clause-k_value c = search told_no depth 3

pub returns-clause-value : goal.returns-clause-value
unfolding sort_at
returns-clause-value c = rw (c.expressions-s.ensures.value, c.from-at.ensures) at c.sort_in-k.ensures

pub returns-clause-noted_of_2 : goal.returns-clause-noted_of_2
returns-clause-noted_of_2 c = rw c.expressions-s.ensures.value at c.note_in.ensures
