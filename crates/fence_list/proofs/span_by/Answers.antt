-- `fence_list::span_by` meets its contract: with as many bounds as it takes a reference names the span that they fix, and without them none.
-- Assumes nothing.
use Rattle.rules.proofs.Walk.{told_yes}
use Rattle.fence_list.proofs.Laying.{no_bounds}
use Rattle.fence_list.proofs.span_by.Goals as goal

pub fixed_span-requires-clause-s_value : goal.fixed_span-requires-clause-s_value
fixed_span-requires-clause-s_value c = search told_yes depth 3

pub returns : goal.returns
returns c = search no_bounds depth 3
