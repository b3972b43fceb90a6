-- `run_items::place_of` meets its contract: the values held are the bounds exactly where they are as many as the reference takes.
-- Assumes nothing.
use Rattle.rules.proofs.Signed.{again}
use Rattle.run_items.proofs.Places.{place_bounds, place_unbound}
use Rattle.run_items.proofs.place_of.Goals as goal

pub place_by-requires-clause-val : goal.place_by-requires-clause-val
place_by-requires-clause-val c = search again depth 3

pub place_by-requires-clause-val_2 : goal.place_by-requires-clause-val_2
place_by-requires-clause-val_2 c = search again depth 3

pub returns-then-n-long : goal.returns-then-n-long
returns-then-n-long c = search place_unbound depth 3

pub returns : goal.returns
returns c = search place_bounds depth 3
