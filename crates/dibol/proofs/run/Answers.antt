-- `dibol::run` meets its contract: the checks stand in the order of `run_of`, and what passes them all is run.
-- Assumes nothing.
use Rattle.std.proofs.Common.{rules}
use Rattle.rules_unit.proofs.Sound.{passed_by, fills_by}
use Rattle.dibol.proofs.Ways.{unit_dialect, call_ways, sound_by}
use Rattle.dibol.proofs.run.Goals as goal

pub tail_of-requires : goal.tail_of-requires
tail_of-requires c = search fills_by depth 3

pub invariant_of-coded : goal.invariant_of-coded
invariant_of-coded c = record { fills = search fills_by depth 3; words = search rules; starts = search rules }

pub returns-then-bytes-parts : goal.returns-then-bytes-parts
returns-then-bytes-parts c = search call_ways depth 3

pub sound-requires : goal.sound-requires
sound-requires c = search unit_dialect depth 3

pub returns-then-not-sound : goal.returns-then-not-sound
returns-then-not-sound c = search call_ways depth 3

pub turns-requires-clause-unit_value : goal.turns-requires-clause-unit_value
turns-requires-clause-unit_value c = search passed_by depth 3

pub turns-requires-clause-sound : goal.turns-requires-clause-sound
turns-requires-clause-sound c = search sound_by depth 3

pub returns-in-Err : goal.returns-in-Err
returns-in-Err c = search call_ways depth 3

pub returns-else-not-sound : goal.returns-else-not-sound
returns-else-not-sound c = search call_ways depth 3
