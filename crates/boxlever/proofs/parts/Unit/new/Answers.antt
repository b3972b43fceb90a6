-- `boxlever::parts::Unit::new` builds a unit that its parts fill, since the check passes no other. Assumes nothing.
use Rattle.std.proofs.Common.{rules}
use Rattle.rules_unit.proofs.Sound.{fills_by}
use Rattle.boxlever.proofs.parts.Unit.new.Goals as goal

pub tail_of-requires : goal.tail_of-requires
tail_of-requires c = fills_by _ _ c.check.ensures _ c.in_ok-parts.was

pub invariant_of-coded : goal.invariant_of-coded
invariant_of-coded c = record { fills = fills_by _ _ c.check.ensures _ c.in_ok-parts.was; words = search rules; starts = search rules }
