-- `alpha::Cases::new` meets its contract: each table is the chart of its rule, which antt computes.
-- Assumes nothing.
use mathlib.Core.Path.{refl}
use Rattle.rules.specs.Moves.{upper, lower}
use Rattle.rules.proofs.Charts.{charted}
use Rattle.alpha.proofs.Cases.new.Goals as goal

pub invariant_of-result : goal.invariant_of-result
invariant_of-result c = record { upper = record { at = charted upper 0 256 _ refl }; lower = record { at = charted lower 0 256 _ refl } }
