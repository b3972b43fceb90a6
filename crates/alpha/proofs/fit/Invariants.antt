-- `alpha::fit` meets its contract: what fits is copied byte by byte, and spaces fill the rest.
-- The invariant: the first i bytes are those of the text given.
-- Assumes nothing.
use mathlib.Core.Path.{◌≡◌}
use lib.ListN.{take}
use Rattle.alpha.proofs.fit.Given as goal

abbrev pub invariant-loop-i : goal.invariant-loop-i
invariant-loop-i l = take l.i l.s ≡ take l.i l.from
