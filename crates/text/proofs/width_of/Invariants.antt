-- `text::width_of` meets its contract: each width is tried in turn, and 18 is the last.
-- The invariant: none below w fits.
-- Assumes nothing.
use mathlib.Core.Path.{◌≡◌}
use Prim.Native.Nat.{◌-◌}
use Rattle.rules.specs.Moves.{width, width_from}
use Rattle.text.proofs.width_of.Given as goal

abbrev pub invariant-loop-w : goal.invariant-loop-w
invariant-loop-w l = width l.m ≡ width_from (18 - l.w) l.w l.m
