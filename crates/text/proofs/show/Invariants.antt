-- `text::show` meets its contract: each character goes by its place, counted from the right.
-- The invariant: what stands from i on is the last of the whole.
-- Assumes nothing.
use mathlib.Core.Path.{◌≡◌}
use Prim.Native.Nat.{◌-◌}
use lib.ListN.{drop}
use Rattle.rules.specs.Moves.{placed, shown_at}
use Rattle.text.proofs.show.Given as goal

abbrev pub invariant-loop-i : goal.invariant-loop-i
invariant-loop-i l = drop l.i l.s ≡ placed (shown_at l.neg l.m l.w) (l.n - l.i)
