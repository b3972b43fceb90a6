-- `text::put_digits` meets its contract: each digit goes by its place, counted from the right.
-- The invariant: what stands from i on is the last of the whole, and the digits before it are left.
-- Assumes nothing.
use mathlib.Core.Path.{◌≡◌}
use Prim.Native.Nat.{◌-◌, ◌/◌, ◌^◌}
use lib.ListN.{length, drop}
use Rattle.rules.specs.Moves.{placed, digit_at}
use Rattle.text.proofs.put_digits.Given as goal

abbrev pub invariant-loop-i : goal.invariant-loop-i
invariant-loop-i l =
    (l.left ≡ l.m / 10 ^ (length l.initial.s - l.i)) × (drop l.i l.s ≡ placed (digit_at 48 l.m) (length l.initial.s - l.i))
