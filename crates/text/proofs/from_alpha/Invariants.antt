-- `text::from_alpha` meets its contract: each character is read as the rule reads it, and from top on the number itself no longer matters.
-- The invariant: what the characters up to x came to, with those from x on, comes to what all of them do.
-- Assumes nothing.
use mathlib.Core.Path.{◌≡◌}
use mathlib.Core.Bool.{false}
use lib.ListN.{drop}
use Rattle.rules.specs.Moves.{alpha_from}
use Rattle.text.proofs.from_alpha.Given as goal

abbrev pub invariant-loop-x : goal.invariant-loop-x
invariant-loop-x l = alpha_from l.top false 0 l.s ≡ alpha_from l.top l.minus l.acc (drop l.x-index l.s)
