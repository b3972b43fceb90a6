-- `run_masks::tally` meets its contract: each turn counts the character before those that are counted.
-- The invariant: what is counted is the tally of the characters from i on.
-- Assumes nothing.
use mathlib.Core.Path.{◌≡◌}
use lib.ListN.{drop}
use Rattle.rules.specs.Masks.{tally_of}
use Rattle.run_masks.proofs.tally.Given as goal

abbrev pub invariant-loop-i : goal.invariant-loop-i
invariant-loop-i l = l.t ≡ tally_of (drop l.i l.m)
