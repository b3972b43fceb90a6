-- `text::read` meets its contract: spaces are passed over, and the rest is read as the rule reads it.
-- The invariant: what the characters from here on come to is what all of them do.
-- Assumes nothing.
use mathlib.Core.Path.{◌≡◌}
use lib.ListN.{drop}
use Rattle.rules.specs.Values.{padded_read, read_of}
use Rattle.text.proofs.read.Given as goal

abbrev pub invariant-loop-from : goal.invariant-loop-from
invariant-loop-from l = read_of l.limit l.sign l.s ≡ padded_read l.sign (drop l.from l.s)
