-- `text::figures` meets its contract: each character is read as the rule reads it, and each way out answers what the rule answers there.
-- The invariant: what the characters up to i came to, with those from i on, comes to what all of them do.
-- Assumes nothing.
use mathlib.Core.Path.{◌≡◌}
use Prim.Native.Nat.{◌+◌, ◌^◌, ◌<◌}
use lib.ListN.{get_or, drop}
use Rattle.rules.specs.Values.{read_from}
use Rattle.text.proofs.figures.Given as goal

abbrev pub invariant-loop-i : goal.invariant-loop-i
invariant-loop-i l =
    (l.acc < 10 ^ l.i) × (read_from l.sign 0 (get_or l.s l.from 0) (drop (l.from + 1) l.s) ≡ read_from l.sign l.acc (get_or l.s l.i 0) (drop (l.i + 1) l.s))
