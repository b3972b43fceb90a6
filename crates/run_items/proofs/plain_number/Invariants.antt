-- `run_items::plain_number` meets its contract: each digit is taken over to acc, and the first character that is none ends it as the rule does.
-- The invariant: what is left, after the digits of acc, gives the number of the whole, and acc has at most as many digits as were passed.
-- Assumes nothing.
use mathlib.Core.Path.{◌≡◌}
use Prim.Native.Nat.{◌^◌, ◌<◌}
use lib.ListN.{drop}
use Rattle.run_items.specs.Digits.{plain_from}
use Rattle.run_items.proofs.plain_number.Given as goal

abbrev pub invariant-loop-byte : goal.invariant-loop-byte
invariant-loop-byte l =
    (l.acc < 10 ^ l.byte-index) × (plain_from l.acc (drop l.byte-index l.s) ≡ plain_from 0 l.s)
