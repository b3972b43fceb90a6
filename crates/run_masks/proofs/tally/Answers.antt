-- `run_masks::tally` meets its contract: each turn counts the character before those that are counted.
-- Assumes nothing.
use native.Mathlib.Omega.{arith}
use lib.ListN.{length}
use borrow.Author.Rules.{rules}
use Rattle.run_masks.proofs.Tallying.{moneys_room, places_room, tally_start, tally_turn}
use Rattle.run_masks.proofs.tally.Goals as goal

pub loop-i-init : goal.loop-i-init
loop-i-init c = let m = c.args.m in tally_start m.now (length m.now) (omega arith)

pub add_to-t-requires-clause-moneys_bound : goal.add_to-t-requires-clause-moneys_bound
add_to-t-requires-clause-moneys_bound c = search (moneys_room, rules) depth 3

pub add_to-t-requires-clause-places_bound : goal.add_to-t-requires-clause-places_bound
add_to-t-requires-clause-places_bound c = search (places_room, rules) depth 3

pub loop-i-preserved : goal.loop-i-preserved
loop-i-preserved c = search (tally_turn, rules) depth 3
