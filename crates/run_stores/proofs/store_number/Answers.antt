-- `run_stores::store_number` meets its contract: the part that is lent has the span's characters, and comes back as the decimal that the rule writes.
-- Assumes nothing.
use Rattle.rules.proofs.Signed.{again}
use Rattle.run_stores.proofs.Storing.{lent_most, part_written}
use Rattle.run_stores.proofs.store_number.Goals as goal

pub write-requires-clause-s_len_bound : goal.write-requires-clause-s_len_bound
write-requires-clause-s_len_bound c = search (lent_most, again) depth 3

pub write-requires-clause-val : goal.write-requires-clause-val
write-requires-clause-val c = search (lent_most, again) depth 3

pub returns : goal.returns
returns c = search part_written depth 3
