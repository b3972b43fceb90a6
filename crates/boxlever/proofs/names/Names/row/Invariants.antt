-- `boxlever::names::Names::row` ends: each turn leaves fewer bytes of rows. Assumes nothing.
use Rattle.std.proofs.Common.{length}
use Rattle.boxlever.proofs.names.Names.row.Given as goal

abbrev pub decreases-loop-rows : goal.decreases-loop-rows
decreases-loop-rows l = length l.rows
