-- `fence_list::put_row` meets its contract: a row that is asked for and fits is put where it stands.
-- Assumes nothing.
use Rattle.fence_list.proofs.Laying.{put_early, put_full, put_there}
use Rattle.fence_list.proofs.put_row.Goals as goal

pub returns-then-count-skip : goal.returns-then-count-skip
returns-then-count-skip c = search put_early depth 3

pub returns-then-rows-k : goal.returns-then-rows-k
returns-then-rows-k c = search put_full depth 3

pub returns : goal.returns
returns c = search put_there depth 3
