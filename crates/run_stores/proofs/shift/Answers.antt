-- `run_stores::shift` meets its contract: either direction stores the same text, and each is asked only where its loop reads no byte that it has written.
-- Assumes nothing.
use native.Mathlib.Omega.{arith}
use Rattle.run_stores.proofs.shift.Goals as goal

pub move_up-requires : goal.move_up-requires
move_up-requires c = omega arith

pub move_down-requires : goal.move_down-requires
move_down-requires c = omega arith
