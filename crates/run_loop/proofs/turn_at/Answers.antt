-- `run_loop::turn_at` meets its contract: what the statement answers comes to what `turn_under` says.
-- Assumes nothing.
use Rattle.std.proofs.lemmas.Result.{err_from_is_err_and}
use Rattle.run_loop.proofs.Flows.{under_worked, under_failed}
use Rattle.run_loop.proofs.turn_at.Goals as goal

pub returns : goal.returns
returns c = under_worked _ _ _ _ c.in_ok-turn.ensures c.turn_under.ensures

pub returns-in_err-turn : goal.returns-in_err-turn
returns-in_err-turn c = let p = err_from_is_err_and c.from_residual.result c.from_residual.ensures.1 in rw (p.1, p.2) (under_failed _ _ _ c.in_err-turn.ensures)
