-- `run_statement::chosen` meets its contract: the tests of the sign and of the magnitude tell which statement the rule names.
-- Assumes nothing.
use Rattle.run_statement.proofs.Jumps.{small_again, choose_minus, choose_zero, choose_past, choose_at}
use Rattle.run_statement.proofs.chosen.Goals as goal

pub returns-then-is_neg : goal.returns-then-is_neg
returns-then-is_neg c = search choose_minus depth 3

pub magnitude-k-requires : goal.magnitude-k-requires
magnitude-k-requires c = search small_again depth 3

pub returns-then-k-eq0 : goal.returns-then-k-eq0
returns-then-k-eq0 c = search choose_zero depth 3

pub returns-then-n-k : goal.returns-then-n-k
returns-then-n-k c = search choose_past depth 3

pub returns : goal.returns
returns c = search choose_at depth 3
