-- `run_state::all_good` meets its contract: the numbers passed stand for values, and the one at which it says no stands for none.
-- Assumes nothing.
use borrow.Author.Rules.{rules}
use Rattle.run_state.proofs.Reading.{all_wrong, all_onward, all_end}
use Rattle.run_state.proofs.all_good.Goals as goal

pub returns-then-not-number_good : goal.returns-then-not-number_good
returns-then-not-number_good c = search (all_wrong, rules) depth 3

pub loop-k-preserved : goal.loop-k-preserved
loop-k-preserved c = search (all_onward, rules) depth 3

pub returns : goal.returns
returns c = search (all_end, rules) depth 3
