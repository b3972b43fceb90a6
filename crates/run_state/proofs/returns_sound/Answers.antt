-- `run_state::returns_sound` meets its contract: the return numbers passed are right, and the one at which it says no is wrong.
-- Assumes nothing.
use borrow.Author.Rules.{rules}
use Rattle.run_state.proofs.Returns.{returns_wrong, returns_onward, returns_end}
use Rattle.run_state.proofs.returns_sound.Goals as goal

pub returns-then-not-return_sound : goal.returns-then-not-return_sound
returns-then-not-return_sound c = search (returns_wrong, rules) depth 3

pub loop-i-preserved : goal.loop-i-preserved
loop-i-preserved c = search (returns_onward, rules) depth 3

pub returns : goal.returns
returns c = search (returns_end, rules) depth 3
