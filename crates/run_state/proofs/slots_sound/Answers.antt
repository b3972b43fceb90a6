-- `run_state::slots_sound` meets its contract: the slots passed are right, and the one at which it says no is wrong.
-- Assumes nothing.
use borrow.Author.Rules.{rules}
use Rattle.run_state.proofs.Slots.{slots_wrong, slots_onward, slots_end}
use Rattle.run_state.proofs.slots_sound.Goals as goal

pub returns-then-not-slot_sound-clause-value : goal.returns-then-not-slot_sound-clause-value
returns-then-not-slot_sound-clause-value c = search (slots_wrong, rules) depth 3

pub loop-i-preserved : goal.loop-i-preserved
loop-i-preserved c = search (slots_onward, rules) depth 3

pub returns-clause-value : goal.returns-clause-value
returns-clause-value c = search (slots_end, rules) depth 3
