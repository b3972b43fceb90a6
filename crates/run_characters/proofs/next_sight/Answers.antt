-- `run_characters::next_sight` meets its contract: each field is the rule's.
-- Assumes nothing.
use Rattle.rules.specs.Masks.{sighted_by}
use Rattle.run_characters.proofs.next_sight.Goals as goal

pub returns : goal.returns
unfolding sighted_by
returns c = cc
