-- `run_characters::class_of` meets its contract: the money signs to the right are what the rule counts.
-- Assumes nothing.
use Rattle.rules.specs.Masks.{class_of}
use Rattle.run_characters.proofs.class_of.Goals as goal

pub returns : goal.returns
unfolding class_of
returns c = cc
