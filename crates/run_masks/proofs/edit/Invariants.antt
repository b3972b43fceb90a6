-- `run_masks::edit` meets its contract: each turn shows one character.
-- The invariant: what is done, with what is still to do, is the whole edited.
-- Assumes nothing.
use mathlib.Core.Path.{◌≡◌}
use Rattle.rules.specs.Masks.{edit_from}
use Rattle.run_masks.proofs.Editing.{edited_from}
use Rattle.run_masks.proofs.edit.Given as goal

abbrev pub invariant-loop-c : goal.invariant-loop-c
invariant-loop-c l = edited_from l.p l.spot l.w l.c-index l.s ≡ edit_from l.p l.spot l.initial.w l.initial.s
