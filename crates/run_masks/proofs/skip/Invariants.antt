-- `run_masks::skip` meets its contract: each turn goes one character on.
-- The invariant: what is still to be walked ends as the whole does.
-- Assumes nothing.
use mathlib.Core.Path.{◌≡◌}
use lib.ListN.{drop}
use Rattle.rules.specs.Masks.{skipped}
use Rattle.run_masks.proofs.skip.Given as goal

abbrev pub invariant-loop-c : goal.invariant-loop-c
invariant-loop-c l = skipped l.p l.w (drop l.c-index l.m) ≡ skipped l.p l.initial.w l.m
