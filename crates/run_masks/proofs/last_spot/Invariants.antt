-- `run_masks::last_spot` meets its contract: each turn goes one character on.
-- The invariant: what is still to be walked ends as the whole does.
-- Assumes nothing.
use mathlib.Core.Path.{◌≡◌}
use lib.ListN.{drop}
use Rattle.rules.specs.Masks.{spot_from}
use Rattle.run_masks.proofs.last_spot.Given as goal

abbrev pub invariant-loop-c : goal.invariant-loop-c
invariant-loop-c l = spot_from l.p l.at l.w (drop l.c-index l.m) ≡ spot_from l.p 0 l.initial.w l.m
