-- `alpha::recase` meets its contract: each turn puts the byte's entry, which is f of it, in the byte's place.
-- The invariant: what is done, with f of what is still to do, is f of the whole.
-- Assumes nothing.
use Prim.Native.Nat.{ℕ}
use mathlib.Core.Path.{◌≡◌}
use mathlib.Core.List.{map}
use Rattle.rules.specs.Charts.{Charts}
use Rattle.alpha.proofs.Casing.{mapped_from}
use Rattle.alpha.proofs.recase.Given as goal

abbrev pub invariant-loop-b : goal.invariant-loop-b
invariant-loop-b l = (f : ℕ → ℕ) → Charts f 256 l.chart → mapped_from f l.b-index l.s ≡ map f l.initial.s
