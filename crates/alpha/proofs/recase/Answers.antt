-- `alpha::recase` meets its contract: each turn puts the byte's entry, which is f of it, in the byte's place.
-- Assumes nothing.
use mathlib.Core.Path.{refl, sym, ◌∙◌}
use native.Mathlib.Omega.{arith}
use borrow.Author.Rules.{rules}
use Rattle.alpha.proofs.Casing.{map_next, map_end}
use Rattle.alpha.proofs.recase.Goals as goal

pub loop-b-init : goal.loop-b-init
loop-b-init c = λ f t. refl

pub loop-b-preserved : goal.loop-b-preserved
loop-b-preserved c = λ f t. map_next f c.loop-b.s c.loop-b.b-index _ (omega arith) (t.at _ (search rules)) ∙ c.loop-b.invariant f t

pub returns : goal.returns
returns c = λ f t. sym (map_end f c.loop-b.s c.loop-b.b-index (omega arith)) ∙ c.loop-b.invariant f t
