-- `run_masks::spot` meets its contract: a blank mask has none, and a mask without a money sign has none.
-- Assumes nothing.
use Rattle.std.proofs.Common.{inl, inr}
use Rattle.run_masks.proofs.Plans.{spot_blank, spot_none, spot_last}
use Rattle.run_masks.proofs.spot.Goals as goal

pub returns-then-p-eq0 : goal.returns-then-p-eq0
returns-then-p-eq0 c =
    let a = c.args in
    elim c.if-p-eq0.either [
      | inl e ↦ spot_blank a.p a.first a.m.now e
      | inr q ↦ spot_none a.p a.first a.m.now q.0 c.requires.moneys_value.0 c.requires.moneys_value.1 q.1
    ]

pub returns-else-p-eq0 : goal.returns-else-p-eq0
returns-else-p-eq0 c = search spot_last depth 3
