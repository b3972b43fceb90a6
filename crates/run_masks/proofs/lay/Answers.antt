-- `run_masks::lay` meets its contract: the spaces are put in front, and the mask's last characters fill the rest.
-- Assumes nothing.
use mathlib.Core.Path.{refl}
use Rattle.run_masks.proofs.Laying.{lay_end}
use Rattle.run_masks.proofs.lay.Goals as goal

pub returns : goal.returns
returns c =
    let a = c.args in
    lay_end a.s.now _ c.fill.new.s c.fit.new.s a.m.now c.saturating_sub-gap.result c.saturating_sub-cut.result c.saturating_sub-gap.ensures c.saturating_sub-cut.ensures c.fill.ensures refl c.fit.ensures
