-- `run_masks::format` meets its contract: the mask is read before it is laid, and edited where it then stands.
-- Assumes nothing.
use mathlib.Core.Path.{◌≡◌, ap, ◌∙◌}
use lib.ListN.{length}
use Rattle.rules.specs.Masks.{plan_of}
use Rattle.rules.proofs.Masks.{plan_small}
use Rattle.rules.proofs.Signed.{back}
use Rattle.run_masks.proofs.Laying.{format_end}
use Rattle.run_masks.proofs.format.Goals as goal

pub finish-requires : goal.finish-requires
finish-requires c =
    let plan_is : let a = c.args in c.plan-g.result ≡ plan_of (length a.s.now) a.m.now a.v = c.plan-g.ensures ∙ ap (plan_of (length c.args.s.now) c.args.m.now) (back c.ranges.v) in
    plan_small (length c.args.s.now) c.args.m.now c.args.v c.plan-g.result (plan_is) c.requires

pub returns : goal.returns
returns c =
    let plan_is : let a = c.args in c.plan-g.result ≡ plan_of (length a.s.now) a.m.now a.v = c.plan-g.ensures ∙ ap (plan_of (length c.args.s.now) c.args.m.now) (back c.ranges.v) in
    let a = c.args in
    format_end (length a.s.now) a.m.now a.v c.plan-g.result c.lay.new.s _ (plan_is) c.lay.ensures c.finish.ensures
