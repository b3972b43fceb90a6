-- `run_masks::plan` meets its contract: each part is read of the mask as the rule reads it.
-- Assumes nothing.
use mathlib.Core.Path.{◌≡◌, ap, ◌∙◌}
use lib.IntN.{ℤ, nat_abs}
use lib.ListN.{length}
use Rattle.rules.specs.Masks.{last_digits, picture_by}
use Rattle.rules.specs.Values.{is_neg}
use Rattle.rules.proofs.Signed.{back}
use Rattle.run_masks.proofs.Plans.{plan_made}
use Rattle.run_masks.proofs.plan.Goals as goal

pub returns : goal.returns
returns c =
    let p_is : c.picture-p.result ≡ picture_by c.tally-held.result (length c.args.m.now) (is_neg c.args.v) (last_digits (nat_abs c.args.v) c.tally-held.result.places) = c.picture-p.ensures ∙ ap (λ (x : ℤ). picture_by c.tally-held.result (length c.args.m.now) (is_neg x) (last_digits (nat_abs x) c.tally-held.result.places)) (back c.ranges.v) in
    plan_made c.args.n c.args.m.now c.args.v c.tally-held.result c.picture-p.result c.first_sight-w.result c.skip-first.result c.saturating_sub-cut.result c.spot-at.result
    c.tally-held.ensures (p_is) c.first_sight-w.ensures c.saturating_sub-cut.ensures c.spot-at.ensures c.skip-first.ensures
