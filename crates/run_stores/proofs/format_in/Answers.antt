-- `run_stores::format_in` meets its contract: the mask is read where it lies in the data, moved to the right end of its destination, and edited there.
-- Assumes nothing.
use mathlib.Core.Path.{◌≡◌, ap, ◌∙◌}
use Prim.Native.Nat.{ℕ, ◌+◌, ◌-◌}
use native.Mathlib.Nat.{add-sub_cancel_left}
use lib.ListN.{take, drop}
use Rattle.rules.specs.Masks.{plan_of}
use Rattle.rules.proofs.Masks.{plan_small}
use Rattle.rules.proofs.Signed.{back}
use Rattle.run_stores.proofs.Masks.{format_part}
use Rattle.run_stores.proofs.format_in.Goals as goal

pub finish-requires : goal.finish-requires
finish-requires c =
    let plan_is : let a = c.args in c.plan-g.result ≡ plan_of a.len (take a.count (drop a.from a.bytes.now)) a.v = let a = c.args in
    c.plan-g.ensures
    ∙ ap (plan_of a.len (take (a.from + a.count - a.from) (drop a.from a.bytes.now))) (back c.ranges.v)
    ∙ ap (λ (k : ℕ). plan_of a.len (take k (drop a.from a.bytes.now)) a.v) (add-sub_cancel_left a.from a.count) in
    let a = c.args in
    plan_small a.len (take a.count (drop a.from a.bytes.now)) a.v c.plan-g.result (plan_is) c.requires.val

pub returns : goal.returns
returns c =
    let plan_is : let a = c.args in c.plan-g.result ≡ plan_of a.len (take a.count (drop a.from a.bytes.now)) a.v = let a = c.args in
    c.plan-g.ensures
    ∙ ap (plan_of a.len (take (a.from + a.count - a.from) (drop a.from a.bytes.now))) (back c.ranges.v)
    ∙ ap (λ (k : ℕ). plan_of a.len (take k (drop a.from a.bytes.now)) a.v) (add-sub_cancel_left a.from a.count) in
    let a = c.args in
    format_part a.bytes.now _ _ (take a.count (drop a.from a.bytes.now)) a.start a.len a.v c.plan-g.result c.requires.len_in_bounds.0 (plan_is) c.lay_text.ensures c.finish.ensures
