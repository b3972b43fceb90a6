-- `run_masks::last_spot` meets its contract: each turn goes one character on.
-- Assumes nothing.
use mathlib.Core.Path.{◌≡◌, refl}
use mathlib.Core.Bool.{cond}
use Prim.Native.Nat.{ℕ, ◌+◌}
use native.Mathlib.Omega.{arith}
use lib.ListN.{drop}
use Rattle.rules.specs.Masks.{spot_from}
use borrow.Author.Rules.{rules}
use Rattle.run_masks.proofs.Editing.{spot_turn, spot_end}
use Rattle.run_masks.proofs.last_spot.Goals.{then-is_money, else-is_money}
use Rattle.run_masks.proofs.last_spot.Goals as goal

pub loop-c-preserved : goal.loop-c-preserved
loop-c-preserved c =
    let l = c.loop-c in
    let m = c.args.m.now in
    let n = c.next_sight-n.result in
    let k = c.class_of-k.result in
    let b = c.is_money.result in
    let at : ℕ → Type 0 = λ x. x ≡ cond b l.w.left l.at in
    let turn : (x : ℕ) → at x → spot_from c.args.p x n (drop (l.c-index + 1) m) ≡ spot_from c.args.p 0 c.args.first m =
    λ x a. spot_turn c.args.p l.w n m l.c-index k b l.at x _ (omega arith) c.class_of-k.ensures c.next_sight-n.ensures c.is_money.ensures a l.invariant in
    elim c.if-is_money.branch [
      | then-is_money w ↦ rw (w.w-is, w.at-is) (turn l.w.left (rw w.if-is_money.true refl))
      | else-is_money w ↦ rw (w.w-is, w.at-is) (turn l.at (rw w.if-is_money.false refl))
    ]

pub returns : goal.returns
returns c = search (spot_end, rules) depth 3
