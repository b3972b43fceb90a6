-- `text::write` meets its contract: the digits that there is room for are put, and of a negative number with digits kept the last one is a letter.
-- Assumes nothing.
use mathlib.Core.Path.{◌≡◌, sym, ap, ◌∙◌}
use Prim.Native.Nat.{◌≤◌}
use lib.IntN.{nat_abs}
use lib.ListN.{length}
use mathlib.Core.Bool.{true}
use Rattle.rules.specs.Values.{is_neg}
use Rattle.rules.proofs.Signed.{back, pow_pos10}
use Rattle.text.proofs.Writing.{sign_set, some_room, written_minus}
use Rattle.text.proofs.write.Goals as goal

pub nonzero_rem-kept : goal.nonzero_rem-kept
nonzero_rem-kept c = rw c.power-tens.ensures (pow_pos10 _)

pub returns-then-kept-gt0 : goal.returns-then-kept-gt0
returns-then-kept-gt0 c =
    let a = c.args in
    let n = length a.s.now in
    let kept = rw c.power-tens.ensures at c.if-kept-gt0.true in
    let room : 1 ≤ n = some_room n _ kept in
    let m : c.magnitude-m.result ≡ nat_abs a.v = c.magnitude-m.ensures ∙ ap nat_abs (back c.ranges.v) in
    let neg : is_neg a.v ≡ true = ap is_neg (sym (back c.ranges.v)) ∙ sym c.is_neg.ensures ∙ c.if-is_neg.true in
    rw (c.put_digits.ensures, m) (sign_set a.sign n (nat_abs a.v) room ∙ sym (written_minus a.sign n a.v neg (rw m at kept)))
