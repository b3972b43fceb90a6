-- `text::figures` meets its contract: each character is read as the rule reads it, and each way out answers what the rule answers there.
-- Assumes nothing.
use mathlib.Core.Path.{◌≡◌, refl, ap, sym, ◌∙◌}
use Prim.Native.Nat.{ℕ, ◌-◌, ◌^◌, ◌≤◌, ◌<◌}
use native.Mathlib.Nat.{pow-le-pow_right, lt_of_lt_of_le}
use native.Mathlib.Omega.{arith}
use lib.Dec.{lit<}
use lib.ListN.{length, get_or}
use Rattle.rules.specs.Values.{last_digit}
use Rattle.rules.proofs.Signed.{pow_pos10}
use Rattle.rules.proofs.Decimals.{from_yes, from_low, from_high, more_digits}
use Rattle.text.proofs.Reading.{read_bad, read_more, read_last}
use Rattle.text.proofs.figures.Goals.{then-b-lt48-via-then-b-lt48, then-b-lt48-via-else-b-lt48+then-b-gt57}
use Rattle.text.proofs.figures.Goals as goal

-- Up to 17 digits are read before the last.
small : (acc i : ℕ) → acc < 10 ^ i → i ≤ 17 → acc < 10 ^ 17
small acc i h k = lt_of_lt_of_le h (pow-le-pow_right (lit< tt) {i = i} {j = 17} k)

pub loop-i-init : goal.loop-i-init
loop-i-init c = (pow_pos10 c.args.from, refl)

pub returns-then-b-lt48 : goal.returns-then-b-lt48
returns-then-b-lt48 c =
    let a = c.args in
    sym (c.loop-i.invariant.1 ∙ read_bad a.sign c.loop-i.acc a.s.now c.loop-i.i (omega arith)
    (elim c.then-b-lt48.branch [
      | then-b-lt48-via-then-b-lt48 w ↦ from_low 48 _ (rw c.from-b.ensures at w.if-b-lt48.true)
      | then-b-lt48-via-else-b-lt48+then-b-gt57 w ↦ from_high 48 _ (rw c.from-b.ensures at w.if-b-gt57.true)
    ]))

pub overflow_mul-acc : goal.overflow_mul-acc
overflow_mul-acc c = omega (arith, small c.loop-i.acc c.loop-i.i c.loop-i.invariant.0 (omega (arith, c.requires.from_in_bounds)))

pub overflow_add-acc : goal.overflow_add-acc
overflow_add-acc c = omega (arith, small c.loop-i.acc c.loop-i.i c.loop-i.invariant.0 (omega (arith, c.requires.from_in_bounds)))

pub loop-i-preserved : goal.loop-i-preserved
loop-i-preserved c =
    let a = c.args in
    let b : c.from-b.result ≡ get_or a.s.now c.loop-i.i 0 = c.from-b.ensures in
    rw b
    (more_digits _ _ _ c.loop-i.invariant.0 (omega arith), c.loop-i.invariant.1 ∙ read_more a.sign c.loop-i.acc a.s.now c.loop-i.i (omega arith) (from_yes 48 (get_or a.s.now c.loop-i.i 0) (omega arith) (omega arith)))

pub last_digit-requires-clause-acc_bound : goal.last_digit-requires-clause-acc_bound
last_digit-requires-clause-acc_bound c = small c.loop-i.acc c.loop-i.i c.loop-i.invariant.0 (omega (arith, c.requires.from_in_bounds))

pub returns : goal.returns
returns c =
    let a = c.args in
    let e : length a.s.now - 1 ≡ c.loop-i.i = omega (arith, c.requires.from_in_bounds) in
    let b : c.from.result ≡ get_or a.s.now c.loop-i.i 0 = c.from.ensures ∙ ap (λ k. get_or a.s.now k 0) e in
    c.last_digit.ensures ∙ ap (last_digit a.sign c.loop-i.acc) b ∙ sym (c.loop-i.invariant.1 ∙ read_last a.sign c.loop-i.acc a.s.now c.loop-i.i (omega (arith, c.requires.from_in_bounds)))
