-- What an item makes of numbers in a range is in it (document 01, "Values and references"). The range is any that holds the dialect's
-- numbers: its truths, its sums and its digits.
-- Assumes nothing.
use Rattle.std.specs.Prelude.{Result, Err, Ok, None, Option, Some}
use Rattle.rules.specs.declared.Fault.{Fault}
use mathlib.Core.Path.{◌≡◌}
use mathlib.Core.Bool.{true, not, ◌||◌}
use mathlib.Core.List.{List, [], ◌∷◌}
use Prim.Native.Nat.{ℕ, ◌+◌, ◌-◌, ◌*◌, ◌^◌, ◌≤◌, ◌<◌}
use native.Mathlib.Nat.{pow-le-pow_right, lt_of_lt_of_le}
use native.Mathlib.Omega.{arith}
use lib.Dec.{ltb, leb, lit<}
use lib.IntN.{ℤ, pos, ◌+ℤ◌, ◌-ℤ◌, ◌*ℤ◌}
use lib.Signed.{lt_z, le_z}
use lib.ListN.{length, take, drop, length-take}
use borrow.Author.Tests.{leb-true}
use Rattle.rules.specs.Tests.{◌and◌}
use Rattle.rules.specs.declared.Fault.TheVariants as fault
use Rattle.rules.specs.Values.{Val, is_from}
use Rattle.rules.specs.Arithmetic.{kept, is_true, eq_z, xorb}
use Rattle.rules.proofs.Range.{InRange, range_kept, range_div, range_round, range_neg, range_truth}
use Rattle.rules.proofs.Tests.{both}
use Rattle.rules.proofs.Walk.{cond_case}
use Rattle.rules.proofs.Answers.{range_read}
use Rattle.rules.proofs.Decimals.{from_digit, more_digits}
use Rattle.rules_unit.specs.declared.Form.{Form}
use Rattle.rules_unit.specs.declared.Op.{Op}
use Rattle.rules_unit.specs.declared.Op.TheVariants as op
use Rattle.rules_unit.specs.declared.Item.{Item}
use Rattle.rules_unit.specs.declared.Item.TheVariants as item
use Rattle.rules_unit.specs.Codes.{Code, rule_of, decimalb}
use Rattle.rules_unit.specs.Expressions.{digitsb, numberb}
use Rattle.rules_run.specs.declared.Span.{Span}
use Rattle.rules_run.specs.Spans.{span_by}
use Rattle.rules_run.specs.Evaluation.{calc, digits_from, literal_number, read_at, read_span, reference, apply}

pub range_up : {low high : ℕ} → low ≤ high → (n : Result ℤ Fault) → InRange low n → InRange high n
range_up h (Ok z) v = record { small = omega (arith, v.small) }
range_up h (Err e) v = tt

digits_head : (b : ℕ) (bs : List ℕ) → digitsb (b ∷ bs) ≡ true → (is_from 48 b ≡ true) × (digitsb bs ≡ true)
unfolding digitsb
digits_head b bs e = (both (is_from 48 b) (digitsb bs)).0 e

-- Digits after the i digits of acc, at most n in all.
digits_most : (n acc i : ℕ) (s : List ℕ) → acc < 10 ^ i → i + length s ≤ n → digitsb s ≡ true → digits_from acc s < 10 ^ n
unfolding digits_from
digits_most n acc i [] h l e = lt_of_lt_of_le h (pow-le-pow_right (lit< tt) {i = i} {j = n} (omega arith))
digits_most n acc i (b ∷ bs) h l e =
    let t = digits_head b bs e in
    digits_most n (acc * 10 + (b - 48)) (i + 1) bs (more_digits acc i (b - 48) h (from_digit 48 b t.0)) (omega arith) t.1

module _ (c : Code) (d : List ℕ) (bound : ℕ) (truths : 1 < bound) (sums : c.dialect.top ≤ bound) (digits : 10 ^ c.dialect.limit ≤ bound) where
  kept_range : (z : ℤ) → InRange bound (kept c.dialect.top z)
  kept_range z = range_up sums (kept c.dialect.top z) (range_kept c.dialect.top z)

  calc_range : (o : Op) (x y : ℤ) → Val bound x → Val bound y → InRange bound (calc c.dialect.top o x y)
  unfolding calc
  calc_range op.Add x y vx vy = kept_range (x +ℤ y)
  calc_range op.Subtract x y vx vy = kept_range (x -ℤ y)
  calc_range op.Multiply x y vx vy = kept_range (x *ℤ y)
  calc_range op.Divide x y vx vy = range_div x y vx
  calc_range op.Round x y vx vy = range_round x y vx
  calc_range op.Negate x y vx vy = range_neg vx
  calc_range op.Eq x y vx vy = range_truth (eq_z x y) truths
  calc_range op.Ne x y vx vy = range_truth (not (eq_z x y)) truths
  calc_range op.Gt x y vx vy = range_truth (lt_z y x) truths
  calc_range op.Lt x y vx vy = range_truth (lt_z x y) truths
  calc_range op.Ge x y vx vy = range_truth (le_z y x) truths
  calc_range op.Le x y vx vy = range_truth (le_z x y) truths
  calc_range op.Not x y vx vy = range_truth (not (is_true x)) truths
  calc_range op.And x y vx vy = range_truth (is_true x and is_true y) truths
  calc_range op.Or x y vx vy = range_truth (is_true x || is_true y) truths
  calc_range op.Xor x y vx vy = range_truth (xorb (is_true x) (is_true y)) truths

  literal_range : (p l : ℕ) → InRange bound (literal_number c p l)
  unfolding numberb literal_number
  literal_range p l =
      let s = take l (drop p c.literals) in
      cond_case (InRange bound) (numberb c p l) (Ok (pos (digits_from 0 s))) (Err fault.Malformed)
      (λ e.
      let short = (both (leb l c.dialect.limit) _).0 ((both (leb 1 l) _).0 e).1 in
      let plain = ((both (leb (p + l) (length c.literals)) (digitsb s)).0 short.1).1 in
      let few : length s ≤ c.dialect.limit = omega (arith, leb-true l c.dialect.limit short.0, length-take l (drop p c.literals)) in
      record { small = lt_of_lt_of_le (digits_most c.dialect.limit 0 0 s (lit< tt) (omega arith) plain) digits })
      (λ _. tt)

  pub read_range : (a n : ℕ) → InRange bound (read_at c d a n)
  read_range a n = range_up digits (read_at c d a n) (range_read c.dialect.limit c.dialect.sign (take n (drop a d)))

  span_range : (s : Option Span) → InRange bound (read_span c d s)
  span_range (Some s) = read_range s.start s.len
  span_range None = tt

  reference_range : (h : Form) (f : ℕ) (x y : ℤ) → InRange bound (reference c d h f x y)
  unfolding reference
  reference_range h f x y =
      cond_case (InRange bound) (ltb f c.fields) _ (Err fault.Malformed)
      (λ _. cond_case (InRange bound) (decimalb c f) _ (Err fault.Malformed) (λ _. span_range (span_by (rule_of (c.field f)) (length d) (c.field f) h x y)) (λ _. tt))
      (λ _. tt)

  pub apply_range : (i : Item) (x y : ℤ) → Val bound x → Val bound y → InRange bound (apply c d i x y)
  apply_range (item.Number p l) x y vx vy = literal_range p l
  apply_range (item.Reference h f) x y vx vy = reference_range h f x y
  apply_range (item.Text p l) x y vx vy = tt
  apply_range (item.Operator o) x y vx vy = calc_range o x y vx vy
  apply_range item.End x y vx vy = tt
  apply_range item.Bad x y vx vy = tt
