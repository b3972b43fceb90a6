-- The values held: the code's array with their number, and the rules' list, the last held first.
--   top_push                a value stored over those that an item took
--   left_one, left_other    what is left at 00
--   too_few, step_at, full, room_for    what an item does with the values held
--   place_held, text_held   what a last reference or alpha literal does with them
--   vals_zero, vals_set     every value of the array is in the range
-- Assumes nothing.
use Rattle.std.specs.Prelude.{Result, Err, Ok}
use Rattle.rules.specs.declared.Fault.{Fault}
use mathlib.Core.Path.{◌≡◌, refl, sym, ap, ◌∙◌}
use mathlib.Core.Bool.{cond}
use mathlib.Core.List.{List, [], ◌∷◌}
use Prim.Native.Nat.{ℕ, zero, suc, ◌+◌, ◌^◌, ◌≤◌, ◌<◌}
use native.Mathlib.Nat.{add-zero}
use native.Mathlib.Numerals.{add-one, add-two}
use native.Mathlib.Omega.{arith}
use lib.Dec.{eqb, lit<}
use lib.IntN.{ℤ, pos}
use lib.ListN.{length, get_or, set, replicate}
use lib.Seq.{get_or-set_same, get_or-set_other}
use borrow.Author.Tests.{lt-ltb, le-ltb, ne_eqb}
use Rattle.rules.specs.declared.Fault.TheVariants as fault
use Rattle.rules.specs.Values.{Val}
use Rattle.rules_unit.specs.declared.Form.{Form}
use Rattle.rules_unit.specs.declared.Form.TheVariants as form
use Rattle.rules_unit.specs.declared.Op.TheVariants as op
use Rattle.rules_unit.specs.declared.Item.{Item}
use Rattle.rules_unit.specs.declared.Item.TheVariants as item
use Rattle.rules_unit.specs.Codes.{Code}
use Rattle.rules_unit.specs.Expressions.{form_takes, takes, textb}
use Rattle.rules_unit.proofs.Items.{takes_two}
use Rattle.rules_run.specs.declared.Worked.TheVariants as worked
use Rattle.rules_run.specs.Spans.{span_of}
use Rattle.rules_run.specs.Evaluation.{calc, reference, apply, halt, push, room, step_by, left, place_by, place, text_by}
use Rattle.run_evaluate.specs.Steps.{top_down, Vals}

top_length : (held : List ℤ) (n : ℕ) → length (top_down held n) ≡ n
unfolding top_down
top_length held zero = refl
top_length held (suc n) = ap suc (top_length held n)

top_set : (held : List ℤ) (n i : ℕ) (v : ℤ) → n ≤ i → top_down (set held i v) n ≡ top_down held n
unfolding top_down
top_set held zero i v h = refl
top_set held (suc n) i v h = rw (get_or-set_other held i n v (pos 0) (omega arith), top_set held n i v (omega arith))

pub top_push : (held : List ℤ) (m : ℕ) (v : ℤ) → m < length held → top_down (set held m v) (m + 1) ≡ v ∷ top_down held m
unfolding top_down
top_push held m v h = rw (add-one, get_or-set_same held m v (pos 0) h, top_set held m m v (omega arith))

-- ---- at 00

pub left_one : (held : List ℤ) (n : ℕ) → n ≡ 1 → left (top_down held n) ≡ Ok (worked.Number (get_or held 0 (pos 0)))
unfolding top_down
left_one held n e = rw e

pub left_other : (held : List ℤ) (n : ℕ) → (n ≡ 1 → ⊥) → left (top_down held n) ≡ Err fault.Malformed
unfolding top_down
left_other held zero h = refl
left_other held (suc zero) h = absurd (h refl)
left_other held (suc (suc n)) h = refl

-- ---- an item

under : (k n : ℕ) (f : ℤ → ℤ → Result ℤ Fault) (held : List ℤ) → n < k → k ≤ 2 → step_by k f (top_down held n) ≡ halt fault.Malformed
unfolding step_by top_down
under zero n f held h g = absurd (omega arith)
under (suc zero) zero f held h g = refl
under (suc zero) (suc n) f held h g = absurd (omega arith)
under (suc (suc k)) zero f held h g = refl
under (suc (suc k)) (suc zero) f held h g = refl
under (suc (suc k)) (suc (suc n)) f held h g = absurd (omega arith)

module _ (c : Code) (d : List ℕ) (held : List ℤ) where
  pub too_few : (i : Item) (n : ℕ) → n < takes i → step_by (takes i) (apply c d i) (top_down held n) ≡ halt fault.Malformed
  too_few i n h = under (takes i) n (apply c d i) held h (takes_two i)

  -- An item ignores the values that it does not take, so the two that stand from m on serve for each.
  taken : (i : Item) (m : ℕ) → step_by (takes i) (apply c d i) (top_down held (m + takes i)) ≡ room (top_down held m) (apply c d i (get_or held m (pos 0)) (get_or held (m + 1) (pos 0)))
  unfolding step_by top_down reference span_of calc
  taken (item.Number place len) m = rw (add-zero m)
  taken (item.Reference form.First f) m = rw (add-zero m)
  taken (item.Reference form.Subscript f) m = rw (add-one m)
  taken (item.Reference form.StartEnd f) m = rw (add-two m, add-one m)
  taken (item.Reference form.PosLength f) m = rw (add-two m, add-one m)
  taken (item.Text place len) m = rw (add-zero m)
  taken (item.Operator op.Add) m = rw (add-two m, add-one m)
  taken (item.Operator op.Subtract) m = rw (add-two m, add-one m)
  taken (item.Operator op.Multiply) m = rw (add-two m, add-one m)
  taken (item.Operator op.Divide) m = rw (add-two m, add-one m)
  taken (item.Operator op.Round) m = rw (add-two m, add-one m)
  taken (item.Operator op.Negate) m = rw (add-one m)
  taken (item.Operator op.Eq) m = rw (add-two m, add-one m)
  taken (item.Operator op.Ne) m = rw (add-two m, add-one m)
  taken (item.Operator op.Gt) m = rw (add-two m, add-one m)
  taken (item.Operator op.Lt) m = rw (add-two m, add-one m)
  taken (item.Operator op.Ge) m = rw (add-two m, add-one m)
  taken (item.Operator op.Le) m = rw (add-two m, add-one m)
  taken (item.Operator op.Not) m = rw (add-one m)
  taken (item.Operator op.And) m = rw (add-two m, add-one m)
  taken (item.Operator op.Or) m = rw (add-two m, add-one m)
  taken (item.Operator op.Xor) m = rw (add-two m, add-one m)
  taken item.End m = rw (add-zero m)
  taken item.Bad m = rw (add-zero m)

  pub step_at : (i : Item) (n m : ℕ) → m + takes i ≡ n
      → step_by (takes i) (apply c d i) (top_down held n) ≡ room (top_down held m) (apply c d i (get_or held m (pos 0)) (get_or held (m + 1) (pos 0)))
  step_at i n m e = ap (λ (k : ℕ). step_by (takes i) (apply c d i) (top_down held k)) (sym e) ∙ taken i m

pub full : (held : List ℤ) (m : ℕ) (g : Result ℤ Fault) → 16 ≤ m → room (top_down held m) g ≡ halt fault.Malformed
full held m g h = rw (top_length held m, le-ltb m 16 h)

pub room_for : (held : List ℤ) (m : ℕ) (g : Result ℤ Fault) → m < 16 → room (top_down held m) g ≡ push g (top_down held m)
room_for held m g h = rw (top_length held m, lt-ltb m 16 h)

-- ---- a last item

module _ (c : Code) (d : List ℕ) (held : List ℤ) where
  pub place_held : (h : Form) (f n : ℕ)
      → place c d h f (top_down held n) ≡ cond (eqb n (form_takes h)) (place_by c d h f (get_or held 0 (pos 0)) (get_or held 1 (pos 0))) (Err fault.Malformed)
  unfolding place place_by span_of top_down
  place_held form.First f zero = refl
  place_held form.First f (suc n) = rw (ne_eqb (suc n) 0 (λ e. omega arith))
  place_held form.Subscript f zero = refl
  place_held form.Subscript f (suc zero) = refl
  place_held form.Subscript f (suc (suc n)) = rw (ne_eqb (suc (suc n)) 1 (λ e. omega arith))
  place_held form.StartEnd f zero = refl
  place_held form.StartEnd f (suc zero) = refl
  place_held form.StartEnd f (suc (suc zero)) = refl
  place_held form.StartEnd f (suc (suc (suc n))) = rw (ne_eqb (suc (suc (suc n))) 2 (λ e. omega arith))
  place_held form.PosLength f zero = refl
  place_held form.PosLength f (suc zero) = refl
  place_held form.PosLength f (suc (suc zero)) = refl
  place_held form.PosLength f (suc (suc (suc n))) = rw (ne_eqb (suc (suc (suc n))) 2 (λ e. omega arith))

  pub text_held : (p l n : ℕ)
      → text_by c p l (top_down held n) ≡ cond (eqb n 0) (cond (textb c p l) (Ok (worked.Text p l)) (Err fault.Malformed)) (Err fault.Malformed)
  unfolding top_down
  text_held p l zero = refl
  text_held p l (suc n) = rw (ne_eqb (suc n) 0 (λ e. omega arith))

-- ---- the range

pub vals_zero : (k : ℕ) → Vals (replicate k (pos 0))
vals_zero zero j = record { small = lit< tt }
vals_zero (suc k) zero = record { small = lit< tt }
vals_zero (suc k) (suc j) = vals_zero k j

pub vals_set : (held : List ℤ) (m : ℕ) (v : ℤ) → Vals held → Val (10 ^ 18) v → Vals (set held m v)
vals_set [] m v h s j = h j
vals_set (x ∷ l) zero v h s zero = s
vals_set (x ∷ l) zero v h s (suc j) = h (suc j)
vals_set (x ∷ l) (suc m) v h s zero = h zero
vals_set (x ∷ l) (suc m) v h s (suc j) = vals_set l m v (λ k. h (suc k)) s j
