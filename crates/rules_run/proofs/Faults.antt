-- Which faults a number can come to, once for every test p of faults (document 01, "Moves and arithmetic").
--   passes p r    r is no fault, or one that passes p
-- Assumes nothing.
use Rattle.std.specs.Prelude.{Result, Err, Ok}
use Prim.Native.Nat.{ℕ, zero, suc, ◌+◌, ◌-◌, ◌*◌}
use mathlib.Core.Path.{◌≡◌, refl}
use mathlib.Core.Bool.{Bool, true, false, cond}
use mathlib.Core.List.{List, [], ◌∷◌}
use lib.Dec.{ltb, leb, eqb}
use lib.IntN.{ℤ, pos, negsuc, nat_abs, ◌+ℤ◌, ◌-ℤ◌, ◌*ℤ◌}
use lib.Signed.{quot_z}
use lib.ListN.{length, take, drop}
use Rattle.rules.specs.declared.Fault.{Fault}
use Rattle.rules.specs.declared.Fault.TheVariants as fault
use Rattle.rules.specs.Values.{signed, is_from, read_from, padded_read, read_of}
use Rattle.rules.specs.Arithmetic.{kept, rounded, round_of}
use Rattle.rules.specs.Moves.{alpha_from, alpha_of}
use Rattle.rules_unit.specs.declared.Op.{Op}
use Rattle.rules_unit.specs.declared.Op.TheVariants as op
use Rattle.rules_unit.specs.Codes.{Code}
use Rattle.rules_unit.specs.Expressions.{numberb}
use Rattle.rules_run.specs.declared.Worked.{Worked}
use Rattle.rules_run.specs.Evaluation.{calc, digits_from, literal_number, halt, push, room, step_by, on_held}

abbrev pub passes : {A : Type 0} → (Fault → Bool) → Result A Fault → Bool
passes p (Ok v) = true
passes p (Err e) = p e

module _ (p : Fault → Bool) where
  pub pass_cond : (t : Bool) (a b : Result ℤ Fault) → passes p a ≡ true → passes p b ≡ true → passes p (cond t a b) ≡ true
  pass_cond true a b x y = x
  pass_cond false a b x y = y

  pub kept_passes : p fault.TooLong ≡ true → (top : ℕ) (z : ℤ) → passes p (kept top z) ≡ true
  kept_passes h top z = pass_cond (ltb (nat_abs z) top) (Ok z) (Err fault.TooLong) refl h

  round_passes : p fault.RoundCount ≡ true → (x y : ℤ) → passes p (round_of x y) ≡ true
  round_passes h x (pos k) = pass_cond (leb k 18) (Ok (rounded x k)) (Err fault.RoundCount) refl h
  round_passes h x (negsuc k) = h

  -- What an operator answers.
  pub calc_passes : p fault.TooLong ≡ true → p fault.ZeroDivisor ≡ true → p fault.RoundCount ≡ true → (top : ℕ) (o : Op) (x y : ℤ) → passes p (calc top o x y) ≡ true
  unfolding calc
  calc_passes a b e top op.Add x y = kept_passes a top (x +ℤ y)
  calc_passes a b e top op.Subtract x y = kept_passes a top (x -ℤ y)
  calc_passes a b e top op.Multiply x y = kept_passes a top (x *ℤ y)
  calc_passes a b e top op.Divide x y = pass_cond (eqb (nat_abs y) 0) (Err fault.ZeroDivisor) (Ok (quot_z x y)) b refl
  calc_passes a b e top op.Round x y = round_passes e x y
  calc_passes a b e top op.Negate x y = refl
  calc_passes a b e top op.Eq x y = refl
  calc_passes a b e top op.Ne x y = refl
  calc_passes a b e top op.Gt x y = refl
  calc_passes a b e top op.Lt x y = refl
  calc_passes a b e top op.Ge x y = refl
  calc_passes a b e top op.Le x y = refl
  calc_passes a b e top op.Not x y = refl
  calc_passes a b e top op.And x y = refl
  calc_passes a b e top op.Or x y = refl
  calc_passes a b e top op.Xor x y = refl

  from_passes : p fault.BadDigit ≡ true → (sign acc b : ℕ) (bs : List ℕ) → passes p (read_from sign acc b bs) ≡ true
  unfolding read_from
  from_passes h sign acc b [] =
      pass_cond (is_from 48 b) (Ok (pos (acc * 10 + (b - 48)))) _ refl
      (pass_cond (is_from sign b) (Ok (signed true (acc * 10 + (b - sign)))) (Err fault.BadDigit) refl h)
  from_passes h sign acc b (x ∷ xs) =
      pass_cond (is_from 48 b) (read_from sign (acc * 10 + (b - 48)) x xs) (Err fault.BadDigit) (from_passes h sign (acc * 10 + (b - 48)) x xs) h

  padded_passes : p fault.BadDigit ≡ true → (sign : ℕ) (s : List ℕ) → passes p (padded_read sign s) ≡ true
  unfolding padded_read
  padded_passes h sign [] = refl
  padded_passes h sign (b ∷ bs) = pass_cond (eqb b 32) (padded_read sign bs) (read_from sign 0 b bs) (padded_passes h sign bs) (from_passes h sign 0 b bs)

  module _ (long : p fault.TooLong ≡ true) (bad : p fault.BadDigit ≡ true) where
    -- What reading a decimal answers.
    pub read_passes : (limit sign : ℕ) (s : List ℕ) → passes p (read_of limit sign s) ≡ true
    unfolding read_of
    read_passes limit sign [] = bad
    read_passes limit sign (b ∷ bs) =
        pass_cond (ltb limit (suc (length bs))) (Err fault.TooLong) (padded_read sign (b ∷ bs)) long (padded_passes bad sign (b ∷ bs))

    after_passes : (top : ℕ) (minus : Bool) (acc : ℕ) (s : List ℕ) → passes p (alpha_from top minus acc s) ≡ true
    unfolding alpha_from
    after_passes top minus acc [] = kept_passes long top (signed minus acc)
    after_passes top minus acc (b ∷ bs) =
        pass_cond (eqb b 32) _ _ (after_passes top minus acc bs)
        (pass_cond (eqb b 43) _ _ (after_passes top minus acc bs)
        (pass_cond (eqb b 45) _ _ (pass_cond minus (Err fault.BadDigit) (alpha_from top true acc bs) bad (after_passes top true acc bs))
        (pass_cond (is_from 48 b) _ (Err fault.BadDigit) (after_passes top minus (acc * 10 + (b - 48)) bs) bad)))

    -- What alpha to number answers.
    pub alpha_passes : (top : ℕ) (s : List ℕ) → passes p (alpha_of top s) ≡ true
    alpha_passes top s = after_passes top false 0 s

-- ---- items, for any test that lets Malformed through

module _ (p : Fault → Bool) (malformed : p fault.Malformed ≡ true) where
  -- What a number literal answers.
  pub literal_passes : (c : Code) (place len : ℕ) → passes p (literal_number c place len) ≡ true
  unfolding literal_number
  literal_passes c place len =
      pass_cond p (numberb c place len) (Ok (pos (digits_from 0 (take len (drop place c.literals))))) (Err fault.Malformed) refl malformed

  module _ (P : Result Worked Fault → Type 0) (w : (e : Fault) → p e ≡ true → P (Err e)) where
    pub on_room : (st : List ℤ) (g : Result ℤ Fault) (k : List ℤ → Result Worked Fault) → passes p g ≡ true → ((v : ℤ) → g ≡ Ok v → P (k (v ∷ st))) → P (on_held (room st g) k)
    on_room st g k m f = by (ltb (length st) 16) g m f
      where
        by : (t : Bool) (g : Result ℤ Fault) → passes p g ≡ true → ((v : ℤ) → g ≡ Ok v → P (k (v ∷ st))) → P (on_held (cond t (push g st) (halt fault.Malformed)) k)
        by true (Ok v) m f = f v refl
        by true (Err e) m f = w e m
        by false g m f = w fault.Malformed malformed

    -- An item, whatever it takes, where nothing is asked of the values after it.
    pub step_any : (n : ℕ) (f : ℤ → ℤ → Result ℤ Fault) (st : List ℤ) (k : List ℤ → Result Worked Fault) → ((x y : ℤ) → passes p (f x y) ≡ true) → ((st' : List ℤ) → P (k st'))
        → P (on_held (step_by n f st) k)
    unfolding step_by
    step_any zero f st k m h = on_room st (f (pos 0) (pos 0)) k (m (pos 0) (pos 0)) (λ v q. h (v ∷ st))
    step_any (suc zero) f [] k m h = w fault.Malformed malformed
    step_any (suc zero) f (x ∷ st) k m h = on_room st (f x (pos 0)) k (m x (pos 0)) (λ v q. h (v ∷ st))
    step_any (suc (suc n)) f [] k m h = w fault.Malformed malformed
    step_any (suc (suc n)) f (y ∷ []) k m h = w fault.Malformed malformed
    step_any (suc (suc n)) f (y ∷ (x ∷ st)) k m h = on_room st (f x y) k (m x y) (λ v q. h (v ∷ st))
