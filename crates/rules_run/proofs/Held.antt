-- The values held stay in a range that every item keeps to (document 01, "The coded unit").
--   Vals bound st    all values of st are in the range; HeldIn says it of what a step leaves
-- Assumes nothing.
use Rattle.std.specs.Prelude.{Result, Err, Ok}
use Rattle.rules.specs.declared.Fault.{Fault}
use mathlib.Core.List.{List, [], ◌∷◌}
use Prim.Native.Nat.{ℕ, zero, suc, ◌<◌}
use native.Mathlib.Omega.{arith}
use lib.Dec.{ltb}
use lib.IntN.{ℤ, pos}
use lib.ListN.{length}
use Rattle.rules.specs.declared.Fault.TheVariants as fault
use Rattle.rules.specs.Values.{Val}
use Rattle.rules.proofs.Range.{InRange}
use Rattle.rules.proofs.Walk.{cond_case}
use Rattle.rules_run.specs.Evaluation.{Held, go, halt, push, room, step_by}

abbrev pub Vals : ℕ → List ℤ → Type 0
Vals bound [] = Unit {0}
Vals bound (v ∷ st) = Val bound v × Vals bound st

abbrev pub HeldIn : ℕ → Held → Type 0
HeldIn bound (go st) = Vals bound st
HeldIn bound (halt e) = Unit {0}

push_in : (bound : ℕ) (n : Result ℤ Fault) (st : List ℤ) → InRange bound n → Vals bound st → HeldIn bound (push n st)
push_in bound (Ok v) st h vs = (h, vs)
push_in bound (Err e) st h vs = tt

room_in : (bound : ℕ) (st : List ℤ) (n : Result ℤ Fault) → InRange bound n → Vals bound st → HeldIn bound (room st n)
room_in bound st n h vs =
    cond_case (HeldIn bound) (ltb (length st) 16) (push n st) (halt fault.Malformed) (λ _. push_in bound n st h vs) (λ _. tt)

module _ (bound : ℕ) (some : 1 < bound) (f : ℤ → ℤ → Result ℤ Fault) (good : (x y : ℤ) → Val bound x → Val bound y → InRange bound (f x y)) where
  zero_in : Val bound (pos 0)
  zero_in = record { small = omega arith }

  pub step_in : (k : ℕ) (st : List ℤ) → Vals bound st → HeldIn bound (step_by k f st)
  unfolding step_by
  step_in zero st vs = room_in bound st (f (pos 0) (pos 0)) (good (pos 0) (pos 0) zero_in zero_in) vs
  step_in (suc zero) [] vs = tt
  step_in (suc zero) (x ∷ st) vs = room_in bound st (f x (pos 0)) (good x (pos 0) vs.0 zero_in) vs.1
  step_in (suc (suc k)) [] vs = tt
  step_in (suc (suc k)) (y ∷ []) vs = tt
  step_in (suc (suc k)) (y ∷ (x ∷ st)) vs = room_in bound st (f x y) (good x y vs.1.0 vs.0) vs.1.1
