-- A statement that moves bad text to a decimal place gives 22 (document 01, "Moves and arithmetic"): BadText says no more than that.
-- Assumes nothing.
use Rattle.rules.specs.declared.Fault.{Fault}
use Rattle.std.specs.Prelude.{Err, Ok, Result}
use Prim.Native.Nat.{ℕ}
use native.Mathlib.Omega.{arith}
use mathlib.Core.Path.{◌≡◌, refl, sym, ap, ◌∙◌}
use mathlib.Core.Bool.{Bool, true, false, cond, false≢true}
use mathlib.Core.List.{List}
use lib.Dec.{ltb}
use lib.IntN.{ℤ, pos}
use Rattle.rules.specs.declared.Fault.TheVariants as fault
use Rattle.rules.specs.Moves.{alpha_from, alpha_of}
use Rattle.rules_unit.specs.declared.Sort.{Sort}
use Rattle.rules_unit.specs.declared.Sort.TheVariants as sort
use Rattle.rules_unit.specs.Codes.{Code}
use Rattle.rules_unit.specs.Expressions.{alpha_sort, sort_at}
use Rattle.rules_unit.proofs.Sorts.{rightb}
use Rattle.rules_run.specs.declared.Look.{Look}
use Rattle.rules_run.specs.declared.Worked.{Worked}
use Rattle.rules_run.specs.declared.Worked.TheVariants as worked
use Rattle.rules_run.specs.Evaluation.{worked_of, text_of}
use Rattle.rules_run.specs.Turns.{move_worked, turn_by, turn_of}
use Rattle.rules_run.proofs.Comes.{Comes}
use Rattle.rules_run.proofs.Sorted.{sort_comes}
use Rattle.rules_fence.specs.Destinations.{BadText}

alpha_right : (k : Sort) → alpha_sort k ≡ true → rightb k ≡ true
alpha_right sort.Wrong e = e
alpha_right sort.Number e = refl
alpha_right sort.Text e = refl
alpha_right sort.Decimal e = refl
alpha_right sort.Alpha e = refl

-- No text is no bad text.
kept_not : (t : Bool) (z : ℤ) → cond t (Ok z) (Err fault.TooLong) ≡ Err fault.BadDigit → ⊥
kept_not true z e = let y : ◌≡◌ {A = ℕ} 0 1 = cc in omega arith
kept_not false z e = let y : ◌≡◌ {A = ℕ} 0 1 = cc in omega arith

module _ (c : Code) (d : List ℕ) where
  -- Of an alpha source that is worked out the text is moved.
  text_moved : (k : Sort) (x n : ℕ) (w : Result Worked Fault) → alpha_sort k ≡ true → Comes k w → alpha_of c.dialect.top (text_of c d w) ≡ Err fault.BadDigit
      → move_worked c d true x n w ≡ Err fault.BadDigit
  unfolding alpha_from
  text_moved k x n (Ok (worked.Number v)) a m e = absurd (false≢true (ap alpha_sort (sym m) ∙ a))
  text_moved k x n (Ok (worked.Place true b l)) a m e = absurd (false≢true (ap alpha_sort (sym m) ∙ a))
  text_moved k x n (Ok (worked.Place false b l)) a m e = rw e
  text_moved k x n (Ok (worked.Text p l)) a m e = rw e
  text_moved k x n (Err f) a m e = absurd (kept_not (ltb 0 c.dialect.top) (pos 0) e)

  pub bad_text_22 : (l : Look) (i x n : ℕ) → BadText c d (c.statement i) → worked_of c d (c.items (c.statement i).a) ≡ Ok (worked.Place true x n)
      → turn_of c l i d ≡ Err fault.BadDigit
  unfolding turn_of turn_by
  bad_text_22 l i x n b q =
      let e = (c.statement i).b in
      rw (b.0, q) (text_moved (sort_at c e) x n (worked_of c d (c.items e)) b.2 (sort_comes c d e (alpha_right (sort_at c e) b.2)) b.3)
