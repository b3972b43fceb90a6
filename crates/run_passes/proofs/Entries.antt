-- What a FOR answers, one law for each way out of the code. Signed numbers come as the code's own copies of them.
-- Assumes nothing.
use Rattle.std.specs.Prelude.{Result, Err, Ok}
use Prim.Native.Nat.{ℕ, ◌+◌, ◌<◌, ◌≤◌}
use mathlib.Core.Path.{◌≡◌, sym, ◌∙◌}
use mathlib.Core.Bool.{Bool, true, false, not}
use mathlib.Core.List.{List}
use lib.IntN.{ℤ}
use mir.Syntax.{w64}
use mir.Val.{SFits, to_z, of_z}
use borrow.Author.Tests.{lt-ltb, le-ltb, not-true, not-false}
use Rattle.rules.specs.declared.Fault.{Fault}
use Rattle.rules.specs.declared.Fault.TheVariants as fault
use Rattle.rules.proofs.Signed.{back, zero_abs, pos_abs}
use Rattle.rules_unit.specs.declared.Statement.{Statement}
use Rattle.rules_unit.specs.Codes.{Code}
use Rattle.rules_unit.specs.Expressions.{next_at}
use Rattle.rules_run.specs.declared.Flow.{Flow}
use Rattle.rules_run.specs.declared.Flow.TheVariants as flow
use Rattle.rules_run.specs.declared.Turn.{Turn}
use Rattle.rules_run.specs.declared.Look.{Look}
use Rattle.rules_run.specs.Evaluation.{worked_of, value_at}
use Rattle.rules_run.specs.Turns.{on_place, testb, controls, enter_flow, enter_by, enter_at, enters}
use Rattle.run_passes.specs.Passes.{enter_step, enter_limit}
use Rattle.run_passes.proofs.Values.{tested_by}

-- ---- the three numbers are known

module _ (end : ℕ) (v limit step : ℤ) (fv : SFits w64 v) (fl : SFits w64 limit) (fs : SFits w64 step) where
  -- b is whether a pass follows
  module _ (b : Bool) (e : b ≡ testb (to_z w64 (of_z w64 v)) (to_z w64 (of_z w64 limit)) (to_z w64 (of_z w64 step))) where
    pub flow_in : b ≡ true → flow.Enter (to_z w64 (of_z w64 limit)) (to_z w64 (of_z w64 step)) ≡ enter_flow end v limit step
    flow_in h = rw (← tested_by v limit step fv fl fs b e, h, back fl, back fs)

    pub flow_over : b ≡ false → flow.Goto (end + 1) ≡ enter_flow end v limit step
    flow_over h = rw (← tested_by v limit step fv fl fs b e, h)

  module _ (a n : ℕ) (t : Result Turn Fault) where
    pub by_zero : of_z w64 step ≡ 0 → t ≡ Err fault.ZeroStep → t ≡ enter_by end a n v limit step
    by_zero e q = rw (zero_abs step fs e) q

    pub by_control : (g : Flow) → (of_z w64 step ≡ 0 → ⊥) → g ≡ enter_flow end (to_z w64 (of_z w64 v)) (to_z w64 (of_z w64 limit)) (to_z w64 (of_z w64 step))
        → t ≡ controls a n (to_z w64 (of_z w64 v)) g → t ≡ enter_by end a n v limit step
    by_control g h e q = rw (pos_abs step h) (rw (e, back fv, back fl, back fs) at q)

-- ---- one number after the other; r is what the callee found of the number at e

module _ (c : Code) (d : List ℕ) (e end a n : ℕ) (v : ℤ) (t : Result Turn Fault) (r : Result ℤ Fault) (q : r ≡ value_at c d e) where
  module _ (limit : ℤ) where
    pub step_known : {step : ℤ} → SFits w64 v → SFits w64 limit → r ≡ Ok step → SFits w64 step
        → t ≡ enter_by end a n (to_z w64 (of_z w64 v)) (to_z w64 (of_z w64 limit)) (to_z w64 (of_z w64 step)) → t ≡ enter_step c d e end a n v limit
    unfolding enter_step
    step_known fv fl h fs z = rw (sym q ∙ h) (rw (back fv, back fl, back fs) at z)

    pub step_failed : (f : Fault) → r ≡ Err f → t ≡ Err f → t ≡ enter_step c d e end a n v limit
    unfolding enter_step
    step_failed f h z = rw (sym q ∙ h) z

  -- e' is the code's own offset of the step
  pub limit_known : {limit : ℤ} (e' : ℕ) → SFits w64 v → r ≡ Ok limit → SFits w64 limit → e' ≡ next_at c e
      → t ≡ enter_step c d e' end a n (to_z w64 (of_z w64 v)) (to_z w64 (of_z w64 limit)) → t ≡ enter_limit c d e end a n v
  unfolding enter_limit
  limit_known e' fv h fl i z = rw (sym q ∙ h) (rw (i, back fv, back fl) at z)

  pub limit_failed : (f : Fault) → r ≡ Err f → t ≡ Err f → t ≡ enter_limit c d e end a n v
  unfolding enter_limit
  limit_failed f h z = rw (sym q ∙ h) z

module _ (c : Code) (d : List ℕ) (s : Statement) (decimal : Bool) (a n : ℕ) (t : Result Turn Fault) where
  -- r is what the callee found of the start, e the code's own offset of the limit
  module _ (h : not decimal ≡ false) (r : Result ℤ Fault) (q : r ≡ value_at c d s.b) where
    pub start_known : {v : ℤ} (e : ℕ) → r ≡ Ok v → SFits w64 v → e ≡ next_at c s.b → t ≡ enter_limit c d e s.c a n (to_z w64 (of_z w64 v)) → t ≡ enter_at c d s decimal a n
    unfolding enter_limit enter_step
    start_known e g f i z = rw (not-false decimal h, sym q ∙ g) (rw (i, back f) at z)

-- ---- the whole

module _ (c : Code) (l : Look) (d : List ℕ) (s : Statement) (t : Result Turn Fault) where
  pub enters_full : 16 ≤ l.opened → t ≡ Err fault.LoopsFull → t ≡ enters c l d s
  unfolding enters
  enters_full h q = rw (le-ltb l.opened 16 h) q

  pub enters_at : l.opened < 16 → t ≡ on_place (worked_of c d (c.items s.a)) (enter_at c d s) → t ≡ enters c l d s
  unfolding enters
  enters_at h q = rw (lt-ltb l.opened 16 h) q
