-- Where a jump on a number goes on: one law for each way out of the code.
-- Assumes nothing.
use Rattle.std.specs.Prelude.{Result, Err, Ok}
use Prim.Native.Nat.{ℕ, zero, suc, ◌+◌, ◌*◌, ◌^◌, ◌<◌, ◌≤◌}
use native.Mathlib.Omega.{arith}
use mathlib.Core.Path.{◌≡◌, refl, sym, ◌∙◌, ap}
use mathlib.Core.Bool.{Bool, true, false, cond}
use mathlib.Core.List.{List}
use lib.Dec.{leb}
use lib.IntN.{ℤ, pos, negsuc, nat_abs}
use borrow.Author.Tests.{le-leb, lt-leb}
use mir.Syntax.{w64}
use mir.Val.{SFits, to_z, of_z}
use Rattle.rules.specs.declared.Fault.{Fault}
use Rattle.rules.specs.Values.{Val, is_neg}
use Rattle.rules.proofs.Signed.{back, again, zero_abs, pos_abs}
use Rattle.rules_unit.specs.Codes.{Code}
use Rattle.rules_run.specs.declared.Worked.{Worked}
use Rattle.rules_run.specs.declared.Flow.{Flow}
use Rattle.rules_run.specs.declared.Flow.TheVariants as flow
use Rattle.rules_run.specs.declared.Turn.{Turn}
use Rattle.rules_run.specs.Evaluation.{number_of}
use Rattle.rules_run.specs.Turns.{goes, on_number, if_zero, choose}

-- ---- go to the target if a number is zero

module _ (target : ℕ) (v : ℤ) where
  pub zero_goes : SFits w64 v → of_z w64 v ≡ 0 → flow.Goto target ≡ if_zero target v
  zero_goes f h = sym (rw (zero_abs v f h))

  pub zero_next : (of_z w64 v ≡ 0 → ⊥) → flow.Next ≡ if_zero target v
  zero_next h = sym (rw (pos_abs v h))

-- ---- computed GOTO

pub small_again : {v : ℤ} → Val (10 ^ 18) v → nat_abs (to_z w64 (of_z w64 v)) ≤ 2 * 10 ^ 18
small_again h = omega (arith, (again h).small)

choose_some : (i n k : ℕ) → (k ≡ 0 → ⊥) → choose i n (pos k) ≡ cond (leb k n) (flow.Goto (i + k)) (flow.Goto (i + n + 1))
choose_some i n zero h = absurd (h refl)
choose_some i n (suc k) h = refl

-- b and k are the code's own sign and magnitude of v
module _ (i n : ℕ) {v : ℤ} (f : SFits w64 v) (b : Bool) (s : b ≡ is_neg (to_z w64 (of_z w64 v))) where
  pub choose_minus : b ≡ true → flow.Goto (i + n + 1) ≡ choose i n v
  choose_minus h = by v (sym h ∙ s ∙ ap is_neg (back f))
    where
      by : (z : ℤ) → true ≡ is_neg z → flow.Goto (i + n + 1) ≡ choose i n z
      by (pos k) e = cc
      by (negsuc k) e = refl

  module _ (g : b ≡ false) (k : ℕ) (m : k ≡ nat_abs (to_z w64 (of_z w64 v))) where
    plus : v ≡ pos k
    plus = by v (sym g ∙ s ∙ ap is_neg (back f)) (m ∙ ap nat_abs (back f))
      where
        by : (z : ℤ) → false ≡ is_neg z → k ≡ nat_abs z → z ≡ pos k
        by (pos j) e q = ap pos (sym q)
        by (negsuc j) e q = cc

    pub choose_zero : k ≡ 0 → flow.Goto (i + n + 1) ≡ choose i n v
    choose_zero h = rw (plus, h)

    pub choose_past : (k ≡ 0 → ⊥) → n < k → flow.Goto (i + n + 1) ≡ choose i n v
    choose_past h l = sym (rw plus (choose_some i n k h ∙ rw (lt-leb k n l)))

    pub choose_at : (k ≡ 0 → ⊥) → k ≤ n → flow.Goto (i + k) ≡ choose i n v
    choose_at h l = sym (rw plus (choose_some i n k h ∙ rw (le-leb k n l)))
