-- What a loop does with its control value, one law for each way out of the code. Signed numbers come as the code's own copies of them.
-- Assumes nothing.
use Rattle.rules.specs.declared.Fault.{Fault}
use Rattle.std.specs.Prelude.{Result, Err, Ok}
use Prim.Native.Nat.{ℕ, ◌*◌, ◌^◌, ◌≤◌}
use native.Mathlib.Omega.{arith}
use mathlib.Core.Path.{◌≡◌, refl, ap, ◌∙◌}
use mathlib.Core.Bool.{Bool, true, false, not, true≢false}
use lib.Dec.{ltb}
use lib.IntN.{ℤ, pos, negsuc, nat_abs}
use lib.Signed.{lt_z, le_z}
use mir.Syntax.{w64}
use mir.Val.{SFits, to_z, of_z}
use borrow.Author.Tests.{ltb-true, not-true, not-false}
use Rattle.rules.specs.declared.Fault.TheVariants as fault
use Rattle.rules.specs.Values.{Val}
use Rattle.rules.proofs.Signed.{back, again, op_plain}
use Rattle.rules_run.specs.declared.Write.TheVariants as write
use Rattle.rules_run.specs.declared.Flow.{Flow}
use Rattle.rules_run.specs.declared.Turn.{Turn}
use Rattle.rules_run.specs.Turns.{turn, testb, fitsb, controls}

-- ---- the test

down : (v limit s : ℤ) → lt_z s (pos 0) ≡ true → le_z limit v ≡ testb v limit s
down v limit (pos n) e = absurd (omega (arith, ltb-true n 0 e))
down v limit (negsuc n) e = refl

up : (v limit s : ℤ) → lt_z s (pos 0) ≡ false → le_z v limit ≡ testb v limit s
up v limit (pos n) e = refl
up v limit (negsuc n) e = absurd (true≢false e)

module _ (v limit step : ℤ) (fv : SFits w64 v) (fl : SFits w64 limit) (fs : SFits w64 step) where
  pub test_down : lt_z (to_z w64 (of_z w64 step)) (pos 0) ≡ true → le_z (to_z w64 (of_z w64 limit)) (to_z w64 (of_z w64 v)) ≡ testb v limit step
  test_down e = op_plain le_z fl fv ∙ down v limit step (rw (back fs) at e)

  pub test_up : lt_z (to_z w64 (of_z w64 step)) (pos 0) ≡ false → le_z (to_z w64 (of_z w64 v)) (to_z w64 (of_z w64 limit)) ≡ testb v limit step
  test_up e = op_plain le_z fv fl ∙ up v limit step (rw (back fs) at e)

  -- b is what the callee answered of its copies
  pub tested_by : (b : Bool) → b ≡ testb (to_z w64 (of_z w64 v)) (to_z w64 (of_z w64 limit)) (to_z w64 (of_z w64 step)) → b ≡ testb v limit step
  tested_by b e = rw (back fv, back fl, back fs) at e

-- ---- room

pub small_again : {v : ℤ} → Val (10 ^ 18) v → nat_abs (to_z w64 (of_z w64 v)) ≤ 2 * 10 ^ 18
small_again h = omega (arith, (again h).small)

-- m is the magnitude of v, w the power of ten
pub fits_by : (n : ℕ) {v : ℤ} (m w : ℕ) (r : Bool) → SFits w64 v → m ≡ nat_abs (to_z w64 (of_z w64 v)) → w ≡ 10 ^ n → r ≡ ltb m w → r ≡ fitsb n v
fits_by n {v} m w r f em ew e = let q : m ≡ nat_abs v = em ∙ ap nat_abs (back f) in rw (← q, ← ew) e

-- b is whether v fits
module _ (a n : ℕ) {v : ℤ} (g : Flow) (b : Bool) (f : SFits w64 v) (e : b ≡ fitsb n (to_z w64 (of_z w64 v))) where
  told : b ≡ fitsb n v
  told = e ∙ ap (fitsb n) (back f)

  pub control_not : (t : Result Turn Fault) → not b ≡ true → t ≡ Err fault.TooLong → t ≡ controls a n v g
  control_not t h q = rw (← told, not-true b h) q

  pub control_fits : not b ≡ false → ◌≡◌ {A = Result Turn Fault} (Ok (turn (write.Number a n (to_z w64 (of_z w64 v))) g)) (controls a n v g)
  control_fits h = rw (← told, not-false b h, back f)
