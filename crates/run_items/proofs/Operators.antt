-- The arm of an operator: what its function answers of the two values, passed on as bits, is what the rule of the operator answers of them.
-- Assumes nothing.
use Rattle.std.specs.Prelude.{Result, Ok}
use Rattle.rules.specs.declared.Fault.{Fault}
use mathlib.Core.Path.{◌≡◌, sym, ap, ◌∙◌}
use Prim.Native.Nat.{ℕ}
use lib.IntN.{ℤ}
use mir.Syntax.{w64}
use mir.Val.{SFits, to_z, of_z}
use Rattle.rules.proofs.Signed.{back, op_plain}
use Rattle.rules_unit.specs.declared.Op.{Op}
use Rattle.rules_run.specs.Evaluation.{calc}

module _ (top : ℕ) (o : Op) (x y : ℤ) (fx : SFits w64 x) (fy : SFits w64 y) (arm : Op) (e : o ≡ arm) where
  pub by_num : (r : Result ℤ Fault) → r ≡ calc top arm (to_z w64 (of_z w64 x)) (to_z w64 (of_z w64 y)) → r ≡ calc top o x y
  by_num r q = q ∙ op_plain (calc top arm) fx fy ∙ ap (λ (p : Op). calc top p x y) (sym e)

  pub by_value : {v : ℤ} → SFits w64 v → Ok v ≡ calc top arm (to_z w64 (of_z w64 x)) (to_z w64 (of_z w64 y))
      → Ok (to_z w64 (of_z w64 v)) ≡ calc top o x y
  by_value {v} f q = ap Ok (back f) ∙ by_num (Ok v) q
