-- What a SET with a mask answers of a place that is found, one law for each way.
-- Assumes nothing.
use Rattle.std.specs.Prelude.{Result, Err, Ok}
use Prim.Native.Nat.{ℕ}
use mathlib.Core.Path.{◌≡◌, sym, ◌∙◌, ap}
use mathlib.Core.Bool.{Bool, true, false}
use lib.IntN.{ℤ}
use mir.Syntax.{w64}
use mir.Val.{SFits, to_z, of_z}
use Rattle.rules.specs.declared.Fault.{Fault}
use Rattle.rules.specs.declared.Fault.TheVariants as fault
use Rattle.rules.proofs.Signed.{back}
use Rattle.rules_run.specs.declared.Worked.{Worked}
use Rattle.rules_run.specs.declared.Worked.TheVariants as worked
use Rattle.rules_run.specs.declared.Write.TheVariants as write
use Rattle.rules_run.specs.declared.Turn.{Turn}
use Rattle.rules_run.specs.Turns.{stores, edit_by, edit_at}

-- ---- the mask is found; y is what the callee found of the number, r what the rule has

module _ (a n : ℕ) (r y : Result ℤ Fault) (t : Result Turn Fault) (e : y ≡ r) where
  pub place_none : (from k : ℕ) (f : Fault) → y ≡ Err f → t ≡ Err f → t ≡ edit_by a n (Ok (worked.Place false from k)) r
  place_none from k f h q = rw (sym e ∙ h) q

  pub literal_none : (place k : ℕ) (f : Fault) → y ≡ Err f → t ≡ Err f → t ≡ edit_by a n (Ok (worked.Text place k)) r
  literal_none place k f h q = rw (sym e ∙ h) q

-- ---- x is what the callee found of the mask, w what the rule has; the number comes to r

module _ (decimal : Bool) (a n : ℕ) (w : Result Worked Fault) (r : Result ℤ Fault) (t : Result Turn Fault) where
  pub edit_decimal : decimal ≡ true → t ≡ Err fault.Malformed → t ≡ edit_at decimal a n w r
  edit_decimal h q = rw h q

  module _ (x : Result Worked Fault) (h : decimal ≡ false) (e : x ≡ w) where
    pub edit_number : {v : ℤ} → (y : Worked) → x ≡ Ok y → y ≡ worked.Number v → t ≡ Err fault.Malformed → t ≡ edit_at decimal a n w r
    edit_number y g j q = rw (h, sym e ∙ g, j) q

    pub edit_no_mask : (number : Bool) (from k : ℕ) → (y : Worked) → x ≡ Ok y → y ≡ worked.Place number from k → number ≡ true → t ≡ Err fault.Malformed → t ≡ edit_at decimal a n w r
    edit_no_mask number from k y g j m q = rw (h, sym e ∙ g, j, m) q

    pub edit_place : (number : Bool) (from k : ℕ) → (y : Worked) → x ≡ Ok y → y ≡ worked.Place number from k → number ≡ false → t ≡ edit_by a n (Ok (worked.Place false from k)) r → t ≡ edit_at decimal a n w r
    edit_place number from k y g j m q = rw (h, sym e ∙ g, j, m) q

    pub edit_text : (p l : ℕ) → (y : Worked) → x ≡ Ok y → y ≡ worked.Text p l → t ≡ edit_by a n (Ok (worked.Text p l)) r → t ≡ edit_at decimal a n w r
    edit_text p l y g j q = rw (h, sym e ∙ g, j) q

    pub edit_failed : (f : Fault) → x ≡ Err f → t ≡ Err f → t ≡ edit_at decimal a n w r
    edit_failed f g q = rw (h, sym e ∙ g) q

pub ruleset edits = (edit_decimal, edit_number, edit_no_mask, edit_place, edit_text, edit_failed)
