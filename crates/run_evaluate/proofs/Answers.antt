-- What an expression comes to, for one who asks for a place or for a number: one law for each thing that it may be, and where it lies.
-- Assumes nothing.
use Rattle.std.specs.Prelude.{Result, Ok, Err}
use Prim.Native.Nat.{ℕ, ◌+◌, ◌^◌, ◌≤◌}
use native.Mathlib.Omega.{arith}
use mathlib.Core.Path.{◌≡◌, sym, ◌∙◌, ap, subst}
use mathlib.Core.Bool.{Bool, true}
use mathlib.Core.List.{List}
use lib.IntN.{ℤ}
use lib.ListN.{length}
use mir.Syntax.{w64}
use mir.Val.{to_z, of_z}
use Rattle.rules.specs.declared.Fault.{Fault}
use Rattle.rules.specs.declared.Fault.TheVariants as fault
use Rattle.rules.specs.Values.{Val}
use Rattle.rules.proofs.Signed.{again, pow_le18}
use Rattle.rules.proofs.Range.{of_range}
use Rattle.rules_unit.specs.declared.Parts.{Parts}
use Rattle.rules_unit.specs.declared.Item.{Item}
use Rattle.rules_unit.specs.Codes.{Code}
use Rattle.rules_unit.specs.Decode.{SoundDialect, code_of}
use Rattle.rules_run.specs.declared.Worked.{Worked}
use Rattle.rules_run.specs.declared.Worked.TheVariants as worked
use Rattle.rules_run.specs.declared.Turn.{Turn}
use Rattle.rules_run.specs.Evaluation.{worked_of, number_of, Within, value_at}
use Rattle.rules_run.specs.Turns.{on_place}
use Rattle.rules_run.proofs.Bounded.{Bounded, worked_bounded, number_bounded, worked_within, place_within}

-- ---- a place: x is what the callee found, w what the rule has

module _ (x w : Result Worked Fault) (k : Bool → ℕ → ℕ → Result Turn Fault) (t : Result Turn Fault) (e : x ≡ w) where
  pub on_number_lem : {v : ℤ} → (y : Worked) → x ≡ Ok y → y ≡ worked.Number v → t ≡ Err fault.Malformed → t ≡ on_place w k
  on_number_lem {v} y h g q = rw (sym e ∙ h, g) q

  pub on_place_lem : (decimal : Bool) (a n : ℕ) → (y : Worked) → x ≡ Ok y → y ≡ worked.Place decimal a n → t ≡ k decimal a n → t ≡ on_place w k
  on_place_lem decimal a n y h g q = rw (sym e ∙ h, g) q

  pub on_text : (p l : ℕ) → (y : Worked) → x ≡ Ok y → y ≡ worked.Text p l → t ≡ Err fault.Malformed → t ≡ on_place w k
  on_text p l y h g q = rw (sym e ∙ h, g) q

  pub on_failed : (f : Fault) → x ≡ Err f → t ≡ Err f → t ≡ on_place w k
  on_failed f h q = rw (sym e ∙ h) q

pub ruleset on_places = (on_number_lem, on_place_lem, on_text, on_failed)

-- ---- a number

-- the number of what the callee found
pub number_by : (c : Code) (d : List ℕ) (is : List Item) (x : Result Worked Fault) (r : Result ℤ Fault) → x ≡ worked_of c d is → r ≡ number_of c d x → r ≡ number_of c d (worked_of c d is)
number_by c d is x r e h = h ∙ ap (number_of c d) e

module _ (u : List ℕ) (p : Parts) (d : List ℕ) (dialect : SoundDialect p.dialect) where
  tens : 10 ^ p.dialect.limit ≤ 10 ^ 18
  tens = pow_le18 (omega (arith, dialect.limit.most))

  bounded : (is : List Item) → Bounded (10 ^ 18) (code_of u p) (length d) (worked_of (code_of u p) d is)
  bounded is = worked_bounded (code_of u p) d (10 ^ 18) (omega arith) dialect.bound.most tens is

  -- It is in the range of values.
  pub value_again : (e : ℕ) (r : Result ℤ Fault) (v : ℤ) → r ≡ value_at (code_of u p) d e → r ≡ Ok v → Val (10 ^ 18) (to_z w64 (of_z w64 v))
  value_again e r v q h =
      let c : Code = code_of u p in
      again
      (of_range (sym q ∙ h) (number_bounded c d (10 ^ 18) (omega arith) dialect.bound.most tens _ (worked_of c d (c.items e)) (bounded (c.items e))))

  pub number_again : (e : ℕ) (x : Result Worked Fault) (r : Result ℤ Fault) (v : ℤ) → x ≡ worked_of (code_of u p) d ((code_of u p).items e) → r ≡ number_of (code_of u p) d x → r ≡ Ok v
      → Val (10 ^ 18) (to_z w64 (of_z w64 v))
  number_again e x r v f q h = value_again e r v (number_by (code_of u p) d ((code_of u p).items e) x r f q) h

  -- ---- where it lies

  module _ (is : List Item) (x : Result Worked Fault) (e : x ≡ worked_of (code_of u p) d is) where
    -- What the expression comes to lies where the rules say.
    pub within_by : Within (code_of u p) (length d) x
    within_by = rw e (worked_within (code_of u p) d dialect.limit dialect.bound is)

    -- A place lies inside the data.
    pub found_inside : (decimal : Bool) (a n : ℕ) → (y : Worked) → x ≡ Ok y → y ≡ worked.Place decimal a n → a + n ≤ length d
    found_inside decimal a n y h g = place_within (code_of u p) (length d) x decimal a n within_by (h ∙ ap Ok g)

    -- A decimal one has no more characters than a number has digits.
    pub found_short : (decimal : Bool) (a n : ℕ) → (y : Worked) → x ≡ Ok y → y ≡ worked.Place decimal a n → decimal ≡ true → n ≤ 18
    found_short decimal a n y h g f =
        let b : Bounded (10 ^ 18) (code_of u p) (length d) (Ok (worked.Place decimal a n)) = subst (Bounded (10 ^ 18) (code_of u p) (length d)) (sym e ∙ h ∙ ap Ok g) (bounded is) in
        omega (arith, b.1 f, dialect.limit.most)
