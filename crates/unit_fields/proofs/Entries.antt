-- Laws of the loop over the field entries: n of them, of which i are passed, and z is what the whole loop answers. Assumes nothing.
use Prim.Native.Nat.{ℕ, ◌+◌, ◌-◌, ◌<◌, ◌≤◌}
use mathlib.Core.Path.{◌≡◌, sym, ◌∙◌}
use mathlib.Core.Bool.{true, false}
use native.Mathlib.Omega.{arith}
use Rattle.rules_unit.specs.Codes.{Code}
use Rattle.rules_unit.specs.Checks.{entryb, floor_after, good_fields}
use Rattle.rules.proofs.Walk.{seen_yes, seen_no}
use Rattle.rules_unit.proofs.Statements.{left_all, left_suc, left_none}

module _ (c : Code) (n i floor z : ℕ) where
  pub fields_on : (g : ℕ) → i < n → entryb c i floor ≡ true → g ≡ floor_after c i floor → good_fields c (n - i) i floor ≡ z
      → good_fields c (n - (i + 1)) (i + 1) g ≡ z
  unfolding good_fields
  fields_on g h e f w = rw f (sym (rw (left_suc n i h, e)) ∙ w)

  pub fields_stop : i < n → entryb c i floor ≡ false → good_fields c (n - i) i floor ≡ z → i ≡ z
  unfolding good_fields
  fields_stop h e w = sym (rw (left_suc n i h, e)) ∙ w

  pub fields_end : n ≤ i → i ≤ n → good_fields c (n - i) i floor ≡ z → n ≡ z
  unfolding good_fields
  fields_end h e w = let same : i ≡ n = omega arith in sym same ∙ sym (rw (left_none n i h)) ∙ w

pub ruleset fields_loop = (left_all, fields_on, fields_stop, fields_end, seen_yes, seen_no)
