-- The uses of a statement, tested one by one; the laws of the list hold for any number.
-- Assumes nothing.
use Rattle.std.specs.Prelude.{None, Option}
use mathlib.Core.Path.{◌≡◌, refl, sym, ap, ◌∙◌}
use mathlib.Core.Bool.{Bool, true, false, cond, not}
use mathlib.Core.List.{List, [], ◌∷◌}
use Prim.Native.Nat.{ℕ, zero, suc, ◌+◌, ◌-◌, ◌≤◌, ◌<◌}
use native.Mathlib.Numerals.{add-one}
use native.Mathlib.Omega.{arith}
use lib.ListN.{length, get_or, drop, drop_of_length-le, get_or-eq_default}
use borrow.Author.Tests.{not-true, not-false}
use Rattle.rules_unit.specs.declared.Parts.{Parts}
use Rattle.rules_unit.specs.declared.Statement.{Statement}
use Rattle.rules_unit.specs.declared.Verb.{Verb}
use Rattle.rules_unit.specs.declared.Role.{Role}
use Rattle.rules_unit.specs.declared.Role.TheVariants as role
use Rattle.rules_unit.specs.declared.Row.{Row}
use Rattle.rules_unit.specs.declared.Use.{Use}
use Rattle.rules_unit.specs.Codes.{Code}
use Rattle.rules_unit.specs.Decode.{code_of}
use Rattle.rules_unit.specs.Expressions.{next_at, useb, usesb}
use Rattle.rules_unit.specs.Table.{verb_of, row_of, use_of, more_of, uses_by, uses_of}

-- ---- any list of uses

uses_suc : (c : Code) (us : List (Option Use)) (k : ℕ) → usesb c (drop k us) ≡ cond (useb c (get_or us k None)) (usesb c (drop (suc k) us)) false
unfolding usesb
uses_suc c [] zero = refl
uses_suc c [] (suc k) = refl
uses_suc c (x ∷ us) zero = refl
uses_suc c (x ∷ us) (suc k) = uses_suc c us k

-- what is left from the use k on is that use, and what is left after it
pub uses_step : (c : Code) (us : List (Option Use)) (k : ℕ) → usesb c (drop k us) ≡ cond (useb c (get_or us k None)) (usesb c (drop (k + 1) us)) false
uses_step c us k = rw (add-one k) (uses_suc c us k)

pub uses_end : (c : Code) (us : List (Option Use)) (k : ℕ) → length us ≤ k → usesb c (drop k us) ≡ true
unfolding usesb
uses_end c us k h = rw (drop_of_length-le us h)

-- ---- the uses of a statement

-- only numbers in a row have more uses
more_numbers : (c : Code) (r : Role) (x : ℕ) → 0 < length (more_of c r x) → r ≡ role.Numbers
more_numbers c role.Unused x h = absurd (omega arith)
more_numbers c (role.Written w) x h = absurd (omega arith)
more_numbers c (role.Read w) x h = absurd (omega arith)
more_numbers c role.Target x h = absurd (omega arith)
more_numbers c role.Table x h = absurd (omega arith)
more_numbers c role.Numbers x h = refl
more_numbers c role.End x h = absurd (omega arith)
more_numbers c role.Never x h = absurd (omega arith)

-- the numbers behind the one at e, where y is the offset that the code has found for the next one, and z for the one after it
module _ (u : List ℕ) (p : Parts) (e k y : ℕ) (x : Option Use) (ey : y ≡ next_at (code_of u p) e) where
  pub behind_second : x ≡ use_of role.Numbers y → k ≡ 0 → x ≡ get_or (more_of (code_of u p) role.Numbers e) k None
  behind_second q h = rw (h, ← ey) q

  pub behind_third : (z : ℕ) → z ≡ next_at (code_of u p) y → x ≡ use_of role.Numbers z → k ≡ 1 → x ≡ get_or (more_of (code_of u p) role.Numbers e) k None
  behind_third z ez q h = rw (h, ← ey, ← ez) q

pub behind_none : (u : List ℕ) (p : Parts) (e k : ℕ) → (k ≡ 0 → ⊥) → (k ≡ 1 → ⊥) → None ≡ get_or (more_of (code_of u p) role.Numbers e) k None
behind_none u p e k h g =
    let past : 2 ≤ k = omega arith in sym (get_or-eq_default (more_of (code_of u p) role.Numbers e) None past)

module _ (u : List ℕ) (p : Parts) (s : Statement) (r : Row) (k : ℕ) (x : Option Use) where
  pub use_a : x ≡ use_of r.a s.a → k ≡ 0 → x ≡ get_or (uses_by (code_of u p) r s) k None
  use_a e h = rw h e

  pub use_b : x ≡ use_of r.b s.b → k ≡ 1 → x ≡ get_or (uses_by (code_of u p) r s) k None
  use_b e h = rw h e

  pub use_c : x ≡ use_of r.c s.c → k ≡ 2 → x ≡ get_or (uses_by (code_of u p) r s) k None
  use_c e h = rw h e

  pub use_more : k < length (uses_by (code_of u p) r s) → (k ≡ 0 → ⊥) → (k ≡ 1 → ⊥) → (k ≡ 2 → ⊥)
      → x ≡ get_or (more_of (code_of u p) role.Numbers s.b) (k - 3) None → x ≡ get_or (uses_by (code_of u p) r s) k None
  use_more l h g f e =
      let past : k ≡ suc (suc (suc (k - 3))) = omega arith in
      let more : 0 < length (more_of (code_of u p) r.b s.b) = omega (arith, l) in
      rw (past, more_numbers (code_of u p) r.b s.b more) e

-- v and r are the verb and the row that the code has asked for
pub uses_own : (c : Code) (s : Statement) (v : Verb) (r : Row) (z : Bool) → v ≡ verb_of s.code → r ≡ row_of v → z ≡ usesb c (uses_by c r s)
    → z ≡ usesb c (uses_of c s)
uses_own c s v r z ev er e = e ∙ ap (λ (x : Row). usesb c (uses_by c x s)) (er ∙ ap row_of ev)

-- the loop over the uses: k is the next one, x that use, r what is found of it, and z what the whole loop answers
module _ (u : List ℕ) (p : Parts) (us : List (Option Use)) (k : ℕ) (z : Bool) (left : usesb (code_of u p) (drop k us) ≡ z) where
  pub uses_over : (n : ℕ) → n ≡ length us → n ≤ k → true ≡ z
  uses_over n e h = sym (uses_end (code_of u p) us k (omega (arith, e, h))) ∙ left

  module _ (x : Option Use) (r : Bool) (e : x ≡ get_or us k None) (f : r ≡ useb (code_of u p) x) where
    step : usesb (code_of u p) (drop k us) ≡ cond r (usesb (code_of u p) (drop (k + 1) us)) false
    step = uses_step (code_of u p) us k ∙ rw (← e, ← f)

    pub uses_refused : not r ≡ true → false ≡ z
    uses_refused h = sym (rw (not-true r h) at step) ∙ left

    pub uses_on : not r ≡ false → usesb (code_of u p) (drop (k + 1) us) ≡ z
    uses_on h = sym (rw (not-false r h) at step) ∙ left

pub ruleset use_laws = (use_a, use_b, use_c, use_more)

pub ruleset behind_laws = (behind_second, behind_third, behind_none)

pub ruleset loop_laws = (uses_refused, uses_on, uses_over)
