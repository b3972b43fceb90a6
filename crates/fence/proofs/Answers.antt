-- The statements of a unit and the answers of the check: one law for each way out of the code.
-- Assumes nothing.
use Rattle.std.specs.Prelude.{Result, Err, Ok}
use mathlib.Core.Path.{◌≡◌, sym, ◌∙◌}
use mathlib.Core.Bool.{Bool, true, false, not}
use mathlib.Core.List.{List}
use Prim.Native.Nat.{ℕ, ◌+◌, ◌-◌, ◌≤◌, ◌<◌}
use native.Mathlib.Omega.{arith}
use borrow.Author.Tests.{lt-ltb, le-ltb, not-true, not-false}
use Rattle.rules_unit.specs.declared.Parts.{Parts}
use Rattle.rules_unit.specs.declared.Refusal.{Refusal}
use Rattle.rules_unit.specs.Codes.{Code}
use Rattle.rules_unit.specs.Decode.{code_of}
use Rattle.rules_unit.specs.Checks.{check_of}
use Rattle.rules_unit.proofs.Statements.{left_suc, left_none}
use Rattle.rules_fence.specs.declared.Breach.{Breach}
use Rattle.rules_fence.specs.declared.Breach.TheVariants as breach
use Rattle.rules_fence.specs.declared.Verdict.{Verdict}
use Rattle.rules_fence.specs.declared.Verdict.TheVariants as verdict
use Rattle.rules_fence.specs.Breaches.{keepsb, breach_of, verdict_from, fence_of, breach_by, breach_in}

-- ---- the statements: n of them, i is the next one, and z is what the whole loop answers

module _ (c : Code) (n i : ℕ) (z : Verdict) (w : verdict_from c (n - i) i ≡ z) where
  pub verdict_yes : n ≤ i → verdict.Yes ≡ z
  unfolding verdict_from
  verdict_yes h = sym (rw (left_none n i h)) ∙ w

  -- b is what the statement breaks, and k whether that is nothing
  module _ (b : Breach) (k : Bool) (h : i < n) (eb : b ≡ breach_of c i) (ek : k ≡ keepsb b) where
    pub verdict_no : not k ≡ true → verdict.No i ≡ z
    unfolding verdict_from
    verdict_no t = sym (rw (left_suc n i h, ← eb, ← ek, not-true k t)) ∙ w

    pub verdict_on : not k ≡ false → verdict_from c (n - (i + 1)) (i + 1) ≡ z
    unfolding verdict_from
    verdict_on t = sym (rw (left_suc n i h, ← eb, ← ek, not-false k t)) ∙ w

-- ---- the unit

-- n is N as the code compares it
module _ (u : List ℕ) (p : Parts) (i n : ℕ) (en : n ≡ p.n) where
  pub by_past : n ≤ i → breach.None ≡ breach_by u i (Ok p)
  by_past h = rw (le-ltb i p.n (omega arith))

  pub by_in : (r : Breach) → i < n → r ≡ breach_of (code_of u p) i → r ≡ breach_by u i (Ok p)
  by_in r h q = rw (lt-ltb i p.n (omega arith)) q

-- v is the answer of the check
module _ (u : List ℕ) (v : Result Parts Refusal) (is : v ≡ check_of u) where
  pub fence_passed : (p : Parts) (r : Verdict) → v ≡ Ok p → r ≡ verdict_from (code_of u p) p.n 0 → r ≡ fence_of u
  unfolding fence_of
  fence_passed p r e q = rw (← is, e) q

  pub fence_refused : (x : Refusal) → v ≡ Err x → verdict.Refused x ≡ fence_of u
  unfolding fence_of
  fence_refused x e = rw (← is, e)

  module _ (i : ℕ) where
    pub breach_passed : (p : Parts) (r : Breach) → v ≡ Ok p → r ≡ breach_by u i (Ok p) → r ≡ breach_in u i
    unfolding breach_in
    breach_passed p r e q = rw (← is, e) q

    pub breach_refused : (x : Refusal) → v ≡ Err x → breach.None ≡ breach_in u i
    unfolding breach_in
    breach_refused x e = rw (← is, e)
