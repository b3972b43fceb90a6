-- A field entry by its number: one law for each way out of the code.
-- Assumes nothing.
use Rattle.std.specs.Prelude.{Result, Err, Ok, Option, None, Some}
use Prim.Native.Nat.{ℕ, ◌≤◌, ◌<◌}
use native.Mathlib.Omega.{arith}
use mathlib.Core.Path.{◌≡◌, ap}
use mathlib.Core.List.{List}
use borrow.Author.Tests.{lt-ltb, le-ltb}
use Rattle.rules_unit.specs.declared.Parts.{Parts}
use Rattle.rules_unit.specs.declared.Field.{Field}
use Rattle.rules_unit.specs.declared.Refusal.{Refusal}
use Rattle.rules_unit.specs.Decode.{code_of}
use Rattle.rules_unit.specs.Checks.{check_of}
use Rattle.rules_host.specs.Calls.{entry_by, entry_of}

-- n is F as the code compares it
module _ (u : List ℕ) (p : Parts) (i n : ℕ) (en : n ≡ p.f) where
  pub entry_past : n ≤ i → None ≡ entry_by u i (Ok p)
  entry_past h = rw (le-ltb i p.f (omega arith))

  pub entry_in : (x : Field) → i < n → x ≡ (code_of u p).field i → Some x ≡ entry_by u i (Ok p)
  entry_in x h e = rw (lt-ltb i p.f (omega arith)) (ap Some e)

-- v is the answer of the check
module _ (u : List ℕ) (i : ℕ) (v : Result Parts Refusal) (is : v ≡ check_of u) where
  pub entry_passed : (p : Parts) (r : Option Field) → v ≡ Ok p → r ≡ entry_by u i (Ok p) → r ≡ entry_of u i
  unfolding entry_of
  entry_passed p r e q = rw (← is, e) q

  pub entry_refused : (x : Refusal) → v ≡ Err x → None ≡ entry_of u i
  unfolding entry_of
  entry_refused x e = rw (← is, e)
