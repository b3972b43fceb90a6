-- The uses of a statement, and what a passed check gives: one law for each way out of the code.
-- Assumes nothing.
use Rattle.std.specs.Prelude.{Ok, None, Option, Some}
use mathlib.Core.Path.{◌≡◌, refl, sym, ap, ◌∙◌, subst}
use mathlib.Core.Bool.{Bool, true, false, cond, not}
use mathlib.Core.List.{List, [], ◌∷◌}
use Prim.Native.Nat.{ℕ, zero, suc, ◌+◌, ◌≤◌, ◌<◌}
use native.Mathlib.Numerals.{add-one}
use native.Mathlib.Omega.{arith}
use lib.ListN.{length, get_or, drop, drop_of_length-le}
use borrow.Author.Tests.{not-true, not-false}
use Rattle.rules_unit.specs.declared.Parts.{Parts}
use Rattle.rules_unit.specs.declared.Statement.{Statement}
use Rattle.rules_unit.specs.declared.Verb.{Verb}
use Rattle.rules_unit.specs.declared.Row.{Row}
use Rattle.rules_unit.specs.declared.Use.{Use}
use Rattle.rules_unit.specs.Codes.{Code}
use Rattle.rules_unit.specs.Decode.{code_of}
use Rattle.rules_unit.specs.Expressions.{useb}
use Rattle.rules_unit.specs.Table.{verb_of, row_of, uses_by, uses_of}
use Rattle.rules_unit.specs.Checks.{check_of}
use Rattle.rules_unit.proofs.Sound.{passed_sound}
use Rattle.rules_unit.proofs.Statements.{uses_good}
use Rattle.rules_fence.specs.declared.Breach.{Breach}
use Rattle.rules_fence.specs.declared.Breach.TheVariants as breach
use Rattle.rules_fence.specs.Breaches.{keepsb, first_of, use_breach, uses_breach, breach_of}
use Rattle.rules_fence.proofs.Sorts.{known_of}
use Rattle.fence_statements.specs.Asked.{AllKnown, AllGood}

-- ---- one use

module _ (u : List ℕ) (p : Parts) where
  module _ (x : Option Use) where
    module _ (y : Use) (e : x ≡ Some y) where
      pub use_known : useb (code_of u p) x ≡ true → AllKnown (code_of u p) ((code_of u p).items y.at)
      use_known h = record { each = known_of (code_of u p) y.want y.at (rw e at h) }

-- ---- one statement

uses_suc : (c : Code) (us : List (Option Use)) (k : ℕ)
    → uses_breach c (drop k us) ≡ first_of (use_breach c (get_or us k None)) (uses_breach c (drop (suc k) us))
unfolding uses_breach
uses_suc c [] zero = refl
uses_suc c [] (suc k) = refl
uses_suc c (x ∷ us) zero = refl
uses_suc c (x ∷ us) (suc k) = uses_suc c us k

uses_end : (c : Code) (us : List (Option Use)) (k : ℕ) → length us ≤ k → uses_breach c (drop k us) ≡ breach.None
unfolding uses_breach
uses_end c us k h = rw (drop_of_length-le us h)

-- s, v and r are the statement, its verb and its row, as the code has asked for them
module _ (u : List ℕ) (p : Parts) (i : ℕ) (s : Statement) (v : Verb) (r : Row)
    (es : s ≡ (code_of u p).statement i) (ev : v ≡ verb_of s.code) (er : r ≡ row_of v) where
  own : uses_by (code_of u p) r s ≡ uses_of (code_of u p) ((code_of u p).statement i)
  own = ap (λ (x : Row). uses_by (code_of u p) x s) (er ∙ ap row_of ev) ∙ ap (uses_of (code_of u p)) es

  pub all_good : check_of u ≡ Ok p → i < p.n → AllGood (code_of u p) (uses_by (code_of u p) r s)
  all_good e h =
      subst (AllGood (code_of u p)) (sym own) (record { each = uses_good (code_of u p) i ((passed_sound u p e).code.statements i h).uses })

  pub breach_own : (z : Breach) → z ≡ uses_breach (code_of u p) (uses_by (code_of u p) r s) → z ≡ breach_of (code_of u p) i
  unfolding breach_of
  breach_own z e = e ∙ ap (uses_breach (code_of u p)) own

-- the loop over the uses of a statement whose row is given: what is left from the use k on gives the answer of the whole
pub record Left (u : List ℕ) (p : Parts) (r : Row) (s : Statement) (k : ℕ) : Type 0 where
  pub gives : uses_breach (code_of u p) (drop k (uses_by (code_of u p) r s)) ≡ uses_breach (code_of u p) (uses_by (code_of u p) r s)

pub left_all : (u : List ℕ) (p : Parts) (r : Row) (s : Statement) → Left u p r s 0
left_all u p r s = record { gives = refl }

-- n is how many uses there are, x the next one, b what it breaks, and t whether that is nothing
module _ (u : List ℕ) (p : Parts) (r : Row) (s : Statement) (k : ℕ) (left : Left u p r s k) where
  pub uses_over : (n : ℕ) → n ≡ length (uses_by (code_of u p) r s) → n ≤ k → breach.None ≡ uses_breach (code_of u p) (uses_by (code_of u p) r s)
  uses_over n e h = sym (uses_end (code_of u p) (uses_by (code_of u p) r s) k (omega (arith, e, h))) ∙ left.gives

  module _ (x : Option Use) (ex : x ≡ get_or (uses_by (code_of u p) r s) k None) where
    pub use_good : (n : ℕ) → AllGood (code_of u p) (uses_by (code_of u p) r s) → n ≡ length (uses_by (code_of u p) r s) → k < n → useb (code_of u p) x ≡ true
    use_good n good e h = rw ex (good.each k (omega (arith, e, h)))

    module _ (b : Breach) (t : Bool) (eb : b ≡ use_breach (code_of u p) x) (et : t ≡ keepsb b) where
      step : uses_breach (code_of u p) (drop k (uses_by (code_of u p) r s)) ≡ cond t (uses_breach (code_of u p) (drop (suc k) (uses_by (code_of u p) r s))) b
      step = uses_suc (code_of u p) (uses_by (code_of u p) r s) k ∙ rw (← ex, ← eb, ← et)

      pub uses_break : not t ≡ true → b ≡ uses_breach (code_of u p) (uses_by (code_of u p) r s)
      uses_break h = sym (rw (not-true t h) at step) ∙ left.gives

      pub uses_on : not t ≡ false → Left u p r s (k + 1)
      uses_on h = record { gives = rw (add-one k) (sym (rw (not-false t h) at step) ∙ left.gives) }
