-- Lemmas by which `search walk depth N` answers a `returns` whose definition is a chain of conds: each test on the way picks its arm. Tests
-- are comparisons of numbers, or a callee's answer that its contract equates to the definition's test.
-- Assumes nothing.
use Prim.Native.Nat.{ℕ}
use mathlib.Core.Path.{◌≡◌, refl, sym, ap, ◌∙◌}
use mathlib.Core.Bool.{Bool, true, false, cond, not}
use lib.Dec.{eqb}
use borrow.Author.Tests.{lt-ltb, le-ltb, le-leb, lt-leb, eq-eqb, ne_eqb, not-true, not-false}

module _ {A : Type 0} where
  pub cond_no : (b : Bool) (x y z : A) → b ≡ false → z ≡ y → z ≡ cond b x y
  cond_no b x y z h e = rw h e

  pub cond_yes : (b : Bool) (x y z : A) → b ≡ true → z ≡ x → z ≡ cond b x y
  cond_yes b x y z h e = rw h e

-- `if !f(..)`, taken and left: r is f's result, b the definition that f's contract equates it to
pub seen_no : (r b : Bool) → not r ≡ true → r ≡ b → b ≡ false
seen_no r b h e = sym e ∙ not-true r h

pub seen_yes : (r b : Bool) → not r ≡ false → r ≡ b → b ≡ true
seen_yes r b h e = sym e ∙ not-false r h

-- `if f(..)`, taken and left
pub told_yes : (r b : Bool) → r ≡ true → r ≡ b → b ≡ true
told_yes r b h e = sym e ∙ h

pub told_no : (r b : Bool) → r ≡ false → r ≡ b → b ≡ false
told_no r b h e = sym e ∙ h

-- the same where the definition's test is that b is not so
pub denied_no : (r b : Bool) → r ≡ true → r ≡ b → not b ≡ false
denied_no r b h e = ap not (sym e ∙ h)

pub denied_yes : (r b : Bool) → r ≡ false → r ≡ b → not b ≡ true
denied_yes r b h e = ap not (sym e ∙ h)

-- in the arm of key k of a `match` on x: x is not m
pub key_no : (x k m : ℕ) → x ≡ k → eqb k m ≡ false → eqb x m ≡ false
key_no x k m h e = rw h e

-- where a number is matched
pub ruleset walk_match = (cond_no, cond_yes, eq-eqb, ne_eqb, key_no)

-- where numbers are compared
pub ruleset walk = (cond_no, cond_yes, lt-ltb, le-ltb, le-leb, lt-leb, eq-eqb, ne_eqb)

-- where the tests are `f(..)`
pub ruleset walk_if = (cond_no, cond_yes, told_yes, told_no)

-- a fact of both arms, each with what the test said
pub cond_case : {A : Type 0} (P : A → Type 0) (b : Bool) (x y : A) → (b ≡ true → P x) → (b ≡ false → P y) → P (cond b x y)
cond_case P true x y f g = f refl
cond_case P false x y f g = g refl

pub cond_either : {A : Type 0} (P : A → Type 0) (b : Bool) (x y : A) → P x → P y → P (cond b x y)
cond_either P true x y f g = f
cond_either P false x y f g = g

-- both arms are the same
pub cond_same : {A : Type 0} (b : Bool) (x : A) → cond b x x ≡ x
cond_same true x = refl
cond_same false x = refl
