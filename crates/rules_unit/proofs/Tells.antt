-- Tests and the statements that they tell: what a chain of tests tells is put together from what each test tells.
-- Assumes nothing.
use Prim.Native.Nat.{ℕ, ◌+◌, ◌<◌, ◌≤◌}
use native.Mathlib.Omega.{arith}
use mathlib.Core.Path.{◌≡◌, refl, subst}
use mathlib.Core.Bool.{Bool, true, false, cond, not, false≢true, true≢false}
use lib.Dec.{ltb, leb, eqb}
use borrow.Author.Tests.{ltb-true, ltb-false, leb-true, eqb-true, lt-ltb, le-leb, eq-eqb}
use Rattle.rules.specs.Tests.{◌and◌}
use Rattle.rules.proofs.Tests.{both}

-- The test t is true exactly when P holds.
pub record Tells (t : Bool) (P : Type 0) : Type 0 where
  pub to : t ≡ true → P
  pub of : P → t ≡ true

pub tells_lt : (a b : ℕ) → Tells (ltb a b) (a < b)
tells_lt a b = record { to = ltb-true a b; of = lt-ltb a b }

pub tells_le : (a b : ℕ) → Tells (leb a b) (a ≤ b)
tells_le a b = record { to = leb-true a b; of = le-leb a b }

pub tells_eq : (a b : ℕ) → Tells (eqb a b) (a ≡ b)
tells_eq a b = record { to = eqb-true a b; of = eq-eqb a b }

pub tells_true : Tells true (Unit {0})
tells_true = record { to = λ e. tt; of = λ x. refl }

pub tells_false : Tells false ⊥
tells_false = record { to = λ e. false≢true e; of = λ x. absurd x }

-- the same statement in other words
pub tells_as : {t : Bool} {P Q : Type 0} → (P → Q) → (Q → P) → Tells t P → Tells t Q
tells_as f g s = record { to = λ e. f (s.to e); of = λ x. s.of (g x) }

-- both of two tests
pub tells_and : {t x : Bool} {P Q : Type 0} → Tells t P → Tells x Q → Tells (t and x) (P × Q)
tells_and {t} {x} p q =
    record { to = λ e. (p.to ((both t x).0 e).0, q.to ((both t x).0 e).1); of = λ r. (both t x).1 (p.of r.0, q.of r.1) }

-- a test that must be false
pub tells_not : (t : Bool) → Tells (not t) (t ≡ false)
tells_not true = record { to = λ e. absurd (false≢true e); of = λ e. absurd (true≢false e) }
tells_not false = record { to = λ e. refl; of = λ e. refl }

-- the one test or the other
pub tells_which : (t : Bool) {x y : Bool} {P Q : Type 0} → Tells x P → Tells y Q → Tells (cond t x y) ((t ≡ true → P) × (t ≡ false → Q))
tells_which t {x} {y} {P} {Q} p q = record { to = to t p.to q.to; of = λ r. of t r.0 r.1 }
  where
    to : (t : Bool) → (x ≡ true → P) → (y ≡ true → Q) → cond t x y ≡ true → (t ≡ true → P) × (t ≡ false → Q)
    to true f g e = (λ w. f e, λ w. absurd (true≢false w))
    to false f g e = (λ w. absurd (false≢true w), λ w. g e)

    of : (t : Bool) → (t ≡ true → P) → (t ≡ false → Q) → cond t x y ≡ true
    of true f g = p.of (f refl)
    of false f g = q.of (g refl)

-- where the statement does not hold, and where the test fails
pub tells_no : {t : Bool} {P : Type 0} → Tells t P → (P → ⊥) → t ≡ false
tells_no {t} {P} s n = by t s.to
  where
    by : (t : Bool) → (t ≡ true → P) → t ≡ false
    by true f = absurd (n (f refl))
    by false f = refl

pub tells_fails : {t : Bool} {P : Type 0} → Tells t P → t ≡ false → P → ⊥
tells_fails s e x = false≢true (rw e at (s.of x))

-- what holds below i, and of i, holds below i + 1
pub one_more : (P : ℕ → Type 0) (i : ℕ) → ((j : ℕ) → j < i → P j) → P i → (j : ℕ) → j < i + 1 → P j
one_more P i s f j h = at (ltb j i) refl
  where
    at : (b : Bool) → ltb j i ≡ b → P j
    at true q = s j (ltb-true j i q)
    at false q = let e : i ≡ j = omega (arith, ltb-false j i q) in subst P e f
