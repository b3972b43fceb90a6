-- Breaches and the statements that they tell (document 01, "Fence rules"): what a chain of tests with their breaches tells is put together from
-- what each test tells.
--   Kept b P    there is no breach b exactly when P holds
-- Assumes nothing.
use mathlib.Core.Path.{◌≡◌, refl}
use mathlib.Core.Bool.{Bool, true, false, cond, false≢true, true≢false}
use Rattle.rules_unit.proofs.Tells.{Tells}
use Rattle.rules_fence.specs.declared.Breach.{Breach}
use Rattle.rules_fence.specs.declared.Breach.TheVariants as breach
use Rattle.rules_fence.specs.Breaches.{keepsb, first_of}

pub record Kept (b : Breach) (P : Type 0) : Type 0 where
  pub to : keepsb b ≡ true → P
  pub of : P → keepsb b ≡ true

pub none_kept : (b : Breach) → keepsb b ≡ true → b ≡ breach.None
none_kept breach.None e = refl
none_kept breach.BoundNotLiteral e = absurd (false≢true e)
none_kept breach.BoundsWrong e = absurd (false≢true e)
none_kept breach.LeavesField e = absurd (false≢true e)
none_kept breach.OverElements e = absurd (false≢true e)
none_kept breach.StopsMidElement e = absurd (false≢true e)
none_kept breach.OnDecimal e = absurd (false≢true e)

pub kept_none : Kept breach.None (Unit {0})
kept_none = record { to = λ e. tt; of = λ x. refl }

pub kept_never : (b : Breach) → keepsb b ≡ false → Kept b ⊥
kept_never b q = record { to = λ e. false≢true (rw q at e); of = λ x. absurd x }

-- The same statement in other words.
pub kept_as : {b : Breach} {P Q : Type 0} → (P → Q) → (Q → P) → Kept b P → Kept b Q
kept_as f g k = record { to = λ e. f (k.to e); of = λ x. k.of (g x) }

-- A breach, and the next.
pub kept_first : {b rest : Breach} {P Q : Type 0} → Kept b P → Kept rest Q → Kept (first_of b rest) (P × Q)
kept_first {b} {rest} {P} {Q} p q = record { to = to b p.to; of = λ r. of b (p.of r.0) (q.of r.1) }
  where
    to : (b : Breach) → (keepsb b ≡ true → P) → keepsb (first_of b rest) ≡ true → P × Q
    to breach.None f e = (f refl, q.to e)
    to breach.BoundNotLiteral f e = absurd (false≢true e)
    to breach.BoundsWrong f e = absurd (false≢true e)
    to breach.LeavesField f e = absurd (false≢true e)
    to breach.OverElements f e = absurd (false≢true e)
    to breach.StopsMidElement f e = absurd (false≢true e)
    to breach.OnDecimal f e = absurd (false≢true e)

    of : (b : Breach) → keepsb b ≡ true → keepsb rest ≡ true → keepsb (first_of b rest) ≡ true
    of b e f = rw e f

-- A test with its breach, then what is left, which may use what the test tells.
pub kept_then : {t : Bool} {x : Breach} {P Q : Type 0} (b : Breach) → keepsb b ≡ false → Tells t P → (P → Kept x Q) → Kept (cond t x b) (P × Q)
kept_then {t} {x} {P} {Q} b z p q = record { to = to t p.to; of = λ r. of t (p.of r.0) ((q r.0).of r.1) }
  where
    to : (t : Bool) → (t ≡ true → P) → keepsb (cond t x b) ≡ true → P × Q
    to true f e = (f refl, (q (f refl)).to e)
    to false f e = absurd (false≢true (rw z at e))

    of : (t : Bool) → t ≡ true → keepsb x ≡ true → keepsb (cond t x b) ≡ true
    of t e f = rw e f

-- The one or the other.
pub kept_either : (t : Bool) {x y : Breach} {P Q : Type 0} → (t ≡ true → Kept x P) → (t ≡ false → Kept y Q) → Kept (cond t x y) ((t ≡ true → P) × (t ≡ false → Q))
kept_either true p q = record { to = λ e. (λ w. (p refl).to e, λ w. absurd (true≢false w)); of = λ r. (p refl).of (r.0 refl) }
kept_either false p q = record { to = λ e. (λ w. absurd (false≢true w), λ w. (q refl).to e); of = λ r. (q refl).of (r.1 refl) }
