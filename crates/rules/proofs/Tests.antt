-- Both of two tests.
-- Assumes nothing.
use mathlib.Core.Path.{◌≡◌, refl}
use mathlib.Core.Bool.{Bool, true, false, false≢true}
use mathlib.Core.Logic.{◌↔◌}
use Rattle.rules.specs.Tests.{◌and◌}

pub both : (t x : Bool) → (t and x ≡ true) ↔ (t ≡ true) × (x ≡ true)
both true x = (λ e. (refl, e), λ h. h.1)
both false x = (λ e. absurd (false≢true e), λ h. absurd (false≢true h.0))
