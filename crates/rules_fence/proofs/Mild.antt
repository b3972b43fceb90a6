-- Faults that a fenced unit may give: not 21, and 22 only where it may be.
--   mildb may e        e is such a fault, where 22 may be or not
--   mild_num may r      r is a number, or such a fault
--   MildFault M e      e is not 21, and M holds where it is 22; MildAnswer M r the same of what is answered, a number or a turn
--   Mild P             P holds of an expression that fails so
-- Assumes nothing.
use Rattle.std.specs.Prelude.{Result, Err, Ok}
use mathlib.Core.Path.{◌≡◌, refl, ap}
use mathlib.Core.Bool.{Bool, true, false, false≢true}
use lib.IntN.{ℤ}
use Rattle.rules.specs.declared.Fault.{Fault}
use Rattle.rules.specs.declared.Fault.TheVariants as fault
use Rattle.rules_run.specs.declared.Worked.{Worked}
use Rattle.rules_run.proofs.Faults.{passes}

abbrev pub mildb : Bool → Fault → Bool
mildb may fault.Malformed = true
mildb may fault.TooLong = true
mildb may fault.Outside = false
mildb may fault.BadDigit = may
mildb may fault.ZeroDivisor = true
mildb may fault.CallsFull = true
mildb may fault.NoCall = true
mildb may fault.RoundCount = true
mildb may fault.ZeroStep = true
mildb may fault.LoopsFull = true
mildb may fault.NoLoop = true

abbrev pub mild_num : Bool → Result ℤ Fault → Bool
mild_num may r = passes (mildb may) r

abbrev pub MildFault : Type 0 → Fault → Type 0
MildFault M fault.Malformed = Unit {0}
MildFault M fault.TooLong = Unit {0}
MildFault M fault.Outside = ⊥
MildFault M fault.BadDigit = M
MildFault M fault.ZeroDivisor = Unit {0}
MildFault M fault.CallsFull = Unit {0}
MildFault M fault.NoCall = Unit {0}
MildFault M fault.RoundCount = Unit {0}
MildFault M fault.ZeroStep = Unit {0}
MildFault M fault.LoopsFull = Unit {0}
MildFault M fault.NoLoop = Unit {0}

pub mild_fault : (M : Type 0) (e : Fault) → mildb true e ≡ true → (e ≡ fault.BadDigit → M) → MildFault M e
mild_fault M fault.Malformed m f = tt
mild_fault M fault.TooLong m f = tt
mild_fault M fault.Outside m f = false≢true m
mild_fault M fault.BadDigit m f = f refl
mild_fault M fault.ZeroDivisor m f = tt
mild_fault M fault.CallsFull m f = tt
mild_fault M fault.NoCall m f = tt
mild_fault M fault.RoundCount m f = tt
mild_fault M fault.ZeroStep m f = tt
mild_fault M fault.LoopsFull m f = tt
mild_fault M fault.NoLoop m f = tt

-- A fault that is not 22.
pub mild_plain : (M : Type 0) (e : Fault) → mildb false e ≡ true → MildFault M e
mild_plain M fault.Malformed m = tt
mild_plain M fault.TooLong m = tt
mild_plain M fault.Outside m = false≢true m
mild_plain M fault.BadDigit m = absurd (false≢true m)
mild_plain M fault.ZeroDivisor m = tt
mild_plain M fault.CallsFull m = tt
mild_plain M fault.NoCall m = tt
mild_plain M fault.RoundCount m = tt
mild_plain M fault.ZeroStep m = tt
mild_plain M fault.LoopsFull m = tt
mild_plain M fault.NoLoop m = tt

abbrev pub MildAnswer : {A : Type 0} → Type 0 → Result A Fault → Type 0
MildAnswer M (Ok v) = Unit {0}
MildAnswer M (Err e) = MildFault M e

pub num_plain : (M : Type 0) (r : Result ℤ Fault) → mild_num false r ≡ true → MildAnswer M r
num_plain M (Ok v) m = tt
num_plain M (Err e) m = mild_plain M e m

pub num_fault : (M : Type 0) (r : Result ℤ Fault) → mild_num true r ≡ true → (r ≡ Err fault.BadDigit → M) → MildAnswer M r
num_fault M (Ok v) m f = tt
num_fault M (Err e) m f = mild_fault M e m (λ q. f (ap Err q))

pub mild_value : (may : Bool) {r : Result ℤ Fault} → (z : ℤ) × (r ≡ Ok z) → mild_num may r ≡ true
mild_value may g = rw g.1 refl

abbrev pub Mild : (Result Worked Fault → Type 0) → Type 0
Mild P = (e : Fault) → mildb false e ≡ true → P (Err e)
