-- Sorts that are not Wrong.
--   rightb k                    the sort k is not Wrong
--   sure                        where it is not, every test on the way to it was passed
--   wrong_suits, suits_right    Wrong suits no use, so that a sort which suits one is not Wrong
-- Assumes nothing.
use mathlib.Core.Path.{◌≡◌, refl, sym, ◌∙◌}
use mathlib.Core.Bool.{Bool, true, false, cond, false≢true}
use Rattle.rules_unit.specs.declared.Sort.{Sort}
use Rattle.rules_unit.specs.declared.Sort.TheVariants as sort
use Rattle.rules_unit.specs.declared.Want.{Want}
use Rattle.rules_unit.specs.declared.Want.TheVariants as want
use Rattle.rules_unit.specs.Expressions.{suits}

abbrev pub rightb : Sort → Bool
rightb sort.Wrong = false
rightb sort.Number = true
rightb sort.Text = true
rightb sort.Decimal = true
rightb sort.Alpha = true

pub sure : (t : Bool) (a : Sort) → rightb (cond t a sort.Wrong) ≡ true → (t ≡ true) × (rightb a ≡ true)
sure true a h = (refl, h)
sure false a h = absurd (false≢true h)

pub wrong_suits : (w : Want) → suits w sort.Wrong ≡ false
wrong_suits want.Place = refl
wrong_suits want.DecimalPlace = refl
wrong_suits want.AlphaPlace = refl
wrong_suits want.Source = refl
wrong_suits want.Number = refl
wrong_suits want.AlphaSource = refl

-- An expression that suits its use is not Wrong.
pub suits_right : (w : Want) (k : Sort) → suits w k ≡ true → rightb k ≡ true
suits_right w sort.Wrong q = sym (wrong_suits w) ∙ q
suits_right w sort.Number q = refl
suits_right w sort.Text q = refl
suits_right w sort.Decimal q = refl
suits_right w sort.Alpha q = refl
