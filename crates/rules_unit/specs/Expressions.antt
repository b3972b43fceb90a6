-- The form and the sort of an expression, and its uses (document 01, "The coded unit").
--   digitsb s          all characters are 0 to 9
--   takes i            how many values an item takes
--   itemb c i          an item's own rule; Known c is, that every item keeps it
--   sort_at c e         the sort of the expression at an offset, Wrong where it is badly formed
--   alpha_sort k        whether an expression of the sort k is an alpha source
--   next_at c e         where the expression behind the one at e starts
--   suits w k          whether an expression of the sort k is of the sort wanted
-- Assumes nothing.
use Rattle.std.specs.Prelude.{◌≡◌, ℕ, ◌+◌, ◌-◌, Bool, true, false, cond, List, [], ◌∷◌, ltb, leb, eqb, length, take, drop, None, Option, Some}
use Rattle.rules.specs.Tests.{◌and◌}
use Rattle.rules.specs.Values.{is_from}
use Rattle.rules_unit.specs.declared.Form.{Form}
use Rattle.rules_unit.specs.declared.Form.TheVariants as form
use Rattle.rules_unit.specs.declared.Op.{Op}
use Rattle.rules_unit.specs.declared.Op.TheVariants as op
use Rattle.rules_unit.specs.declared.Item.{Item}
use Rattle.rules_unit.specs.declared.Item.TheVariants as item
use Rattle.rules_unit.specs.declared.Sort.{Sort}
use Rattle.rules_unit.specs.declared.Sort.TheVariants as sort
use Rattle.rules_unit.specs.declared.Want.{Want}
use Rattle.rules_unit.specs.declared.Want.TheVariants as want
use Rattle.rules_unit.specs.declared.Use.{Use}
use Rattle.rules_unit.specs.Codes.{Code, decimalb}
use Rattle.rules_unit.specs.Decode.{width_of}

-- ---- items

-- "all digits 0 to 9"
unfoldable pub digitsb : List ℕ → Bool
digitsb [] = true
digitsb (b ∷ bs) = let rest = digitsb bs in is_from 48 b and rest

-- The operators take two values, but for negate and NOT.
abbrev pub op_takes : Op → ℕ
op_takes op.Add = 2
op_takes op.Subtract = 2
op_takes op.Multiply = 2
op_takes op.Divide = 2
op_takes op.Round = 2
op_takes op.Negate = 1
op_takes op.Eq = 2
op_takes op.Ne = 2
op_takes op.Gt = 2
op_takes op.Lt = 2
op_takes op.Ge = 2
op_takes op.Le = 2
op_takes op.Not = 1
op_takes op.And = 2
op_takes op.Or = 2
op_takes op.Xor = 2

-- "its bounds being the values before it"
abbrev pub form_takes : Form → ℕ
form_takes form.First = 0
form_takes form.Subscript = 1
form_takes form.StartEnd = 2
form_takes form.PosLength = 2

abbrev pub takes : Item → ℕ
takes (item.Number place len) = 0
takes (item.Reference h field) = form_takes h
takes (item.Text place len) = 0
takes (item.Operator o) = op_takes o
takes item.End = 0
takes item.Bad = 0

-- "length (1 byte, 1 to 18), all digits 0 to 9"; "Offsets, field numbers and literals lie inside their parts."
unfoldable pub numberb : Code → ℕ → ℕ → Bool
numberb c place len =
    leb 1 len and leb len c.dialect.limit and leb (place + len) (length c.literals) and digitsb (take len (drop place c.literals))

-- "length (2 bytes, at least 1)"
unfoldable pub textb : Code → ℕ → ℕ → Bool
textb c place len = leb 1 len and leb (place + len) (length c.literals)

abbrev pub itemb : Code → Item → Bool
itemb c (item.Number place len) = numberb c place len
itemb c (item.Reference h field) = ltb field c.fields
itemb c (item.Text place len) = textb c place len
itemb c (item.Operator o) = true
itemb c item.End = false
itemb c item.Bad = false

-- Every item keeps its own rule.
abbrev pub Known : Code → List Item → Type 0
Known c [] = Unit {0}
Known c (i ∷ is) = (itemb c i ≡ true) × Known c is

-- ---- sorts

abbrev pub place_sort : Bool → Sort
place_sort true = sort.Decimal
place_sort false = sort.Alpha

-- "A *place* ends with a reference (02 to 05). An *alpha source* ends with 06 or a reference to alpha or record."
abbrev pub sort_of : Code → Item → Sort
sort_of c (item.Number place len) = sort.Number
sort_of c (item.Reference h field) = place_sort (decimalb c field)
sort_of c (item.Text place len) = sort.Text
sort_of c (item.Operator o) = sort.Number
sort_of c item.End = sort.Wrong
sort_of c item.Bad = sort.Wrong

-- "An *alpha source* ends with 06 or a reference to alpha or record."
abbrev pub alpha_sort : Sort → Bool
alpha_sort sort.Wrong = false
alpha_sort sort.Number = false
alpha_sort sort.Text = true
alpha_sort sort.Decimal = false
alpha_sort sort.Alpha = true

-- "Every other reference must be to a decimal field, and 06 stands only last": what may stand before another item.
abbrev pub goes_on : Sort → Bool
goes_on sort.Wrong = false
goes_on sort.Number = true
goes_on sort.Text = false
goes_on sort.Decimal = true
goes_on sort.Alpha = false

-- "At most 16 values are held at once, none is taken that isn't there, and one is left at 00." Here n values are held, after an item of the sort k.
unfoldable pub sort_from : Code → List Item → ℕ → Sort → Sort
sort_from c [] n k = cond (eqb n 1) k sort.Wrong
sort_from c (i ∷ is) n k =
    let rest = sort_from c is (n - takes i + 1) (sort_of c i) in
    cond (goes_on k)
    (cond (itemb c i)
    (cond (leb (takes i) n)
    (cond (leb (n - takes i + 1) 16) rest sort.Wrong)
    sort.Wrong) sort.Wrong) sort.Wrong

-- An offset outside the expressions has no items but Bad.
unfoldable pub sort_at : Code → ℕ → Sort
sort_at c e = sort_from c (c.items e) 0 sort.Number

-- ---- expressions in a row

-- No item behind this one belongs to the expression.
abbrev pub closesb : Item → Bool
closesb (item.Number place len) = false
closesb (item.Reference h field) = false
closesb (item.Text place len) = false
closesb (item.Operator o) = false
closesb item.End = true
closesb item.Bad = true

-- The bytes of an expression, with the 00 that closes it. What is no item ends it, and is not counted.
unfoldable pub extent_of : List Item → ℕ
extent_of [] = 1
extent_of (i ∷ is) = let rest = extent_of is in cond (closesb i) 0 (width_of i + rest)

-- Of expressions in a row each starts behind the 00 that closes the one before it.
abbrev pub next_at : Code → ℕ → ℕ
next_at c e = e + extent_of (c.items e)

-- ---- uses

abbrev pub suits : Want → Sort → Bool
suits want.Place sort.Wrong = false
suits want.Place sort.Number = false
suits want.Place sort.Text = false
suits want.Place sort.Decimal = true
suits want.Place sort.Alpha = true
suits want.DecimalPlace sort.Wrong = false
suits want.DecimalPlace sort.Number = false
suits want.DecimalPlace sort.Text = false
suits want.DecimalPlace sort.Decimal = true
suits want.DecimalPlace sort.Alpha = false
suits want.AlphaPlace sort.Wrong = false
suits want.AlphaPlace sort.Number = false
suits want.AlphaPlace sort.Text = false
suits want.AlphaPlace sort.Decimal = false
suits want.AlphaPlace sort.Alpha = true
suits want.Source sort.Wrong = false
suits want.Source sort.Number = true
suits want.Source sort.Text = true
suits want.Source sort.Decimal = true
suits want.Source sort.Alpha = true
suits want.Number sort.Wrong = false
suits want.Number sort.Number = true
suits want.Number sort.Text = false
suits want.Number sort.Decimal = true
suits want.Number sort.Alpha = false
suits want.AlphaSource sort.Wrong = false
suits want.AlphaSource sort.Number = false
suits want.AlphaSource sort.Text = true
suits want.AlphaSource sort.Decimal = false
suits want.AlphaSource sort.Alpha = true

-- An expression of the sort that its use wants.
abbrev pub useb : Code → Option Use → Bool
useb c None = true
useb c (Some u) = suits u.want (sort_at c u.at)

unfoldable pub usesb : Code → List (Option Use) → Bool
usesb c [] = true
usesb c (x ∷ xs) = let rest = usesb c xs in useb c x and rest
