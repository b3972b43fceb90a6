-- What a well-formed expression is (document 01, "The coded unit", **Expression**), as statements. Expressions has the same as a test.
--   AllDigits s          every character is 0 to 9
--   ItemSound c i        an item's own rule
--   held is              how many values the items is leave held
--   ToDecimal, ToAlpha, IsText, IsValue, IsNumber    what an item is
--   Wanted c w i         an expression that ends with the item i is what the use wants
--   WellFormed c w is    the expression is, of the sort wanted
--   UseSound c x         the expression of a use
-- Assumes nothing.
use Rattle.std.specs.Prelude.{ℕ, ◌+◌, ◌-◌, ◌<◌, ◌≤◌, ◌≡◌, true, false, List, [], ◌∷◌, ◌++◌, ◌⊎◌, length, get_or, take, drop, None, Option, Some}
use Rattle.rules.specs.Values.{is_from}
use Rattle.rules_unit.specs.declared.Item.{Item}
use Rattle.rules_unit.specs.declared.Item.TheVariants as item
use Rattle.rules_unit.specs.declared.Want.{Want}
use Rattle.rules_unit.specs.declared.Want.TheVariants as want
use Rattle.rules_unit.specs.declared.Use.{Use}
use Rattle.rules_unit.specs.Codes.{Code, decimalb}
use Rattle.rules_unit.specs.Expressions.{takes}

-- ---- items

-- "all digits 0 to 9"
pub record AllDigits (s : List ℕ) : Type 0 where
  pub each : (k : ℕ) → k < length s → is_from 48 (get_or s k 0) ≡ true

-- "01 number literal: place in literals (2 bytes), length (1 byte, 1 to 18), all digits 0 to 9"
pub record NumberSound (c : Code) (place len : ℕ) : Type 0 where
  pub some : 1 ≤ len
  pub short : len ≤ c.dialect.limit
  pub inside : place + len ≤ length c.literals
  pub digits : AllDigits (take len (drop place c.literals))

-- "06 alpha literal: place (2 bytes), length (2 bytes, at least 1)"
pub record TextSound (c : Code) (place len : ℕ) : Type 0 where
  pub some : 1 ≤ len
  pub inside : place + len ≤ length c.literals

-- "Offsets, field numbers and literals lie inside their parts." What is no item, or lies outside the expressions, is Bad.
abbrev pub ItemSound : Code → Item → Type 0
ItemSound c (item.Number place len) = NumberSound c place len
ItemSound c (item.Reference h field) = field < c.fields
ItemSound c (item.Text place len) = TextSound c place len
ItemSound c (item.Operator o) = Unit {0}
ItemSound c item.End = ⊥
ItemSound c item.Bad = ⊥

-- ---- the values held

-- The values that the items take, all together.
unfoldable pub taken : List Item → ℕ
taken [] = 0
taken (i ∷ is) = takes i + taken is

-- Each item gives one value.
abbrev pub held : List Item → ℕ
held is = length is - taken is

-- ---- sorts

-- A reference to a decimal field.
abbrev pub ToDecimal : Code → Item → Type 0
ToDecimal c (item.Number place len) = ⊥
ToDecimal c (item.Reference h field) = decimalb c field ≡ true
ToDecimal c (item.Text place len) = ⊥
ToDecimal c (item.Operator o) = ⊥
ToDecimal c item.End = ⊥
ToDecimal c item.Bad = ⊥

-- "a reference to alpha or record": to any other field
abbrev pub ToAlpha : Code → Item → Type 0
ToAlpha c (item.Number place len) = ⊥
ToAlpha c (item.Reference h field) = decimalb c field ≡ false
ToAlpha c (item.Text place len) = ⊥
ToAlpha c (item.Operator o) = ⊥
ToAlpha c item.End = ⊥
ToAlpha c item.Bad = ⊥

-- 06
abbrev pub IsText : Item → Type 0
IsText (item.Number place len) = ⊥
IsText (item.Reference h field) = ⊥
IsText (item.Text place len) = Unit {0}
IsText (item.Operator o) = ⊥
IsText item.End = ⊥
IsText item.Bad = ⊥

-- A number literal, or an operator.
abbrev pub IsValue : Item → Type 0
IsValue (item.Number place len) = Unit {0}
IsValue (item.Reference h field) = ⊥
IsValue (item.Text place len) = ⊥
IsValue (item.Operator o) = Unit {0}
IsValue item.End = ⊥
IsValue item.Bad = ⊥

-- "Every other reference must be to a decimal field, and 06 stands only last"
abbrev pub IsNumber : Code → Item → Type 0
IsNumber c i = IsValue i ⊎ ToDecimal c i

-- "A *place* ends with a reference (02 to 05). An *alpha source* ends with 06 or a reference to alpha or record."
abbrev pub Wanted : Code → Want → Item → Type 0
Wanted c want.Place i = ToDecimal c i ⊎ ToAlpha c i
Wanted c want.DecimalPlace i = ToDecimal c i
Wanted c want.AlphaPlace i = ToAlpha c i
-- "source b (number or alpha source)"
Wanted c want.Source i = IsNumber c i ⊎ (IsText i ⊎ ToAlpha c i)
Wanted c want.Number i = IsNumber c i
Wanted c want.AlphaSource i = IsText i ⊎ ToAlpha c i

-- ---- expressions

pub record WellFormed (c : Code) (w : Want) (is : List Item) : Type 0 where
  pub own : (before after : List Item) (i : Item) → is ≡ before ++ (i ∷ after) → ItemSound c i
  -- "none is taken that isn't there"
  pub there : (before after : List Item) (i : Item) → is ≡ before ++ (i ∷ after) → takes i ≤ held before
  -- "At most 16 values are held at once"
  pub few : (before after : List Item) → is ≡ before ++ after → held before ≤ 16
  -- "one is left at 00"
  pub one : held is ≡ 1
  -- "Every other reference must be to a decimal field, and 06 stands only last"
  pub inner : (before after : List Item) (i j : Item) → is ≡ before ++ (i ∷ (j ∷ after)) → IsNumber c i
  -- What it ends with.
  pub front : List Item
  pub last : Item
  pub ends : is ≡ front ++ (last ∷ [])
  pub wanted : Wanted c w last

-- The expression of a use is well formed, and of the sort that the use wants.
abbrev pub UseSound : Code → Option Use → Type 0
UseSound c None = Unit {0}
UseSound c (Some u) = WellFormed c u.want (c.items u.at)
