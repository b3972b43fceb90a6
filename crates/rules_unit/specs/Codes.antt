-- A unit, decoded (document 01, "The coded unit").
--   Code                           what the rules from expressions on speak of
--   is_decimal k, is_record k        the kind of a field
--   rule_of f                       the rule that a field chooses
--   offset_of, size_of, count_of c f  the numbers of the field f
--   element_at c f k, end_of c f     where its element k starts, from 0, and where it ends
-- Assumes nothing.
use Rattle.std.specs.Prelude.{ℕ, ◌+◌, ◌*◌, Bool, true, false, cond, List, eqb}
use Rattle.rules_unit.specs.declared.Dialect.{Dialect}
use Rattle.rules_unit.specs.declared.Kind.{Kind}
use Rattle.rules_unit.specs.declared.Kind.TheVariants as kind
use Rattle.rules_unit.specs.declared.Rule.{Rule}
use Rattle.rules_unit.specs.declared.Rule.TheVariants as rule
use Rattle.rules_unit.specs.declared.Field.{Field}
use Rattle.rules_unit.specs.declared.Item.{Item}
use Rattle.rules_unit.specs.declared.Statement.{Statement}

pub record Code : Type 0 where
  pub dialect : Dialect
  -- the data's length
  pub size : ℕ
  pub fields : ℕ
  pub field : ℕ → Field
  pub literals : List ℕ
  -- the expression at an offset
  pub items : ℕ → List Item
  pub statements : ℕ
  pub statement : ℕ → Statement

abbrev pub is_decimal : Kind → Bool
is_decimal kind.Alpha = false
is_decimal kind.Decimal = true
is_decimal kind.Record = false
is_decimal kind.Bad = false

abbrev pub is_record : Kind → Bool
is_record kind.Alpha = false
is_record kind.Decimal = false
is_record kind.Record = true
is_record kind.Bad = false

abbrev pub is_bad : Kind → Bool
is_bad kind.Alpha = false
is_bad kind.Decimal = false
is_bad kind.Record = false
is_bad kind.Bad = true

-- "Give each field a choice in the high bit of its zero byte" (request 5 of document 02)
abbrev pub rule_of : Field → Rule
rule_of f = cond (eqb f.zero 0x80) rule.Strict rule.Loose

abbrev pub decimalb : Code → ℕ → Bool
decimalb c f = is_decimal (c.field f).kind

abbrev pub recordb : Code → ℕ → Bool
recordb c f = is_record (c.field f).kind

abbrev pub offset_of : Code → ℕ → ℕ
offset_of c f = (c.field f).offset

abbrev pub size_of : Code → ℕ → ℕ
size_of c f = (c.field f).size

abbrev pub count_of : Code → ℕ → ℕ
count_of c f = (c.field f).count

abbrev pub element_at : Code → ℕ → ℕ → ℕ
element_at c f k = offset_of c f + k * size_of c f

abbrev pub end_of : Code → ℕ → ℕ
end_of c f = offset_of c f + count_of c f * size_of c f
