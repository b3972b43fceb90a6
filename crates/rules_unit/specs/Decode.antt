-- The bytes of a unit, decoded (document 01, "The coded unit"). Nothing is checked here: what the checks refuse decodes to Bad, or to anything.
--   word_at u at            a number of two bytes
--   mark_of u               the mark; dialect_of the dialect that it names; SoundDialect d, what is asked of a dialect
--   parts_of u              the trailer
--   fields_at .. full_length where each part starts, and the length that they fill; Fills u p says that they do
--   field_at, statement_at u at    an entry at an offset of the unit
--   item_at s at            an item at an offset of the expressions s; items_at the expression that starts there
--   code_of u p             the whole
-- Assumes nothing.
use Rattle.std.specs.Prelude.{◌≡◌, ℕ, zero, suc, ◌+◌, ◌-◌, ◌*◌, ◌^◌, Bool, true, false, cond, List, [], ◌∷◌, ltb, eqb, length, get_or, take, drop, Option, None, Some}
use Rattle.rules.specs.Values.{Limit, Letters, Top}
use Rattle.rules_unit.specs.declared.Dialect.{Dialect}
use Rattle.rules_unit.specs.declared.Parts.{Parts}
use Rattle.rules_unit.specs.declared.Kind.{Kind}
use Rattle.rules_unit.specs.declared.Kind.TheVariants as kind
use Rattle.rules_unit.specs.declared.Field.{Field}
use Rattle.rules_unit.specs.declared.Form.{Form}
use Rattle.rules_unit.specs.declared.Form.TheVariants as form
use Rattle.rules_unit.specs.declared.Op.TheVariants as op
use Rattle.rules_unit.specs.declared.Item.{Item}
use Rattle.rules_unit.specs.declared.Item.TheVariants as item
use Rattle.rules_unit.specs.declared.Statement.{Statement}
use Rattle.rules_unit.specs.Codes.{Code}

-- "Numbers are unsigned, high byte first."
abbrev pub word_at : List ℕ → ℕ → ℕ
word_at u at = get_or u at 0 * 256 + get_or u (at + 1) 0

-- ---- the dialect

-- Eighteen digits, and the sign letters p to y.
abbrev pub eighteen : Dialect
eighteen = record { limit = 18; sign = 0x70; top = 10 ^ 18 }

-- "then the bytes 44 42 (hex)": this mark names the dialect of eighteen digits, and any other is wrong.
unfoldable pub mark_of : List ℕ → Option Dialect
mark_of u =
    cond (eqb (get_or u (length u - 2) 0) 0x44)
    (cond (eqb (get_or u (length u - 1) 0) 0x42) (Some eighteen)
    None) None

abbrev pub wrong_mark : Option Dialect → Bool
wrong_mark (Some d) = false
wrong_mark None = true

-- The dialect that a mark names. A wrong one names none; check 1 refuses it, whatever it is decoded to here.
abbrev pub dialect_of : Option Dialect → Dialect
dialect_of (Some d) = d
dialect_of None = eighteen

-- What is asked of a dialect's numbers.
pub record SoundDialect (d : Dialect) : Type 0 where
  pub limit : Limit d.limit
  pub letters : Letters d.sign
  pub bound : Top d.top
  pub tens : d.top ≡ 10 ^ d.limit

-- ---- the parts

-- "The last 12 bytes are a trailer that points back: lengths D, F, E, P, N (two bytes each), then the bytes 44 42 (hex)."
unfoldable pub parts_of : List ℕ → Parts
parts_of u =
    let t = length u - 12 in
    record {
      d = word_at u t;
      f = word_at u (t + 2);
      e = word_at u (t + 4);
      p = word_at u (t + 6);
      n = word_at u (t + 8);
      dialect = dialect_of (mark_of u);
    }

-- "Before it lie, in this order: data image (D bytes), fields (F entries of 8), expressions (E bytes), literals (P bytes), statements (N entries of 8)."
abbrev pub fields_at : Parts → ℕ
fields_at p = p.d

abbrev pub expressions_at : Parts → ℕ
expressions_at p = fields_at p + p.f * 8

abbrev pub literals_at : Parts → ℕ
literals_at p = expressions_at p + p.e

abbrev pub statements_at : Parts → ℕ
statements_at p = literals_at p + p.p

-- "Together with the trailer they fill the unit exactly."
abbrev pub full_length : Parts → ℕ
full_length p = statements_at p + p.n * 8 + 12

pub record Fills (u : List ℕ) (p : Parts) : Type 0 where
  pub whole : full_length p ≡ length u

-- ---- fields

-- "kind (0 alpha, 1 decimal, 2 record)"
unfoldable pub kind_of : ℕ → Kind
kind_of b = cond (eqb b 0) kind.Alpha (cond (eqb b 1) kind.Decimal (cond (eqb b 2) kind.Record kind.Bad))

-- "**Field**: kind .., zero byte, offset, size, count."
unfoldable pub field_at : List ℕ → ℕ → Field
field_at u at =
    record { kind = kind_of (get_or u at 0); zero = get_or u (at + 1) 0; offset = word_at u (at + 2); size = word_at u (at + 4); count = word_at u (at + 6) }

-- ---- expressions

-- "02 field; 03 field(subscript); 04 field(start,end); 05 field(pos:length); each followed by a field number (2 bytes)"
unfoldable pub reference_at : List ℕ → ℕ → Form → Item
reference_at s at h = cond (ltb 2 (length s - at)) (item.Reference h (word_at s (at + 1))) item.Bad

-- "01 number literal: place in literals (2 bytes), length (1 byte ..)"
unfoldable pub number_at : List ℕ → ℕ → Item
number_at s at = cond (ltb 3 (length s - at)) (item.Number (word_at s (at + 1)) (get_or s (at + 3) 0)) item.Bad

-- "06 alpha literal: place (2 bytes), length (2 bytes ..)"
unfoldable pub text_at : List ℕ → ℕ → Item
text_at s at = cond (ltb 4 (length s - at)) (item.Text (word_at s (at + 1)) (word_at s (at + 3))) item.Bad

-- "Items (hex)": in the order of document 01
unfoldable pub item_by : List ℕ → ℕ → ℕ → Item
item_by s at code =
    cond (eqb code 0x00) item.End
    (cond (eqb code 0x01) (number_at s at)
    (cond (eqb code 0x02) (reference_at s at form.First)
    (cond (eqb code 0x03) (reference_at s at form.Subscript)
    (cond (eqb code 0x04) (reference_at s at form.StartEnd)
    (cond (eqb code 0x05) (reference_at s at form.PosLength)
    (cond (eqb code 0x06) (text_at s at)
    (cond (eqb code 0x10) (item.Operator op.Add)
    (cond (eqb code 0x11) (item.Operator op.Subtract)
    (cond (eqb code 0x12) (item.Operator op.Multiply)
    (cond (eqb code 0x13) (item.Operator op.Divide)
    (cond (eqb code 0x14) (item.Operator op.Round)
    (cond (eqb code 0x15) (item.Operator op.Negate)
    (cond (eqb code 0x16) (item.Operator op.Eq)
    (cond (eqb code 0x17) (item.Operator op.Ne)
    (cond (eqb code 0x18) (item.Operator op.Gt)
    (cond (eqb code 0x19) (item.Operator op.Lt)
    (cond (eqb code 0x1a) (item.Operator op.Ge)
    (cond (eqb code 0x1b) (item.Operator op.Le)
    (cond (eqb code 0x1c) (item.Operator op.Not)
    (cond (eqb code 0x1d) (item.Operator op.And)
    (cond (eqb code 0x1e) (item.Operator op.Or)
    (cond (eqb code 0x1f) (item.Operator op.Xor)
    item.Bad))))))))))))))))))))))

unfoldable pub item_at : List ℕ → ℕ → Item
item_at s at = cond (ltb at (length s)) (item_by s at (get_or s at 0)) item.Bad

-- How many bytes an item takes.
abbrev pub width_of : Item → ℕ
width_of (item.Number place len) = 4
width_of (item.Reference h field) = 3
width_of (item.Text place len) = 5
width_of (item.Operator o) = 1
width_of item.End = 1
width_of item.Bad = 1

-- "items in postfix order, closed by 00": the list ends before End, and with Bad.
abbrev pub follow : Item → List Item → List Item
follow (item.Number place len) is = item.Number place len ∷ is
follow (item.Reference h field) is = item.Reference h field ∷ is
follow (item.Text place len) is = item.Text place len ∷ is
follow (item.Operator o) is = item.Operator o ∷ is
follow item.End is = []
follow item.Bad is = item.Bad ∷ []

-- k items at the most: no expression has more items than there are bytes.
unfoldable pub items_in : ℕ → List ℕ → ℕ → List Item
items_in zero s at = item.Bad ∷ []
items_in (suc k) s at = let more = items_in k s (at + width_of (item_at s at)) in follow (item_at s at) more

-- "starting at a given offset"
unfoldable pub items_at : List ℕ → ℕ → List Item
items_at s at = items_in (suc (length s)) s at

-- ---- statements

-- "**Statement**: code, zero byte, a, b, c."
unfoldable pub statement_at : List ℕ → ℕ → Statement
statement_at u at =
    record { code = get_or u at 0; zero = get_or u (at + 1) 0; a = word_at u (at + 2); b = word_at u (at + 4); c = word_at u (at + 6) }

-- ---- the unit

abbrev pub code_of : List ℕ → Parts → Code
code_of u p = record {
  dialect = p.dialect;
  size = p.d;
  fields = p.f;
  field = λ i. field_at u (fields_at p + i * 8);
  literals = take p.p (drop (literals_at p) u);
  items = λ at. items_at (take p.e (drop (expressions_at p) u)) at;
  statements = p.n;
  statement = λ i. statement_at u (statements_at p + i * 8);
}

-- The unit, with the parts that its trailer names.
abbrev pub decoded : List ℕ → Code
decoded u = code_of u (parts_of u)
