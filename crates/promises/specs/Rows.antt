-- How a table of examples is written: what the rules answer, beside what a paper says.
--
--   Answer, Row, _is_, AllHold    a number, a text, a stop's number or what a run ends with; a row; every row of a table holds
--   answer, into                  what a rule answers, and what a decimal then holds
--   unit_over, accessed            a unit with given fields, and what an expression over given data comes to
--   unit, image                   the Data Division of the papers' examples: AM, NZ and NUM
--   expression, after             what an expression over it comes to, and what a field holds after a statement
-- Assumes nothing.
use Rattle.rules.specs.declared.Fault.{Fault}
use Rattle.std.specs.Prelude.{◌≡◌, List, [], ◌∷◌, ◌++◌, take, drop, ℕ, zero, suc, ◌*◌, ◌^◌, true, false, ℤ, pos, neg_ℤ, Result, Err, Ok, Option}
use Prim.Native.Char.{code}
use Prim.Native.String as string
use Rattle.rules.specs.Stops.{fault_number}
use Rattle.rules.specs.Moves.{written}
use Rattle.rules_unit.specs.declared.Dialect.{Dialect}
use Rattle.rules_unit.specs.declared.Kind.TheVariants as kind
use Rattle.rules_unit.specs.declared.Field.{Field}
use Rattle.rules_unit.specs.declared.Form.TheVariants as form
use Rattle.rules_unit.specs.declared.Op.TheVariants as op
use Rattle.rules_unit.specs.declared.Item.{Item}
use Rattle.rules_unit.specs.declared.Item.TheVariants as item
use Rattle.rules_unit.specs.Codes.{Code}
use Rattle.rules_run.specs.declared.Caught.{Caught}
use Rattle.rules_run.specs.declared.Worked.{Worked}
use Rattle.rules_run.specs.declared.Worked.TheVariants as worked
use Rattle.rules_run.specs.declared.Flow.{Flow}
use Rattle.rules_run.specs.declared.Flow.TheVariants as flow
use Rattle.rules_run.specs.declared.Turn.{Turn}
use Rattle.rules_run.specs.Evaluation.{read_at, worked_of}
use Rattle.rules_run.specs.Turns.{applied}

pub data Answer : Type 0 where
  number : ℤ → Answer
  text : List ℕ → Answer
  refusal : ℕ → ℕ → Answer
  stop : ℕ → Answer
  -- the stop, the place, the statements completed, the loops still open, and the data
  run : ℕ → ℕ → ℕ → ℕ → List ℕ → Answer
  -- the stop, the place, the statements completed, the handler, the last error, the calls and the loops still open, and the data
  left : ℕ → ℕ → ℕ → Option ℕ → Option Caught → ℕ → ℕ → List ℕ → Answer

pub record Row : Type 0 where
  pub rules : Answer
  pub paper : Answer

infix 70 ◌is◌
abbrev pub ◌is◌ : Answer → Answer → Row
a is b = record { rules = a; paper = b }

-- The two columns of a table.
abbrev pub of_rules : List Row → List Answer
of_rules [] = []
of_rules (r ∷ rs) = r.rules ∷ of_rules rs

abbrev pub of_paper : List Row → List Answer
of_paper [] = []
of_paper (r ∷ rs) = r.paper ∷ of_paper rs

-- Every row of a table holds: its columns are the same.
abbrev pub AllHold : List Row → Type 0
AllHold rows = of_rules rows ≡ of_paper rows

-- ---- how the rows are written

-- Document 01's own dialect: eighteen digits, and 'p' for a negative number ending in 0.
abbrev pub limit : ℕ
limit = 18

abbrev pub top : ℕ
top = 10 ^ limit

abbrev pub sign : ℕ
sign = 112

abbrev pub dialect : Dialect
dialect = record { limit = limit; sign = sign; top = top }

-- The bytes of a quoted text.
abbrev pub bytes : string.String → List ℕ
bytes string.[] = []
bytes (string.◌∷◌ c cs) = code c ∷ bytes cs

abbrev pub minus : ℕ → ℤ
minus m = neg_ℤ (pos m)

-- The answer of a rule that gives a number.
abbrev pub answer : Result ℤ Fault → Answer
answer (Ok z) = number z
answer (Err f) = stop (fault_number f)

-- What a decimal of n characters then holds.
abbrev pub into : ℕ → Result ℤ Fault → Answer
into n (Ok z) = text (written sign n z)
into n (Err f) = stop (fault_number f)

-- The numbers 0 to 30, as literals of two digits.
abbrev pub figures : List ℕ
figures = bytes "00010203040506070809101112131415161718192021222324252627282930"

abbrev num : ℕ → Item
num n = item.Number (2 * n) 2

-- FIELD, FIELD(subscript), FIELD(start,end), FIELD(pos:length) and FIELD(pos:-length), in postfix order.
abbrev pub alone : ℕ → List Item
alone f = item.Reference form.First f ∷ []

abbrev pub element : ℕ → ℕ → List Item
element f s = num s ∷ (item.Reference form.Subscript f ∷ [])

abbrev pub range : ℕ → ℕ → ℕ → List Item
range f from to = num from ∷ (num to ∷ (item.Reference form.StartEnd f ∷ []))

abbrev pub forth : ℕ → ℕ → ℕ → List Item
forth f at len = num at ∷ (num len ∷ (item.Reference form.PosLength f ∷ []))

abbrev pub back : ℕ → ℕ → ℕ → List Item
back f at len = num at ∷ (num len ∷ (item.Operator op.Negate ∷ (item.Reference form.PosLength f ∷ [])))

-- A unit of len bytes of data and n fields, with the expressions of its one statement, a SET.
abbrev pub unit_over : ℕ → ℕ → (ℕ → Field) → (ℕ → List Item) → Code
unit_over len n fields expressions = record {
  dialect = dialect;
  size = len;
  fields = n;
  field = fields;
  literals = figures;
  items = expressions;
  statements = 1;
  statement = λ i. record { code = 1; zero = 0; a = 0; b = 1; c = 0 };
}

-- The answer of an expression over the data d: a number, the text at an alpha place, or the number at a decimal one.
abbrev comes : Code → List ℕ → Result Worked Fault → Answer
comes c d (Ok (worked.Number v)) = number v
comes c d (Ok (worked.Place true a n)) = answer (read_at c d a n)
comes c d (Ok (worked.Place false a n)) = text (take n (drop a d))
comes c d (Ok (worked.Text p l)) = text (take l (drop p c.literals))
comes c d (Err f) = stop (fault_number f)

abbrev pub accessed : Code → List ℕ → List Item → Answer
accessed c d list = comes c d (worked_of c d list)

-- ---- the Data Division of the bench values

-- "AM is A13 'abcdefghijklm', NZ A13 'nopqrstuvwxyz', NUM D10 1234567890, D = 36."
abbrev pub image : List ℕ
image = bytes "abcdefghijklm" ++ (bytes "nopqrstuvwxyz" ++ bytes "1234567890")

abbrev pub AM : ℕ
AM = 0

abbrev pub NZ : ℕ
NZ = 1

abbrev pub NUM : ℕ
NUM = 2

abbrev alpha : ℕ → ℕ → Field
alpha offset size = record { kind = kind.Alpha; zero = 0; offset = offset; size = size; count = 1 }

abbrev field_of : ℕ → Field
field_of zero = alpha 0 13
field_of (suc zero) = alpha 13 13
field_of (suc (suc f)) = record { kind = kind.Decimal; zero = 0; offset = 26; size = 10; count = 1 }

-- The two expressions of the SET in the table: its place at 0, its source at 1.
abbrev items_of : ℕ → List Item
items_of zero = range AM 2 6
items_of (suc e) = range AM 1 5

abbrev pub unit : Code
unit = unit_over 36 3 field_of items_of

abbrev pub expression : List Item → Answer
expression list = accessed unit image list

-- What a field of n characters at a holds after a statement, or the stop.
abbrev pub after : ℕ → ℕ → Result Turn Fault → Answer
after a n (Err e) = stop (fault_number e)
after a n (Ok t) = gone_on t.flow
  where
    gone_on : Flow → Answer
    gone_on flow.Next = text (take n (drop a (applied unit image t.write)))
    gone_on (flow.Goto i) = stop 0
    gone_on (flow.Call i) = stop 0
    gone_on flow.Return = stop 0
    gone_on flow.Stop = stop 0
    gone_on (flow.Enter limit step) = stop 0
    gone_on (flow.Leave i) = stop 0
    gone_on (flow.Arm i) = stop 0
    gone_on flow.Disarm = stop 0
