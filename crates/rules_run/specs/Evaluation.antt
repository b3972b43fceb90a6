-- What an expression comes to (document 01, "Moves and arithmetic").
--   calc top o x y         an operator on two values
--   literal_number c p l    a number literal's value
--   read_at c d a n         the number at n bytes of the data
--   apply c d i x y        what an item makes of the values that it takes
--   worked_of c d is        an expression over the data d
--   number_of c d w         what it is as a number; text_of c d w, as an alpha source
--   value_at c d e          what the expression at e is as a number
--   Within c size w        what an expression comes to lies in its range, or inside the data or the literals
-- "items left to right, reads where they stand": the items are a list and the values held another, the last held first. A last reference is a
-- place and is not read. Every rule is total: what a passed check never lets arise is Malformed.
-- Assumes nothing.
use Rattle.std.specs.Prelude.{◌≡◌, ℕ, zero, suc, ◌+◌, ◌-◌, ◌*◌, ◌^◌, ◌≤◌, true, false, cond, List, [], ◌∷◌, ltb, ℤ, pos, neg_ℤ, length, take, drop, Result, Err, Ok, None, Option, Some}
use Rattle.rules.specs.declared.Fault.{Fault}
use Rattle.rules.specs.declared.Fault.TheVariants as fault
use Rattle.rules.specs.Values.{Val, read_of}
use Rattle.rules.specs.Arithmetic.{add_of, sub_of, mul_of, div_of, round_of, eq_of, ne_of, gt_of, lt_of, ge_of, le_of, not_of, and_of, or_of, xor_of}
use Rattle.rules_unit.specs.declared.Form.{Form}
use Rattle.rules_unit.specs.declared.Form.TheVariants as form
use Rattle.rules_unit.specs.declared.Op.{Op}
use Rattle.rules_unit.specs.declared.Op.TheVariants as op
use Rattle.rules_unit.specs.declared.Item.{Item}
use Rattle.rules_unit.specs.declared.Item.TheVariants as item
use Rattle.rules_unit.specs.Codes.{Code, rule_of, decimalb}
use Rattle.rules_unit.specs.Expressions.{op_takes, takes, numberb, textb}
use Rattle.rules_run.specs.declared.Span.{Span}
use Rattle.rules_run.specs.declared.Worked.{Worked}
use Rattle.rules_run.specs.declared.Worked.TheVariants as worked
use Rattle.rules_run.specs.Spans.{span_by}

-- ---- items

-- "10 add, 11 subtract, 12 multiply, 13 divide, 14 round (#), 15 negate", "16 EQ, 17 NE, 18 GT, 19 LT, 1A GE, 1B LE, 1C NOT, 1D AND, 1E OR, 1F XOR"
unfoldable pub calc : ℕ → Op → ℤ → ℤ → Result ℤ Fault
calc top op.Add x y = add_of top x y
calc top op.Subtract x y = sub_of top x y
calc top op.Multiply x y = mul_of top x y
calc top op.Divide x y = div_of x y
calc top op.Round x y = round_of x y
calc top op.Negate x y = Ok (neg_ℤ x)
calc top op.Eq x y = Ok (eq_of x y)
calc top op.Ne x y = Ok (ne_of x y)
calc top op.Gt x y = Ok (gt_of x y)
calc top op.Lt x y = Ok (lt_of x y)
calc top op.Ge x y = Ok (ge_of x y)
calc top op.Le x y = Ok (le_of x y)
calc top op.Not x y = Ok (not_of x)
calc top op.And x y = Ok (and_of x y)
calc top op.Or x y = Ok (or_of x y)
calc top op.Xor x y = Ok (xor_of x y)

-- The number that plain digits make, after those of acc.
unfoldable pub digits_from : ℕ → List ℕ → ℕ
digits_from acc [] = acc
digits_from acc (b ∷ bs) = digits_from (acc * 10 + (b - 48)) bs

-- "01 number literal: place in literals (2 bytes), length (1 byte, 1 to 18), all digits 0 to 9"
unfoldable pub literal_number : Code → ℕ → ℕ → Result ℤ Fault
literal_number c place len =
    cond (numberb c place len) (Ok (pos (digits_from 0 (take len (drop place c.literals))))) (Err fault.Malformed)

abbrev pub read_at : Code → List ℕ → ℕ → ℕ → Result ℤ Fault
read_at c d a n = read_of c.dialect.limit c.dialect.sign (take n (drop a d))

abbrev pub read_span : Code → List ℕ → Option Span → Result ℤ Fault
read_span c d (Some s) = read_at c d s.start s.len
read_span c d None = Err fault.Outside

-- "02 field; 03 field(subscript); 04 field(start,end); 05 field(pos:length)", found by the rule that the field chooses and read where it stands: 21, then
-- 20, then 22
unfoldable pub reference : Code → List ℕ → Form → ℕ → ℤ → ℤ → Result ℤ Fault
reference c d h f x y =
    cond (ltb f c.fields)
    (cond (decimalb c f) (read_span c d (span_by (rule_of (c.field f)) (length d) (c.field f) h x y)) (Err fault.Malformed))
    (Err fault.Malformed)

abbrev pub apply : Code → List ℕ → Item → ℤ → ℤ → Result ℤ Fault
apply c d (item.Number place len) x y = literal_number c place len
apply c d (item.Reference h field) x y = reference c d h field x y
apply c d (item.Text place len) x y = Err fault.Malformed
apply c d (item.Operator o) x y = calc c.dialect.top o x y
apply c d item.End x y = Err fault.Malformed
apply c d item.Bad x y = Err fault.Malformed

-- ---- the values held

pub data Held : Type 0 where
  go : List ℤ → Held
  halt : Fault → Held

abbrev pub push : Result ℤ Fault → List ℤ → Held
push (Ok v) st = go (v ∷ st)
push (Err e) st = halt e

-- "At most 16 values are held at once"
abbrev pub room : List ℤ → Result ℤ Fault → Held
room st g = cond (ltb (length st) 16) (push g st) (halt fault.Malformed)

-- An item that takes n values: "none is taken that isn't there". Of two the one held first is the left.
unfoldable pub step_by : ℕ → (ℤ → ℤ → Result ℤ Fault) → List ℤ → Held
step_by zero f st = room st (f (pos 0) (pos 0))
step_by (suc zero) f [] = halt fault.Malformed
step_by (suc zero) f (x ∷ st) = room st (f x (pos 0))
step_by (suc (suc k)) f [] = halt fault.Malformed
step_by (suc (suc k)) f (y ∷ []) = halt fault.Malformed
step_by (suc (suc k)) f (y ∷ (x ∷ st)) = room st (f x y)

-- ---- the last item

-- "one is left at 00"
abbrev pub left : List ℤ → Result Worked Fault
left [] = Err fault.Malformed
left (v ∷ []) = Ok (worked.Number v)
left (v ∷ (w ∷ st)) = Err fault.Malformed

abbrev pub on_held : Held → (List ℤ → Result Worked Fault) → Result Worked Fault
on_held (go st) k = k st
on_held (halt e) k = Err e

-- "A decimal span of more than 18 characters then gives 20": whenever it is found
abbrev pub as_place : Code → ℕ → Option Span → Result Worked Fault
as_place c f (Some s) =
    cond (decimalb c f) (cond (ltb c.dialect.limit s.len) (Err fault.TooLong) (Ok (worked.Place true s.start s.len))) (Ok (worked.Place false s.start s.len))
as_place c f None = Err fault.Outside

unfoldable pub place_by : Code → List ℕ → Form → ℕ → ℤ → ℤ → Result Worked Fault
place_by c d h f x y =
    cond (ltb f c.fields) (as_place c f (span_by (rule_of (c.field f)) (length d) (c.field f) h x y)) (Err fault.Malformed)

-- A last reference takes all that is held as its bounds.
unfoldable pub place : Code → List ℕ → Form → ℕ → List ℤ → Result Worked Fault
place c d form.First f [] = place_by c d form.First f (pos 0) (pos 0)
place c d form.First f (x ∷ st) = Err fault.Malformed
place c d form.Subscript f [] = Err fault.Malformed
place c d form.Subscript f (x ∷ []) = place_by c d form.Subscript f x (pos 0)
place c d form.Subscript f (y ∷ (x ∷ st)) = Err fault.Malformed
place c d form.StartEnd f [] = Err fault.Malformed
place c d form.StartEnd f (x ∷ []) = Err fault.Malformed
place c d form.StartEnd f (y ∷ (x ∷ [])) = place_by c d form.StartEnd f x y
place c d form.StartEnd f (y ∷ (x ∷ (z ∷ st))) = Err fault.Malformed
place c d form.PosLength f [] = Err fault.Malformed
place c d form.PosLength f (x ∷ []) = Err fault.Malformed
place c d form.PosLength f (y ∷ (x ∷ [])) = place_by c d form.PosLength f x y
place c d form.PosLength f (y ∷ (x ∷ (z ∷ st))) = Err fault.Malformed

-- "06 alpha literal", which stands alone
abbrev pub text_by : Code → ℕ → ℕ → List ℤ → Result Worked Fault
text_by c p l [] = cond (textb c p l) (Ok (worked.Text p l)) (Err fault.Malformed)
text_by c p l (x ∷ st) = Err fault.Malformed

unfoldable pub last_of : Code → List ℕ → Item → List ℤ → Result Worked Fault
last_of c d (item.Number p l) st = on_held (step_by 0 (apply c d (item.Number p l)) st) left
last_of c d (item.Reference h f) st = place c d h f st
last_of c d (item.Text p l) st = text_by c p l st
last_of c d (item.Operator o) st = on_held (step_by (op_takes o) (apply c d (item.Operator o)) st) left
last_of c d item.End st = Err fault.Malformed
last_of c d item.Bad st = Err fault.Malformed

-- ---- an expression

-- The item i, and those after it.
unfoldable pub worked_from : Code → List ℕ → Item → List Item → List ℤ → Result Worked Fault
worked_from c d i [] st = last_of c d i st
worked_from c d i (j ∷ is) st = on_held (step_by (takes i) (apply c d i) st) (λ st'. worked_from c d j is st')

unfoldable pub worked_of : Code → List ℕ → List Item → Result Worked Fault
worked_of c d [] = Err fault.Malformed
worked_of c d (i ∷ is) = worked_from c d i is []

-- An expression that is a number: a decimal place is read.
abbrev pub number_of : Code → List ℕ → Result Worked Fault → Result ℤ Fault
number_of c d (Ok (worked.Number v)) = Ok v
number_of c d (Ok (worked.Place decimal a n)) = cond decimal (read_at c d a n) (Err fault.Malformed)
number_of c d (Ok (worked.Text p l)) = Err fault.Malformed
number_of c d (Err e) = Err e

-- "starting at a given offset"
abbrev pub value_at : Code → List ℕ → ℕ → Result ℤ Fault
value_at c d e = number_of c d (worked_of c d (c.items e))

-- The characters that an alpha source comes to, over the data d.
abbrev pub text_of : Code → List ℕ → Result Worked Fault → List ℕ
text_of c d (Ok (worked.Number v)) = []
text_of c d (Ok (worked.Place decimal a n)) = take n (drop a d)
text_of c d (Ok (worked.Text p l)) = take l (drop p c.literals)
text_of c d (Err e) = []

-- A number of no more than eighteen digits, a place inside the data's size bytes (a decimal one of no more than the limit's characters), text
-- inside the literals: every expression comes to one of these, or fails.
abbrev pub Within : Code → ℕ → Result Worked Fault → Type 0
Within c size (Ok (worked.Number v)) = Val (10 ^ 18) v
Within c size (Ok (worked.Place decimal a n)) = (a + n ≤ size) × (decimal ≡ true → n ≤ c.dialect.limit)
Within c size (Ok (worked.Text p l)) = p + l ≤ length c.literals
Within c size (Err e) = Unit {0}
