-- Strict arrays (request 5 of document 02, "Strict arrays, by choice").
--
-- "Give each field a choice in the high bit of its zero byte: with it, 21 is given whenever the span leaves that field's size x count bytes. Finding a span
-- must now promise which of the two rules it followed, and every statement that uses one follows suit. Units without the bit run as before. Refusals: 3 for
-- any other nonzero value of that byte."
--
-- `span_of` is the rule of document 01, and `span_by (rule_of f)` the one that the field f chooses; the size is D.
--
--   choice_made        every field of a sound unit is loose or strict
--   loose_as_before    of a loose field a reference names what it named before
--   strict_inside      of a strict field of a sound unit what is found, by 02 too, lies inside the field
--   strict_21          of a strict field 21 is given for a span that document 01 finds, where it leaves the field
--   strict_same        a span that is found by the strict rule is the one that document 01 finds
--   strict_exactly, strict_outside_21    by the strict rule a span is found, and 21 is given, exactly when
--   place_21, read_21  as a place, and read, a reference gives 21 exactly when none is found by the rule that its field chooses
--   strict_references  what references to a strict field come to, beside the same to a loose one, computed
--   bookings           runs with a strict field, and what the fence check says of them, computed
-- What check 3 says of the byte is in Refusals. Assumes nothing.
use Rattle.std.specs.Prelude.{ℕ, ◌+◌, ◌<◌, ◌≤◌, ◌≡◌, refl, ◌⊎◌, ◌↔◌, true, List, [], ◌∷◌, ◌++◌, ℤ, pos, neg_ℤ, length, set, Err, None}
use Prim.Native.String as string
use Rattle.std.proofs.Common.{sym, subst}
use Rattle.rules.specs.declared.Fault.TheVariants as fault
use Rattle.rules.specs.Values.{read_from, padded_read, read_of}
use Rattle.rules.specs.Moves.{fitted}
use Rattle.rules_unit.specs.declared.Rule.{Rule}
use Rattle.rules_unit.specs.declared.Field.{Field}
use Rattle.rules_unit.specs.declared.Form.{Form}
use Rattle.rules_unit.specs.declared.Form.TheVariants as form
use Rattle.rules_unit.specs.declared.Item.TheVariants as item
use Rattle.rules_unit.specs.declared.Kind.TheVariants as kind
use Rattle.rules_unit.specs.declared.Op.TheVariants as op
use Rattle.rules_unit.specs.Codes.{Code, rule_of, decimalb}
use Rattle.rules_unit.specs.Sound.{SoundCode}
use Rattle.rules_unit.specs.Decode.{mark_of, parts_of, kind_of, field_at, reference_at, number_at, text_at, item_by, item_at, items_in, items_at, statement_at}
use Rattle.rules_unit.specs.Table.{verb_of}
use Rattle.rules_unit.specs.Expressions.{digitsb, numberb, textb, sort_from, sort_at, usesb}
use Rattle.rules_unit.specs.Checks.{filledb, rangesb, choiceb, entryb, good_fields, rowb, shapeb, found_of, statements_from, parts_check, check_of}
use Rattle.rules_run.specs.Spans.{within, subscript_span, start_end_span, pos_length_span, span_of, span_by, Located, Inside, span_at}
use Rattle.rules_run.specs.Evaluation.{calc, digits_from, literal_number, reference, step_by, place_by, place, last_of, worked_from, worked_of}
use Rattle.rules_run.specs.States.{returnsb, emptyb, slotsb, soundb}
use Rattle.rules_run.specs.Turns.{stored, applied, turn_by, turn_of}
use Rattle.rules_run.specs.Runs.{moved_by, run_from, run_checked, run_of}
use Rattle.rules_run.proofs.Strict as strict
use Rattle.rules_fence.specs.declared.Verdict.TheVariants.{Yes, No}
use Rattle.rules_fence.specs.Bounds.{fixed_span}
use Rattle.rules_fence.specs.Breaches.{element_breach, apart_from, alpha_breach, reference_breach, breach_from, uses_breach, breach_of, verdict_from, fence_of}
use Rattle.promises.specs.Rows.{number, text, stop, run, Row, ◌is◌, AllHold, bytes, alone, element, range, forth, back}
use Rattle.promises.specs.Samples.{seats, of_seats, of_digits, ran_of, ends}

-- ---- the choice

-- "a choice in the high bit of its zero byte"
pub choice_made : (c : Code) → SoundCode c → (f : ℕ) → f < c.fields → ((c.field f).zero ≡ 0) ⊎ ((c.field f).zero ≡ 0x80)
choice_made c s f k = (s.entries f k).own.choice

-- ---- finding a span

module _ (size : ℕ) (f : Field) (h : Form) (x y : ℤ) where
  -- "Units without the bit run as before."
  pub loose_as_before : f.zero ≡ 0 → span_by (rule_of f) size f h x y ≡ span_of size f h x y
  loose_as_before e = subst (λ (r : Rule). span_by r size f h x y ≡ span_of size f h x y) (sym (strict.rule_loose f e)) (strict.by_loose size f h x y)

  module _ (bit : f.zero ≡ 0x80) where
    -- "with it, 21 is given whenever the span leaves that field's size x count bytes": 02 names the first element, which does not
    pub strict_21 : (h ≡ form.First → ⊥) → (a n : ℕ) → span_of size f h x y ≡ span_at a n → (Inside f a n → ⊥) → span_by (rule_of f) size f h x y ≡ None
    strict_21 b a n e i = subst (λ (r : Rule). span_by r size f h x y ≡ None) (sym (strict.rule_strict f bit)) (strict.strict_past size f h x y b e i)

    pub strict_same : (a n : ℕ) → span_by (rule_of f) size f h x y ≡ span_at a n → span_of size f h x y ≡ span_at a n
    strict_same a n e = strict.found_loose size f (rule_of f) h x y e

    -- "Size and count are at least 1"
    module _ (many : 1 ≤ f.count) where
      pub strict_exactly : (a n : ℕ) → (span_by (rule_of f) size f h x y ≡ span_at a n) ↔ Located f h x y a n × (a + n ≤ size) × Inside f a n
      strict_exactly a n =
          subst (λ (r : Rule). (span_by r size f h x y ≡ span_at a n) ↔ Located f h x y a n × (a + n ≤ size) × Inside f a n) (sym (strict.rule_strict f bit))
          (strict.strict_exactly size f many a n h x y)

      pub strict_outside_21 : (span_by (rule_of f) size f h x y ≡ None) ↔ ((a n : ℕ) → Located f h x y a n → a + n ≤ size → Inside f a n → ⊥)
      strict_outside_21 =
          subst (λ (r : Rule). (span_by r size f h x y ≡ None) ↔ ((a n : ℕ) → Located f h x y a n → a + n ≤ size → Inside f a n → ⊥)) (sym (strict.rule_strict f bit))
          (strict.strict_outside size f many h x y)

-- ---- references of a unit, over the data d

module _ (c : Code) (s : SoundCode c) (d : List ℕ) (f : ℕ) (known : f < c.fields) (h : Form) (x y : ℤ) where
  pub strict_inside : (c.field f).zero ≡ 0x80 → (a n : ℕ) → span_by (rule_of (c.field f)) (length d) (c.field f) h x y ≡ span_at a n → Inside (c.field f) a n
  strict_inside bit a n e = ((strict_exactly (length d) (c.field f) h x y bit (s.entries f known).own.many a n).0 e).2

  -- "every statement that uses one follows suit": these two are all that find one
  pub place_21 : (place_by c d h f x y ≡ Err fault.Outside) ↔ (span_by (rule_of (c.field f)) (length d) (c.field f) h x y ≡ None)
  place_21 = strict.place_21 c d h f x y known

  pub read_21 : decimalb c f ≡ true → (reference c d h f x y ≡ Err fault.Outside) ↔ (span_by (rule_of (c.field f)) (length d) (c.field f) h x y ≡ None)
  read_21 = strict.read_21 c d h f x y known

-- ---- computed

-- A field of three elements of two bytes, the third byte of ten to the eighth, with the zero byte given.
abbrev pub strict_references : List Row
strict_references =
    -- "subscript s gives element s": the first, the last, one past the last, one before the first
    of_seats kind.Alpha 0x80 (element 0 1) is text (bytes "A1")
    ∷ of_seats kind.Alpha 0x80 (element 0 3) is text (bytes "C3")
    ∷ of_seats kind.Alpha 0x80 (element 0 4) is stop 21
    ∷ of_seats kind.Alpha 0 (element 0 4) is text (bytes "yz")
    ∷ of_seats kind.Alpha 0x80 (element 0 0) is stop 21
    ∷ of_seats kind.Alpha 0 (element 0 0) is text (bytes "ab")
    -- no bounds
    ∷ of_seats kind.Alpha 0x80 (alone 0) is text (bytes "A1")
    -- "(start,end)": over all elements, one byte past them, one byte there
    ∷ of_seats kind.Alpha 0x80 (range 0 1 6) is text (bytes "A1B2C3")
    ∷ of_seats kind.Alpha 0x80 (range 0 1 7) is stop 21
    ∷ of_seats kind.Alpha 0 (range 0 1 7) is text (bytes "A1B2C3y")
    ∷ of_seats kind.Alpha 0x80 (range 0 6 6) is text (bytes "3")
    ∷ of_seats kind.Alpha 0x80 (range 0 7 7) is stop 21
    -- "(pos:length)": into the last element, past it; backward to the first byte, before it, from one past the last
    ∷ of_seats kind.Alpha 0x80 (forth 0 2 5) is text (bytes "1B2C3")
    ∷ of_seats kind.Alpha 0x80 (forth 0 2 6) is stop 21
    ∷ of_seats kind.Alpha 0 (forth 0 2 6) is text (bytes "1B2C3y")
    ∷ of_seats kind.Alpha 0x80 (back 0 2 2) is text (bytes "A1")
    ∷ of_seats kind.Alpha 0x80 (back 0 2 3) is stop 21
    ∷ of_seats kind.Alpha 0 (back 0 2 3) is text (bytes "bA1")
    ∷ of_seats kind.Alpha 0x80 (back 0 7 2) is stop 21
    -- the D bytes
    ∷ of_seats kind.Alpha 0x80 (element 0 5) is stop 21
    ∷ of_seats kind.Alpha 0 (element 0 5) is stop 21
    -- a decimal field, as a place and read: 21 comes before 22, and before 20
    ∷ of_seats kind.Decimal 0x80 (element 0 4) is stop 21
    ∷ of_seats kind.Decimal 0 (element 0 4) is stop 22
    ∷ of_seats kind.Decimal 0x80 (element 0 4 ++ (item.Operator op.Negate ∷ [])) is stop 21
    ∷ of_seats kind.Decimal 0 (element 0 4 ++ (item.Operator op.Negate ∷ [])) is stop 22
    ∷ of_seats kind.Decimal 0x80 (range 0 2 2 ++ (item.Operator op.Negate ∷ [])) is number (neg_ℤ (pos 1))
    ∷ of_digits 0x80 (range 0 1 18) is number (pos 111111111111111111)
    ∷ of_digits 0x80 (range 0 1 20) is stop 20
    ∷ of_digits 0x80 (range 0 1 21) is stop 21
    ∷ of_digits 0 (range 0 1 21) is stop 20
    -- a record
    ∷ of_seats kind.Record 0x80 (range 0 1 6) is text (bytes "A1B2C3")
    ∷ of_seats kind.Record 0x80 (range 0 1 7) is stop 21
    ∷ []

pub strict_references_hold : AllHold strict_references
unfolding reference read_of padded_read read_from digitsb numberb digits_from literal_number calc step_by within subscript_span start_end_span pos_length_span span_of place_by place last_of worked_from worked_of
strict_references_hold = refl

-- The bookings of Slips, of SEATS(3) and then of one past the table, with the zero bytes of SEATS and of NAME given.
abbrev booked : string.String → ℕ → ℕ → List ℕ
booked figures first second = set (set (seats figures) 11 first) 19 second

pub record Bookings : Type 0 where
  -- the second booking is stopped, and the name next door is still there
  pub stopped : ends (ran_of 10 (booked "34" 0x80 0)) ≡ run 21 1 1 0 (bytes "A1B1ZZPAUL")
  pub runs_on : ends (ran_of 10 (booked "34" 0 0)) ≡ run 0 2 2 0 (bytes "A1B1ZZZZUL")
  pub in_table : ends (ran_of 10 (booked "33" 0x80 0)) ≡ run 0 2 2 0 (bytes "A1B1ZZPAUL")
  -- the bit binds references to its own field alone
  pub neighbour : ends (ran_of 10 (booked "34" 0 0x80)) ≡ run 0 2 2 0 (bytes "A1B1ZZZZUL")
  -- the fence rules stay
  pub fence_no : fence_of (booked "34" 0x80 0) ≡ No 1
  pub fence_yes : fence_of (booked "33" 0x80 0x80) ≡ Yes

pub bookings : Bookings
unfolding fitted mark_of parts_of kind_of field_at reference_at number_at text_at item_by item_at items_in items_at verb_of statement_at digitsb numberb textb sort_from sort_at usesb filledb rangesb choiceb entryb good_fields rowb shapeb found_of statements_from parts_check check_of within subscript_span span_of calc digits_from literal_number step_by place_by place last_of worked_from worked_of returnsb emptyb slotsb soundb stored applied turn_by turn_of moved_by run_from run_checked run_of fixed_span element_breach apart_from alpha_breach reference_breach breach_from uses_breach breach_of verdict_from fence_of
bookings = record { stopped = refl; runs_on = refl; in_table = refl; neighbour = refl; fence_no = refl; fence_yes = refl }
