-- Corners of the written rules, computed: at each the rule is told from what it might be taken for. The papers' own examples stand in BenchValues,
-- Manual, Example and Slips, the corners of edit masks in Masks, and those of spaces in a decimal in Blanks.
--
--   corners       values, moves and arithmetic, by their rules
--   operators     each operator of an expression, by its code (hex)
--   references    bounds, by the fields of the bench values
--   items         how an item is read from its bytes, and what is cut off at their end
--   literals      the alpha literal of a statement
--   states, open_loops, handlers    which resume states are sound
--   numbers       which numbers are a resume state's
--   lengths       the ranges of a unit's parts, and that the longest unit has 57,353 bytes
-- Assumes nothing.
use Rattle.std.specs.Prelude.{◌≡◌, refl, true, false, List, [], ◌∷◌, ◌++◌, pos, ℕ, replicate, Ok, None, Some}
use Rattle.rules.specs.Values.{read_from, padded_read, read_of}
use Rattle.rules.specs.Arithmetic.{add_of, sub_of, mul_of, div_of, round_of, eq_of, ne_of, lt_of, gt_of, ge_of, le_of, and_of}
use Rattle.rules.specs.Moves.{placed, width_from, shown, alpha_from, alpha_of, upcased, locased}
use Rattle.rules_unit.specs.declared.Form.TheVariants as form
use Rattle.rules_unit.specs.declared.Op.TheVariants as op
use Rattle.rules_unit.specs.declared.Item.TheVariants as item
use Rattle.rules_unit.specs.Decode.{full_length, mark_of, parts_of, kind_of, field_at, reference_at, number_at, text_at, item_by, item_at, items_in, items_at, statement_at}
use Rattle.rules_unit.specs.Table.{verb_of}
use Rattle.rules_unit.specs.Expressions.{digitsb, numberb, textb, sort_from, sort_at, usesb}
use Rattle.rules_unit.specs.Checks.{filledb, rangesb, choiceb, entryb, good_fields, rowb, shapeb, found_of, statements_from, parts_check, check_of}
use Rattle.rules_unit.specs.Literals.{stretch_of, literal_of}
use Rattle.rules_run.specs.Spans.{within, subscript_span, start_end_span, pos_length_span, span_of}
use Rattle.rules_run.specs.Evaluation.{digits_from, literal_number, reference, step_by, place_by, place, last_of, worked_from, worked_of, calc}
use Rattle.rules_run.specs.States.{no_loop, returnsb, loopb, emptyb, slotsb, soundb, started, error_at}
use Rattle.rules_run.specs.Turns as turns
use Rattle.rules_host.specs.Numbers.{listed, goodb, good_from, stateb, state_of}
use Rattle.promises.specs.Rows.{number, text, stop, Row, ◌is◌, AllHold, limit, top, sign, bytes, minus, answer, into, AM, NZ, NUM, expression, element, range, forth, back}
use Rattle.promises.specs.Samples.{named, cleared, read, of_one, of_two, of_forty, nine, sound, opens, told, tells, slot, parts}

-- ---- values, moves and arithmetic

abbrev pub corners : List Row
corners =
    -- "a stored "0p" reads as 0"; p to y, and no further
    answer (read_of limit sign (bytes "0p")) is number (pos 0)
    ∷ answer (read_of limit sign (bytes "1p")) is number (minus 10)
    ∷ answer (read_of limit sign (bytes "y")) is number (minus 9)
    ∷ answer (read_of limit sign (bytes "z")) is stop 22
    ∷ answer (read_of limit sign (bytes "o")) is stop 22
    ∷ answer (read_of limit sign (bytes "/1")) is stop 22
    ∷ answer (read_of limit sign (bytes "1:")) is stop 22
    -- "A decimal span of more than 18 characters then gives 20"
    ∷ answer (read_of limit sign (bytes "000000000000000001")) is number (pos 1)
    ∷ answer (read_of limit sign (bytes "000000000000000000q")) is stop 20
    ∷ answer (read_of limit sign (bytes "x000000000000000000")) is stop 20
    -- "zeros in front"; "The sign stays if the digits kept are not all 0."
    ∷ into 3 (Ok (pos 7)) is text (bytes "007")
    ∷ into 2 (Ok (minus 110)) is text (bytes "1p")
    ∷ into 2 (Ok (minus 0)) is text (bytes "00")
    -- alpha to decimal
    ∷ answer (alpha_of top (bytes " + 1+2")) is number (pos 12)
    ∷ answer (alpha_of top (bytes "1--2")) is stop 22
    ∷ answer (alpha_of top (bytes "-")) is number (pos 0)
    ∷ answer (alpha_of top (bytes "   ")) is number (pos 0)
    ∷ answer (alpha_of top (bytes "1r")) is stop 22
    ∷ answer (alpha_of top (bytes "-0000999999999999999999")) is number (minus 999999999999999999)
    ∷ answer (alpha_of top (bytes "1000000000000000000")) is stop 20
    ∷ answer (alpha_of top (bytes "1000000000000000000x")) is stop 22
    -- number to alpha
    ∷ text (shown 3 (pos 0)) is text (bytes "  0")
    ∷ text (shown 5 (minus 45)) is text (bytes "  -45")
    ∷ text (shown 2 (minus 45)) is text (bytes "45")
    ∷ text (shown 20 (minus 999999999999999999)) is text (bytes " -999999999999999999")
    -- case: 60 to 7B and 40 to 5B (hex), and E1, which is no letter here
    ∷ text (upcased (0x60 ∷ 0x61 ∷ 0x7a ∷ 0x7b ∷ 0x41 ∷ 0xe1 ∷ [])) is text (0x60 ∷ 0x41 ∷ 0x5a ∷ 0x7b ∷ 0x41 ∷ 0xe1 ∷ [])
    ∷ text (locased (0x40 ∷ 0x41 ∷ 0x5a ∷ 0x5b ∷ 0x61 ∷ 0xc1 ∷ [])) is text (0x40 ∷ 0x61 ∷ 0x7a ∷ 0x5b ∷ 0x61 ∷ 0xc1 ∷ [])
    -- "CLEAR writes spaces to alpha, zeros to decimal."
    ∷ text (turns.cleared false 2) is text (bytes "  ")
    ∷ text (turns.cleared true 2) is text (bytes "00")
    -- "Values run from -(10^18 - 1) to 10^18 - 1."
    ∷ answer (add_of top (pos 999999999999999998) (pos 1)) is number (pos 999999999999999999)
    ∷ answer (sub_of top (minus 999999999999999999) (pos 1)) is stop 20
    ∷ answer (mul_of top (pos 999999999) (pos 1000000000)) is number (pos 999999999000000000)
    ∷ answer (mul_of top (pos 1000000000) (minus 1000000000)) is stop 20
    -- "Divide truncates toward zero."
    ∷ answer (div_of (pos 7) (minus 2)) is number (minus 3)
    ∷ answer (div_of (minus 7) (minus 2)) is number (pos 3)
    ∷ answer (div_of (minus 7) (pos 0)) is stop 23
    -- "rounding half up in magnitude, sign kept; k outside 0 to 18 is 26"
    ∷ answer (round_of (minus 25) (pos 1)) is number (minus 3)
    ∷ answer (round_of (pos 24) (pos 1)) is number (pos 2)
    ∷ answer (round_of (pos 149) (pos 2)) is number (pos 1)
    ∷ answer (round_of (pos 500000000000000000) (pos 18)) is number (pos 1)
    ∷ answer (round_of (pos 499999999999999999) (pos 18)) is number (pos 0)
    ∷ answer (round_of (minus 7) (pos 0)) is number (minus 7)
    ∷ answer (round_of (pos 7) (pos 19)) is stop 26
    ∷ answer (round_of (pos 7) (minus 1)) is stop 26
    -- relations of negative numbers; "nonzero is true"
    ∷ number (eq_of (minus 7) (minus 7)) is number (pos 1)
    ∷ number (eq_of (minus 7) (pos 7)) is number (pos 0)
    ∷ number (lt_of (minus 7) (pos 2)) is number (pos 1)
    ∷ number (gt_of (minus 2) (minus 7)) is number (pos 1)
    ∷ number (ne_of (minus 7) (pos 7)) is number (pos 1)
    ∷ number (ge_of (pos 2) (minus 7)) is number (pos 1)
    ∷ number (le_of (pos 2) (minus 7)) is number (pos 0)
    ∷ number (and_of (minus 1) (pos 2)) is number (pos 1)
    ∷ []

pub corners_hold : AllHold corners
unfolding read_of padded_read read_from placed width_from alpha_from
corners_hold = refl

-- ---- operators

-- "10 add, 11 subtract, 12 multiply, 13 divide, 14 round (#), 15 negate, 16 EQ, 17 NE, 18 GT, 19 LT, 1A GE, 1B LE, 1C NOT, 1D AND, 1E OR, 1F XOR";
-- "Of two operands the one held first is the left."; "nonzero is true"
abbrev pub operators : List Row
operators =
    of_two 0x10 7 2 is number (pos 9)
    ∷ of_two 0x11 7 2 is number (pos 5)
    ∷ of_two 0x11 2 7 is number (minus 5)
    ∷ of_two 0x12 7 2 is number (pos 14)
    ∷ of_two 0x13 7 2 is number (pos 3)
    ∷ of_two 0x13 7 0 is stop 23
    ∷ of_two 0x14 25 1 is number (pos 3)
    ∷ of_two 0x14 25 19 is stop 26
    ∷ of_one 0x15 7 is number (minus 7)
    ∷ of_two 0x16 7 7 is number (pos 1)
    ∷ of_two 0x16 7 2 is number (pos 0)
    ∷ of_two 0x17 7 7 is number (pos 0)
    ∷ of_two 0x17 7 2 is number (pos 1)
    ∷ of_two 0x18 7 2 is number (pos 1)
    ∷ of_two 0x18 7 7 is number (pos 0)
    ∷ of_two 0x18 2 7 is number (pos 0)
    ∷ of_two 0x19 7 2 is number (pos 0)
    ∷ of_two 0x19 7 7 is number (pos 0)
    ∷ of_two 0x19 2 7 is number (pos 1)
    ∷ of_two 0x1a 7 2 is number (pos 1)
    ∷ of_two 0x1a 7 7 is number (pos 1)
    ∷ of_two 0x1a 2 7 is number (pos 0)
    ∷ of_two 0x1b 7 2 is number (pos 0)
    ∷ of_two 0x1b 7 7 is number (pos 1)
    ∷ of_two 0x1b 2 7 is number (pos 1)
    ∷ of_one 0x1c 7 is number (pos 0)
    ∷ of_one 0x1c 0 is number (pos 1)
    ∷ of_two 0x1d 7 2 is number (pos 1)
    ∷ of_two 0x1d 7 0 is number (pos 0)
    ∷ of_two 0x1d 0 2 is number (pos 0)
    ∷ of_two 0x1e 7 0 is number (pos 1)
    ∷ of_two 0x1e 0 2 is number (pos 1)
    ∷ of_two 0x1e 0 0 is number (pos 0)
    ∷ of_two 0x1f 7 2 is number (pos 0)
    ∷ of_two 0x1f 7 0 is number (pos 1)
    ∷ of_two 0x1f 0 2 is number (pos 1)
    ∷ of_two 0x1f 0 0 is number (pos 0)
    ∷ []

pub operators_hold : AllHold operators
unfolding number_at item_by item_at items_in items_at digitsb numberb digits_from literal_number calc step_by last_of worked_from worked_of
operators_hold = refl

-- ---- references

abbrev pub references : List Row
references =
    -- "(start,end) needs 1 <= start <= end"
    expression (range AM 0 2) is stop 21
    ∷ expression (range AM 3 2) is stop 21
    ∷ expression (range AM 3 3) is text (bytes "c")
    ∷ expression (range NZ 0 2) is stop 21
    -- "(pos:length) needs pos >= 1 and length not 0"
    ∷ expression (forth NZ 0 2) is stop 21
    ∷ expression (back NZ 0 5) is stop 21
    ∷ expression (forth AM 0 2) is stop 21
    ∷ expression (forth AM 2 0) is stop 21
    ∷ expression (forth AM 2 3) is text (bytes "bcd")
    -- "0 or less lies before the field"
    ∷ expression (element NZ 0) is text (bytes "abcdefghijklm")
    ∷ expression (element AM 0) is stop 21
    -- "it must stay inside the D bytes"
    ∷ expression (forth NZ 1 23) is text (bytes "nopqrstuvwxyz1234567890")
    ∷ expression (forth NZ 1 24) is stop 21
    ∷ expression (range NUM 10 10) is number (pos 0)
    -- "A decimal span of more than 18 characters then gives 20"
    ∷ of_forty (range 0 1 18) is number (pos 111111111111111111)
    ∷ of_forty (range 0 1 19) is stop 20
    -- a reference that is not last is read
    ∷ expression (range NUM 4 8 ++ (item.Operator op.Negate ∷ [])) is number (minus 45678)
    ∷ expression (range NUM 10 11 ++ (item.Operator op.Negate ∷ [])) is stop 21
    ∷ of_forty (range 0 1 19 ++ (item.Operator op.Negate ∷ [])) is stop 20
    ∷ []

pub references_hold : AllHold references
unfolding reference read_of padded_read read_from digitsb numberb digits_from literal_number calc step_by within subscript_span start_end_span pos_length_span span_of place_by place last_of worked_from worked_of
references_hold = refl

-- ---- items

-- "each followed by a field number (2 bytes)", "place in literals (2 bytes), length (1 byte ..)", "place (2 bytes), length (2 bytes ..)"
pub record Items : Type 0 where
  pub a_number : item_at (1 ∷ 2 ∷ 3 ∷ 4 ∷ []) 0 ≡ item.Number 515 4
  pub number_cut : item_at (1 ∷ 2 ∷ 3 ∷ []) 0 ≡ item.Bad
  pub a_field : item_at (2 ∷ 1 ∷ 4 ∷ []) 0 ≡ item.Reference form.First 260
  pub a_subscript : item_at (3 ∷ 1 ∷ 4 ∷ []) 0 ≡ item.Reference form.Subscript 260
  pub a_start_end : item_at (4 ∷ 1 ∷ 4 ∷ []) 0 ≡ item.Reference form.StartEnd 260
  pub a_pos_length : item_at (5 ∷ 1 ∷ 4 ∷ []) 0 ≡ item.Reference form.PosLength 260
  pub field_cut : item_at (2 ∷ 1 ∷ []) 0 ≡ item.Bad
  pub a_text : item_at (6 ∷ 2 ∷ 3 ∷ 4 ∷ 5 ∷ []) 0 ≡ item.Text 515 1029
  pub text_cut : item_at (6 ∷ 2 ∷ 3 ∷ 4 ∷ []) 0 ≡ item.Bad
  pub no_item : (item_at (0x07 ∷ []) 0 ≡ item.Bad) × (item_at (0x0f ∷ []) 0 ≡ item.Bad) × (item_at (0x20 ∷ []) 0 ≡ item.Bad)
  -- "closed by 00", which must be there
  pub closed : items_at (0x10 ∷ 0 ∷ 0x11 ∷ 0 ∷ []) 0 ≡ item.Operator op.Add ∷ []
  pub from_there : items_at (0x10 ∷ 0 ∷ 0x11 ∷ 0 ∷ []) 2 ≡ item.Operator op.Subtract ∷ []
  pub not_closed : items_at (0x10 ∷ 0x11 ∷ []) 0 ≡ item.Operator op.Add ∷ (item.Operator op.Subtract ∷ (item.Bad ∷ []))
  pub outside : items_at (0 ∷ []) 1 ≡ item.Bad ∷ []

pub items : Items
unfolding reference_at number_at text_at item_by item_at items_in items_at
items =
    record {
      a_number = refl;
      number_cut = refl;
      a_field = refl;
      a_subscript = refl;
      a_start_end = refl;
      a_pos_length = refl;
      field_cut = refl;
      a_text = refl;
      text_cut = refl;
      no_item = (refl, refl, refl);
      closed = refl;
      from_there = refl;
      not_closed = refl;
      outside = refl;
    }

-- ---- literals

-- "the answer is that stretch of the unit itself when .. statement i is a SET whose source is a lone alpha literal, and an empty stretch otherwise"
pub record Literals : Type 0 where
  pub lone : literal_of named 0 ≡ bytes "Eve"
  pub no_literal : literal_of (read "34") 0 ≡ []
  pub no_set : literal_of (cleared "12") 0 ≡ []
  pub past_the_last : literal_of named 1 ≡ []
  pub refused : literal_of (0 ∷ named) 0 ≡ []

pub literals : Literals
unfolding mark_of parts_of kind_of field_at reference_at number_at text_at item_by item_at items_in items_at statement_at verb_of digitsb numberb textb sort_from sort_at usesb filledb rangesb choiceb entryb good_fields rowb shapeb found_of statements_from parts_check check_of stretch_of
literals = record { lone = refl; no_literal = refl; no_set = refl; past_the_last = refl; refused = refl }

-- ---- states

-- "a statement number (0 to N), the number of open calls (0 to 50) and 50 return numbers (0 to N), unused ones zero"
pub record States : Type 0 where
  pub at_the_end : sound 9 0 0 50 ≡ true
  pub past_the_end : sound 10 0 0 50 ≡ false
  pub fifty_calls : sound 3 50 9 0 ≡ true
  pub one_more : sound 3 51 9 0 ≡ false
  pub returns_past : sound 3 2 10 48 ≡ false
  pub returns_zero : sound 3 2 0 48 ≡ true
  pub unused_not_zero : soundb nine (record { at = 3; depth = 1; returns = 4 ∷ 5 ∷ replicate 48 0; opened = 0; loops = replicate 16 no_loop; trap = started.trap }) ≡ false

pub states : States
unfolding returnsb loopb emptyb slotsb soundb
states =
    record { at_the_end = refl; past_the_end = refl; fifty_calls = refl; one_more = refl; returns_past = refl; returns_zero = refl; unused_not_zero = refl }

-- "an open loop names an entry statement of the unit beside its limit and nonzero step, both in the value range"; 16 slots, unused ones zero
pub record OpenLoops : Type 0 where
  pub one_open : opens 1 (slot 3 (pos 9) (pos 2) ∷ []) 15 ≡ true
  pub twice_open : opens 2 (slot 3 (pos 9) (pos 2) ∷ slot 3 (minus 9) (minus 1) ∷ []) 14 ≡ true
  pub sixteen_open : opens 16 (replicate 16 (slot 3 (pos 0) (pos 1))) 0 ≡ true
  pub one_more : opens 17 (replicate 17 (slot 3 (pos 0) (pos 1))) 0 ≡ false
  pub one_more_counted : opens 17 (replicate 16 (slot 3 (pos 0) (pos 1))) 0 ≡ false
  pub a_slot_short : opens 1 (slot 3 (pos 9) (pos 2) ∷ []) 14 ≡ false
  pub no_entry : opens 1 (slot 4 (pos 9) (pos 2) ∷ []) 15 ≡ false
  pub past_the_last : opens 1 (slot 9 (pos 9) (pos 2) ∷ []) 15 ≡ false
  pub greatest : opens 1 (slot 3 (minus 999999999999999999) (pos 999999999999999999) ∷ []) 15 ≡ true
  pub limit_past : opens 1 (slot 3 (pos 1000000000000000000) (pos 2) ∷ []) 15 ≡ false
  pub limit_past_below : opens 1 (slot 3 (minus 1000000000000000000) (pos 2) ∷ []) 15 ≡ false
  pub step_past : opens 1 (slot 3 (pos 9) (minus 1000000000000000000) ∷ []) 15 ≡ false
  pub step_past_above : opens 1 (slot 3 (pos 9) (pos 1000000000000000000) ∷ []) 15 ≡ false
  pub step_zero : opens 1 (slot 3 (pos 9) (pos 0) ∷ []) 15 ≡ false
  pub unused_not_zero : opens 0 (slot 3 (pos 9) (pos 2) ∷ []) 15 ≡ false
  pub unused_entry : opens 0 (slot 3 (pos 0) (pos 0) ∷ []) 15 ≡ false
  pub unused_limit : opens 0 (slot 0 (pos 9) (pos 0) ∷ []) 15 ≡ false
  pub unused_step : opens 0 (slot 0 (pos 0) (pos 2) ∷ []) 15 ≡ false

pub open_loops : OpenLoops
unfolding returnsb loopb emptyb slotsb soundb
open_loops =
    record {
      one_open = refl;
      twice_open = refl;
      sixteen_open = refl;
      one_more = refl;
      one_more_counted = refl;
      a_slot_short = refl;
      no_entry = refl;
      past_the_last = refl;
      greatest = refl;
      limit_past = refl;
      limit_past_below = refl;
      step_past = refl;
      step_past_above = refl;
      step_zero = refl;
      unused_not_zero = refl;
      unused_entry = refl;
      unused_limit = refl;
      unused_step = refl;
    }

-- "7 for a handler or error statement not below N, or an error not of the five; having none is sound"
pub record Handlers : Type 0 where
  pub none_of_either : tells None None ≡ true
  pub first_statement : tells (Some 0) None ≡ true
  pub last_statement : tells (Some 8) None ≡ true
  pub past_the_last : tells (Some 9) None ≡ false
  pub of_the_five :
      (tells None (error_at 20 0) ≡ true)
      × (tells None (error_at 21 0) ≡ true)
      × (tells None (error_at 22 0) ≡ true)
      × (tells None (error_at 23 0) ≡ true)
      × (tells None (error_at 26 0) ≡ true)
  -- "Errors 24, 25, 27, 28 and 29 are not trapped."
  pub not_of_the_five :
      (tells None (error_at 24 0) ≡ false)
      × (tells None (error_at 25 0) ≡ false)
      × (tells None (error_at 27 0) ≡ false)
      × (tells None (error_at 28 0) ≡ false)
      × (tells None (error_at 29 0) ≡ false)
  pub no_error :
      (tells None (error_at 0 0) ≡ false)
      × (tells None (error_at 4 0) ≡ false)
      × (tells None (error_at 19 0) ≡ false)
      × (tells None (error_at 30 0) ≡ false)
  pub last_place : tells None (error_at 22 8) ≡ true
  pub place_past : tells None (error_at 22 9) ≡ false
  pub both : tells (Some 8) (error_at 26 8) ≡ true
  pub wrong_beside_right : (tells (Some 9) (error_at 26 8) ≡ false) × (tells (Some 8) (error_at 26 9) ≡ false)

pub handlers : Handlers
unfolding returnsb loopb emptyb slotsb soundb
handlers =
    record {
      none_of_either = refl;
      first_statement = refl;
      last_statement = refl;
      past_the_last = refl;
      of_the_five = (refl, refl, refl, refl, refl);
      not_of_the_five = (refl, refl, refl, refl, refl);
      no_error = (refl, refl, refl, refl);
      last_place = refl;
      place_past = refl;
      both = refl;
      wrong_beside_right = (refl, refl);
    }

-- ---- numbers

-- 104 numbers: at 101 the handler and one more, at 102 the last error and at 103 its statement, and zeros elsewhere.
abbrev last_three : ℕ → ℕ → ℕ → List ℕ
last_three h n i = replicate 101 0 ++ (h ∷ n ∷ i ∷ [])

pub record Numbers : Type 0 where
  pub none : state_of (last_three 0 0 0) ≡ started
  pub one_short : stateb (replicate 103 0) ≡ false
  pub one_more : stateb (replicate 105 0) ≡ false
  pub a_handler : state_of (last_three 6 0 0) ≡ told (Some 5) None
  pub first_statement : state_of (last_three 1 0 0) ≡ told (Some 0) None
  pub an_error : state_of (last_three 0 22 7) ≡ told None (error_at 22 7)
  pub both : state_of (last_three 6 22 7) ≡ told (Some 5) (error_at 22 7)
  -- a number stands for something, also where no unit has such a statement or error
  pub greatest : (stateb (last_three 65535 0 0) ≡ true) × (stateb (last_three 0 255 65535) ≡ true)
  pub too_great : (stateb (last_three 65536 0 0) ≡ false) × (stateb (last_three 0 256 0) ≡ false) × (stateb (last_three 0 22 65536) ≡ false)
  -- a statement of an error, and no error
  pub no_number : stateb (last_three 0 0 1) ≡ false

pub numbers : Numbers
unfolding listed goodb good_from stateb state_of
numbers =
    record {
      none = refl;
      one_short = refl;
      one_more = refl;
      a_handler = refl;
      first_statement = refl;
      an_error = refl;
      both = refl;
      greatest = (refl, refl);
      too_great = (refl, refl, refl);
      no_number = refl;
    }

-- ---- lengths

-- "D is 1 to 16,383; F 0 to 512; E 0 to 16,383; P 0 to 4,095; N 1 to 2,048."
pub record Lengths : Type 0 where
  pub least : rangesb (parts 1 0 0 0 1) ≡ true
  pub most : rangesb (parts 16383 512 16383 4095 2048) ≡ true
  pub d_out : (rangesb (parts 0 0 0 0 1) ≡ false) × (rangesb (parts 16384 0 0 0 1) ≡ false)
  pub f_out : rangesb (parts 1 513 0 0 1) ≡ false
  pub e_out : rangesb (parts 1 0 16384 0 1) ≡ false
  pub p_out : rangesb (parts 1 0 0 4096 1) ≡ false
  pub n_out : (rangesb (parts 1 0 0 0 0) ≡ false) × (rangesb (parts 1 0 0 0 2049) ≡ false)
  -- "length under 12 or over 57,353"
  pub longest : full_length (parts 16383 512 16383 4095 2048) ≡ 57353

pub lengths : Lengths
unfolding rangesb
lengths = record { least = refl; most = refl; d_out = (refl, refl); f_out = refl; e_out = refl; p_out = refl; n_out = (refl, refl); longest = refl }
