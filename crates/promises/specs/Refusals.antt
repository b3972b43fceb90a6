-- The checks 1 to 5, computed: the unit of Tour with one byte changed, and small units at the edges of a rule. Each row is refused with the number and
-- the place that document 01 names, or passes beside one that is refused.
--
--   changed k v       the check of Tour's unit with v at its byte k: its fields stand from 10 on, its expressions from 42, its literals from 109,
--                     its statements from 113 and its trailer from 241
--   with_field        the check of a unit of 19 bytes of data with one field
--   with_parts        the check of a unit of one statement, with its place and its source
--   with_fields       the same with two
--   refusals, fields, orders, expressions    the tables
--   loops, numbers_of_loops    FOR and its loop end; the sorts of its four expressions
--   handlers          ONERROR and OFFERROR
--   end_outside       the loop end of a FOR at the end of the unit
--   too_long, not_too_long, too_many, table_outside    lengths and tables of GOTOs, at their ends
--   sixteen           sixteen values may be held, and seventeen not
-- Assumes nothing.
use Rattle.std.proofs.Common.{arith, sym, ◌∙◌, le-leb}
use Rattle.std.specs.Prelude.{◌≡◌, refl, false, List, [], ◌∷◌, ◌++◌, ℕ, ◌≤◌, pos, length, get_or, set, take, replicate, Err}
use Rattle.std.proofs.lemmas.Bool.{lt-leb}
use Rattle.rules_unit.specs.declared.Sort.TheVariants as sort
use Rattle.rules_unit.specs.declared.Refusal.TheVariants as refusal-of
use Rattle.rules_unit.specs.Codes.{Code}
use Rattle.rules_unit.specs.Sound.{Filled}
use Rattle.rules_unit.proofs.Sound.{check_only}
use Rattle.rules_unit.specs.Decode.{full_length, mark_of, parts_of, kind_of, field_at, reference_at, number_at, text_at, item_by, item_at, items_in, items_at, statement_at}
use Rattle.rules_unit.specs.Table.{verb_of}
use Rattle.rules_unit.specs.Expressions.{digitsb, numberb, textb, sort_from, sort_at, extent_of, usesb}
use Rattle.rules_unit.specs.Checks.{filledb, rangesb, choiceb, entryb, good_fields, gotosb, tableb, endb, rowb, shapeb, found_of, statements_from, parts_check, check_of}
use Rattle.promises.specs.Rows.{Answer, number, refusal, Row, ◌is◌, AllHold}
use Rattle.promises.specs.Samples.{tour, seats, answered, changed, with_field, with_fields, entry, with_parts, of_set, A, N, X, last_of_all, last_for, sums, figure, I, P, numbers, coded, plain, with_loop, with_alpha, on_error_lem}

abbrev pub refusals : List Row
refusals =
    answered (check_of tour) is number (pos 10)
    -- "1 | length under 12 or over 57,353, wrong mark, or parts don't fill the unit | 0"
    ∷ answered (check_of (take 11 tour)) is refusal 1 0
    ∷ answered (check_of (0 ∷ tour)) is refusal 1 0
    ∷ changed 251 0x45 is refusal 1 0
    ∷ changed 252 0x43 is refusal 1 0
    ∷ changed 242 11 is refusal 1 0
    -- "3 | a field entry breaks its rule | first such entry": the kind, the zero byte, where 80 is a choice, the size, the count, the end, a shared
    -- byte
    ∷ changed 10 3 is refusal 3 0
    ∷ changed 19 1 is refusal 3 1
    ∷ changed 19 0x40 is refusal 3 1
    ∷ changed 19 0x7f is refusal 3 1
    ∷ changed 19 0x80 is number (pos 10)
    ∷ changed 19 0x81 is refusal 3 1
    ∷ changed 19 0xff is refusal 3 1
    ∷ changed 11 0x80 is number (pos 10)
    ∷ changed 31 0 is refusal 3 2
    ∷ changed 33 0 is refusal 3 2
    ∷ changed 39 2 is refusal 3 3
    ∷ changed 29 7 is refusal 3 2
    -- "4 | an expression is badly formed, or the wrong sort for its use | statement": its offset, its field, its literal, its item, its sort
    ∷ changed 118 67 is refusal 4 0
    ∷ changed 118 5 is refusal 4 0
    ∷ changed 48 4 is refusal 4 0
    ∷ changed 52 0 is refusal 4 0
    ∷ changed 52 4 is number (pos 10)
    ∷ changed 52 5 is refusal 4 0
    ∷ changed 109 0x3a is refusal 4 0
    ∷ changed 53 0x20 is refusal 4 0
    ∷ changed 124 26 is refusal 4 1
    ∷ changed 164 0 is refusal 4 6
    ∷ changed 182 26 is refusal 4 8
    ∷ changed 193 13 is refusal 4 10
    -- "5 | statement code, zero part, count or target wrong | statement"
    ∷ changed 193 0 is refusal 5 10
    ∷ changed 193 27 is refusal 5 10
    ∷ changed 193 14 is refusal 5 10
    ∷ changed 193 15 is number (pos 10)
    ∷ changed 193 16 is number (pos 10)
    ∷ changed 193 17 is number (pos 10)
    ∷ changed 193 18 is number (pos 10)
    ∷ changed 193 19 is number (pos 10)
    ∷ changed 193 20 is refusal 5 10
    ∷ changed 194 1 is refusal 5 10
    ∷ changed 196 1 is refusal 5 10
    ∷ changed 198 1 is refusal 5 10
    ∷ changed 200 1 is refusal 5 10
    ∷ changed 152 15 is number (pos 10)
    ∷ changed 152 16 is refusal 5 4
    -- "Checks 1, 2, 3 run in order; then each statement in turn, 5 before a's 4"
    ∷ answered (check_of (replicate 10 0 ++ (0x44 ∷ 0x42 ∷ []))) is refusal 2 0
    ∷ answered (check_of (48 ∷ 3 ∷ 0 ∷ 0 ∷ 0 ∷ 0 ∷ 1 ∷ 0 ∷ 1 ∷ 0 ∷ 1 ∷ 0 ∷ 1 ∷ 0 ∷ 0 ∷ 0 ∷ 0 ∷ 0 ∷ 0 ∷ 0x44 ∷ 0x42 ∷ [])) is refusal 2 0
    ∷ answered (check_of (set (set tour 118 67) 120 1)) is refusal 5 0
    ∷ answered (check_of (set (set tour 118 67) 193 0)) is refusal 4 0
    -- "8 go to c if number b is zero": a decimal field is a number
    ∷ changed 182 0 is number (pos 10)
    -- "Offsets, field numbers and literals lie inside their parts": here the 00 stands behind the expressions, and a digit behind the literals
    ∷ answered (check_of (48 ∷ 1 ∷ 0 ∷ 0 ∷ 0 ∷ 0 ∷ 1 ∷ 0 ∷ 1 ∷ 2 ∷ 0 ∷ 0 ∷ 0 ∷ 2 ∷ 0 ∷ 0 ∷ 0 ∷ 0 ∷ 0 ∷ 0 ∷ 0 ∷ 0 ∷ 1 ∷ 0 ∷ 1 ∷ 0 ∷ 3 ∷ 0 ∷ 1 ∷ 0 ∷ 1 ∷ 0x44 ∷ 0x42 ∷ [])) is refusal 4 0
    ∷ answered (check_of (set (seats "33") 46 3)) is refusal 4 0
    -- "Code 12 at statement i needs n GOTO statements right after it"
    ∷ changed 140 0 is refusal 5 3
    ∷ changed 140 1 is number (pos 10)
    ∷ changed 140 3 is refusal 5 3
    ∷ changed 139 1 is refusal 5 3
    ∷ changed 145 8 is refusal 5 3
    ∷ []

pub refusals_hold : AllHold refusals
unfolding mark_of parts_of kind_of field_at reference_at number_at text_at item_by item_at items_in items_at statement_at verb_of digitsb numberb textb sort_from sort_at usesb filledb rangesb choiceb entryb good_fields gotosb tableb endb rowb shapeb found_of statements_from parts_check check_of
refusals_hold = refl

-- ---- fields

abbrev pub fields : List Row
fields =
    -- "a decimal's size is at most 18"
    with_field 1 0 18 1 is number (pos 19)
    ∷ with_field 1 0 19 1 is refusal 3 0
    ∷ with_field 0 0 19 1 is number (pos 19)
    -- "a record's count is 1"
    ∷ with_field 2 0 19 1 is number (pos 19)
    ∷ with_field 2 0 9 2 is refusal 3 0
    ∷ with_field 0 0 9 2 is number (pos 19)
    -- "offset + size x count is at most D"
    ∷ with_field 0 1 9 2 is number (pos 19)
    ∷ with_field 0 2 9 2 is refusal 3 0
    ∷ []

-- "Alpha and decimal entries stand in rising offset and share no byte; gaps are allowed. Records may cover anything and stand anywhere in the list."
abbrev pub orders : List Row
orders =
    with_fields (entry 0 0 4) (entry 1 4 2) is number (pos 19)
    ∷ with_fields (entry 0 0 4) (entry 1 9 2) is number (pos 19)
    ∷ with_fields (entry 0 0 4) (entry 1 3 2) is refusal 3 1
    ∷ with_fields (entry 1 4 2) (entry 0 0 4) is refusal 3 1
    ∷ with_fields (entry 2 0 19) (entry 0 0 4) is number (pos 19)
    ∷ with_fields (entry 0 4 4) (entry 2 0 19) is number (pos 19)
    -- a strict record, beside a strict field
    ∷ with_fields (set (entry 0 4 4) 1 0x80) (set (entry 2 0 19) 1 0x80) is number (pos 19)
    ∷ []

pub orders_hold : AllHold orders
unfolding mark_of parts_of kind_of field_at statement_at verb_of usesb filledb rangesb choiceb entryb good_fields rowb shapeb found_of statements_from parts_check check_of
orders_hold = refl

pub fields_hold : AllHold fields
unfolding mark_of parts_of kind_of field_at statement_at verb_of usesb filledb rangesb choiceb entryb good_fields rowb shapeb found_of statements_from parts_check check_of
fields_hold = refl

-- ---- expressions

abbrev pub expressions : List Row
expressions =
    of_set A X is number (pos 10)
    -- "length (1 byte, 1 to 18)"; "length (2 bytes, at least 1)"
    ∷ of_set N (1 ∷ 0 ∷ 0 ∷ 18 ∷ 0 ∷ []) is number (pos 10)
    ∷ of_set N (1 ∷ 0 ∷ 0 ∷ 19 ∷ 0 ∷ []) is refusal 4 0
    ∷ of_set A (6 ∷ 0 ∷ 0 ∷ 0 ∷ 0 ∷ 0 ∷ []) is refusal 4 0
    -- "A *place* ends with a reference (02 to 05)."
    ∷ of_set X A is refusal 4 0
    ∷ of_set (1 ∷ 0 ∷ 0 ∷ 1 ∷ 0 ∷ []) A is refusal 4 0
    ∷ with_parts 3 N 0 [] is number (pos 10)
    ∷ with_parts 3 (1 ∷ 0 ∷ 0 ∷ 1 ∷ 0 ∷ []) 0 [] is refusal 4 0
    -- "Every other reference must be to a decimal field, and 06 stands only last."
    ∷ of_set (2 ∷ 0 ∷ 1 ∷ 3 ∷ 0 ∷ 0 ∷ 0 ∷ []) A is number (pos 10)
    ∷ of_set (2 ∷ 0 ∷ 0 ∷ 3 ∷ 0 ∷ 0 ∷ 0 ∷ []) A is refusal 4 0
    ∷ of_set (6 ∷ 0 ∷ 0 ∷ 0 ∷ 1 ∷ 3 ∷ 0 ∷ 0 ∷ 0 ∷ []) A is refusal 4 0
    -- "field numbers .. lie inside their parts"
    ∷ with_parts 5 (2 ∷ 0 ∷ 0 ∷ 0 ∷ []) 0 [] is number (pos 10)
    ∷ with_parts 5 (2 ∷ 0 ∷ 2 ∷ 0 ∷ []) 0 [] is refusal 4 0
    -- "one is left at 00"
    ∷ of_set A (1 ∷ 0 ∷ 0 ∷ 1 ∷ 6 ∷ 0 ∷ 0 ∷ 0 ∷ 1 ∷ 0 ∷ []) is refusal 4 0
    ∷ []

pub expressions_hold : AllHold expressions
unfolding mark_of parts_of kind_of field_at reference_at number_at text_at item_by item_at items_in items_at statement_at verb_of digitsb numberb textb sort_from sort_at usesb filledb rangesb choiceb entryb good_fields rowb shapeb found_of statements_from parts_check check_of
expressions_hold = refl

-- ---- loops

-- FOR I = 1 THRU 9 BY 2, whose loop end is the statement given.
abbrev three : List ℕ
three = numbers (figure 1) (figure 9) (figure 2)

abbrev for : ℕ → List ℕ
for end = coded 14 19 4 end

-- A statement that is 15, 16 or 17 with a 1 in its byte k, inside a loop.
abbrev odd : ℕ → ℕ → Answer
odd code k = with_loop three I (for 2 ∷ set (plain code) k 1 ∷ plain 15 ∷ [])

abbrev pub loops : List Row
loops =
    with_loop three I (for 1 ∷ plain 15 ∷ []) is number (pos 3)
    -- the loop end stands behind its FOR, inside the unit
    ∷ with_loop three I (plain 15 ∷ for 2 ∷ plain 15 ∷ []) is number (pos 3)
    ∷ with_loop three I (plain 15 ∷ for 0 ∷ plain 15 ∷ []) is refusal 5 1
    ∷ with_loop three I (for 0 ∷ plain 15 ∷ []) is refusal 5 0
    ∷ with_loop three I (for 2 ∷ plain 15 ∷ []) is refusal 5 0
    -- .. and is one
    ∷ with_loop three I (for 1 ∷ plain 16 ∷ plain 15 ∷ []) is refusal 5 0
    ∷ with_loop three I (for 1 ∷ plain 17 ∷ plain 15 ∷ []) is refusal 5 0
    ∷ with_loop three I (for 1 ∷ for 2 ∷ plain 15 ∷ []) is refusal 5 0
    -- two entries may name one end, and an end need not be named
    ∷ with_loop three I (for 2 ∷ for 2 ∷ plain 15 ∷ plain 15 ∷ []) is number (pos 3)
    -- "Unused parts are zero."
    ∷ with_loop three I (set (for 1) 1 1 ∷ plain 15 ∷ []) is refusal 5 0
    ∷ with_loop three I (for 1 ∷ set (plain 15) 7 1 ∷ []) is refusal 5 1
    ∷ odd 15 1 is refusal 5 1
    ∷ odd 15 3 is refusal 5 1
    ∷ odd 15 5 is refusal 5 1
    ∷ odd 15 7 is refusal 5 1
    ∷ odd 16 1 is refusal 5 1
    ∷ odd 16 3 is refusal 5 1
    ∷ odd 16 5 is refusal 5 1
    ∷ odd 16 7 is refusal 5 1
    ∷ odd 17 1 is refusal 5 1
    ∷ odd 17 3 is refusal 5 1
    ∷ odd 17 5 is refusal 5 1
    ∷ odd 17 7 is refusal 5 1
    -- "5 before a's 4"
    ∷ with_loop three (figure 1) (for 0 ∷ plain 15 ∷ []) is refusal 5 0
    ∷ []

pub loops_hold : AllHold loops
unfolding mark_of parts_of kind_of field_at reference_at number_at item_by item_at items_in items_at statement_at verb_of digitsb numberb sort_from sort_at extent_of usesb filledb rangesb choiceb entryb good_fields endb rowb shapeb found_of statements_from parts_check check_of
loops_hold = refl

-- Behind the last statement stands a byte that would be a loop end's.
pub end_outside : last_for ≡ refusal 5 0
unfolding mark_of parts_of kind_of field_at reference_at item_by item_at items_in items_at statement_at verb_of digitsb numberb sort_from sort_at extent_of usesb filledb rangesb choiceb entryb good_fields endb rowb shapeb found_of statements_from parts_check check_of
end_outside = refl

-- "The control place is a decimal place; start, limit and step are numbers; another sort is 4."
abbrev pub numbers_of_loops : List Row
numbers_of_loops =
    with_alpha three I is number (pos 3)
    ∷ with_alpha three P is refusal 4 0
    ∷ with_alpha three (figure 1) is refusal 4 0
    ∷ with_alpha (numbers P (figure 9) (figure 2)) I is refusal 4 0
    ∷ with_alpha (numbers (figure 1) P (figure 2)) I is refusal 4 0
    ∷ with_alpha (numbers (figure 1) (figure 9) P) I is refusal 4 0
    ∷ with_alpha (numbers (6 ∷ 0 ∷ 0 ∷ 0 ∷ 1 ∷ []) (figure 9) (figure 2)) I is refusal 4 0
    ∷ with_alpha (numbers (figure 1) (6 ∷ 0 ∷ 0 ∷ 0 ∷ 1 ∷ []) (figure 2)) I is refusal 4 0
    ∷ with_alpha (numbers (figure 1) (figure 9) (6 ∷ 0 ∷ 0 ∷ 0 ∷ 1 ∷ [])) I is refusal 4 0
    -- a decimal field is a number
    ∷ with_alpha (numbers I I I) I is number (pos 3)
    -- "badly formed": two values are left, none is left, there is no such item
    ∷ with_alpha (numbers (figure 1 ++ figure 1) (figure 9) (figure 2)) I is refusal 4 0
    ∷ with_alpha (numbers (figure 1) [] (figure 2)) I is refusal 4 0
    ∷ with_alpha (numbers (figure 1) (figure 9) (0x20 ∷ [])) I is refusal 4 0
    ∷ []

pub numbers_of_loops_hold : AllHold numbers_of_loops
unfolding mark_of parts_of kind_of field_at reference_at number_at text_at item_by item_at items_in items_at statement_at verb_of digitsb numberb textb sort_from sort_at extent_of usesb filledb rangesb choiceb entryb good_fields endb rowb shapeb found_of statements_from parts_check check_of
numbers_of_loops_hold = refl

-- ---- ONERROR and OFFERROR

-- A statement with a 1 in its byte k, before a STOP.
abbrev one_in : List ℕ → ℕ → Answer
one_in statement k = with_loop three I (set statement k 1 ∷ plain 11 ∷ [])

abbrev pub handlers : List Row
handlers =
    -- "5 for a target not below N": there are two statements
    with_loop three I (on_error_lem 1 ∷ plain 11 ∷ []) is number (pos 3)
    ∷ with_loop three I (on_error_lem 0 ∷ plain 11 ∷ []) is number (pos 3)
    ∷ with_loop three I (on_error_lem 2 ∷ plain 11 ∷ []) is refusal 5 0
    ∷ with_loop three I (plain 11 ∷ on_error_lem 2 ∷ []) is refusal 5 1
    ∷ one_in (on_error_lem 0) 7 is number (pos 3)
    ∷ one_in (on_error_lem 0) 6 is refusal 5 0
    ∷ with_loop three I (plain 19 ∷ []) is number (pos 3)
    -- "Unused parts are zero."
    ∷ one_in (on_error_lem 1) 1 is refusal 5 0
    ∷ one_in (on_error_lem 1) 2 is refusal 5 0
    ∷ one_in (on_error_lem 1) 3 is refusal 5 0
    ∷ one_in (on_error_lem 1) 4 is refusal 5 0
    ∷ one_in (on_error_lem 1) 5 is refusal 5 0
    ∷ one_in (plain 19) 1 is refusal 5 0
    ∷ one_in (plain 19) 2 is refusal 5 0
    ∷ one_in (plain 19) 3 is refusal 5 0
    ∷ one_in (plain 19) 4 is refusal 5 0
    ∷ one_in (plain 19) 5 is refusal 5 0
    ∷ one_in (plain 19) 6 is refusal 5 0
    ∷ one_in (plain 19) 7 is refusal 5 0
    -- "Code 12 at statement i needs n GOTO statements right after it"
    ∷ with_loop three I (coded 12 1 4 0 ∷ coded 7 0 0 0 ∷ []) is number (pos 3)
    ∷ with_loop three I (coded 12 1 4 0 ∷ on_error_lem 0 ∷ []) is refusal 5 0
    ∷ with_loop three I (coded 12 1 4 0 ∷ plain 19 ∷ []) is refusal 5 0
    ∷ []

pub handlers_hold : AllHold handlers
unfolding mark_of parts_of kind_of field_at reference_at number_at item_by item_at items_in items_at statement_at verb_of digitsb numberb sort_from sort_at extent_of usesb filledb rangesb choiceb entryb good_fields gotosb tableb endb rowb shapeb found_of statements_from parts_check check_of
handlers_hold = refl

-- ---- lengths and tables

-- "over 57,353"
pub too_long : (u : List ℕ) → length u ≡ 57354 → check_of u ≡ Err refusal-of.NotFilled
too_long u e = check_only u (Err refusal-of.NotFilled) (λ f. omega (arith, f.most, e))

pub not_too_long : (u : List ℕ) → length u ≡ 57353 → get_or u 57351 0 ≡ 0x44 → get_or u 57352 0 ≡ 0x42 → full_length (parts_of u) ≡ 57353 → Filled u
not_too_long u e a b l =
    record { least = omega (arith, e); most = omega (arith, e); mark = rw e a; mark_last = rw e b; fills = record { whole = l ∙ sym e } }

-- "a = n from 1 to 255"
pub too_many : (c : Code) (i n : ℕ) → 256 ≤ n → tableb c i n ≡ false
unfolding tableb
too_many c i n h = rw (le-leb 1 n (omega (arith, h)), lt-leb n 255 (omega (arith, h)))

-- "needs n GOTO statements right after it inside the unit"
pub table_outside : last_of_all ≡ refusal 5 0
unfolding mark_of parts_of number_at item_by item_at items_in items_at statement_at verb_of digitsb numberb sort_from sort_at usesb filledb rangesb choiceb entryb good_fields gotosb tableb endb rowb shapeb found_of statements_from parts_check check_of
table_outside = refl

-- ---- "At most 16 values are held at once"

pub record Sixteen : Type 0 where
  pub all_held : sums 16 15 ≡ sort.Number
  pub one_more : sums 17 16 ≡ sort.Wrong
  pub none_there : sums 2 2 ≡ sort.Wrong
  pub two_left : sums 3 1 ≡ sort.Wrong

pub sixteen : Sixteen
unfolding digitsb numberb sort_from
sixteen = record { all_held = refl; one_more = refl; none_there = refl; two_left = refl }
