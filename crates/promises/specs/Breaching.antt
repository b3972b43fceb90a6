-- Every reference that breaks a fence rule, as `dibol::breaches` tells them, and of one statement `dibol::statement_breaches` (document 01, "Fence rules").
--
-- `breaches_of u` is the list of the unit u, and `broken_in u i` that of its statement i. `Stands` says what a reference of the list is: where it stands, whether it is
-- written, the rule that it breaks itself, and the bytes that it names. A call that is given the numbers rows, and a number skip, answers how many references the list
-- has, and leaves in rows whole rows of eight numbers, `row_of`, of those from the number skip on, counted from 0, as many as fit: that is its contract.
--
--   listed_exactly       a reference is in the list of a sound unit exactly when it breaks a rule, and the rule told is its own
--   empty_for_a_yes      the list of a sound unit is empty exactly for a yes
--   first_is_the_no      its first reference stands in the statement that a no names
--   in_order             the statements rise
--   own_rule_first       the first reference of a statement breaks the rule that `breach` tells
--   of_the_statement     the list of a statement has those of the whole list that stand in it
--   bytes_told           the bytes told are those that break the rule; there are none for the rules 1 and 2
--   at_its_offset        at the offset told stands that reference
--   breaches_none, breaches_first, breaches_numbered, breaches_stand, breaches_all, breaches_stay    the same of the contract of `dibol::breaches`
--   statement_none, statement_first, statement_numbered, statement_stand, statement_all, statement_stay    .. and of `dibol::statement_breaches`
--   as_breach_tells      the first row of a statement has the rule that `dibol::breach` answers
--   breaches             which rows there are for some units, computed
-- Assumes nothing.
use Rattle.std.specs.Prelude.{ℕ, ◌+◌, ◌*◌, ◌<◌, ◌≤◌, ◌≡◌, refl, ◌↔◌, ◌⊎◌, List, [], ◌∷◌, ◌++◌, length, get_or, take, drop, replicate}
use Rattle.std.proofs.Common.{sym, ap, ◌∙◌}
use contract.Lifetimes
use Rattle.rules_unit.specs.declared.Item.TheVariants as item
use Rattle.rules_unit.specs.declared.Refusal.{Refusal}
use Rattle.rules_unit.specs.Decode.{mark_of, parts_of, kind_of, field_at, reference_at, number_at, text_at, item_by, item_at, items_in, items_at, statement_at, expressions_at, decoded}
use Rattle.rules_unit.specs.Table.{verb_of}
use Rattle.rules_unit.specs.Expressions.{digitsb, numberb, textb, sort_from, sort_at, extent_of, usesb}
use Rattle.rules_unit.specs.Sound.{SoundUnit}
use Rattle.rules_unit.specs.Checks.{filledb, rangesb, choiceb, entryb, good_fields, endb, rowb, shapeb, found_of, statements_from, parts_check, check_of}
use Rattle.rules_run.specs.Spans.{within, subscript_span, start_end_span, pos_length_span, span_of}
use Rattle.rules_run.specs.Evaluation.{digits_from, literal_number}
use Rattle.rules_fence.specs.declared.Breach.{Breach}
use Rattle.rules_fence.specs.declared.Breach.TheVariants as breach
use Rattle.rules_fence.specs.declared.Broken.{Broken}
use Rattle.rules_fence.specs.declared.Verdict.TheVariants.{Refused, Yes, No}
use Rattle.rules_fence.specs.Bounds.{fixed_span}
use Rattle.rules_fence.specs.Breaches.{breach_number, element_breach, apart_from, alpha_breach, reference_breach, fence_of, breach_in}
use Rattle.rules_fence.specs.Listed.{broken_from, uses_broken, broken_of, statements_broken, breaches_of, broken_in, row_of, rows_laid, Listed, listed}
use Rattle.rules_fence.specs.Stands.{Stands, SpanTold, In, first_rule, Rising}
use Rattle.rules_fence.proofs.Lists.{in_exactly, in_statement, stands_told}
use Rattle.rules_fence.proofs.Heads.{first_rule_lem, none_left, some_left, yes_none, no_first, no_rule, none_exactly, rising}
use Rattle.rules_fence.proofs.Offsets.{stands_there}
use Rattle.rules_fence.proofs.LaidRows.{none_counted, row_numbered, row_in, in_row, left_alone, left_length, first_numbers}
use Rattle.dibol.proofs.breach.Reads as said
use Rattle.dibol.proofs.breaches.Reads as all
use Rattle.dibol.proofs.statement_breaches.Reads as one
use Rattle.promises.specs.Samples.{fares, read, seats, figure, numbers, coded, plain, for_at, part, chosen_bound, wrong_bounds, erring}

-- ---- the list

module _ (u : List ℕ) where
  pub listed_exactly : SoundUnit u (parts_of u) → (b : Broken) → In b (breaches_of u) ↔ Stands (decoded u) b
  listed_exactly = in_exactly u

  pub empty_for_a_yes : (fence_of u ≡ Yes) ↔ SoundUnit u (parts_of u) × (breaches_of u ≡ [])
  empty_for_a_yes = yes_none u

  pub first_is_the_no : (i : ℕ) → (fence_of u ≡ No i) ↔ ((b : Broken) × (bs : List Broken) × (breaches_of u ≡ b ∷ bs) × (b.statement ≡ i))
  first_is_the_no = no_first u

  pub in_order : Rising 0 (breaches_of u)
  in_order = rising u

  pub own_rule_first : (i : ℕ) → first_rule (broken_in u i) ≡ breach_in u i
  own_rule_first = first_rule_lem u

  pub of_the_statement : SoundUnit u (parts_of u) → (i : ℕ) (b : Broken) → In b (broken_in u i) ↔ In b (breaches_of u) × (b.statement ≡ i)
  of_the_statement t i b = (
    λ n. let r = (in_statement u t b i).0 n in ((in_exactly u t b).1 r.0, r.1),
    λ r. (in_statement u t b i).1 ((in_exactly u t b).0 r.0, r.1),
  )

  module _ (b : Broken) (stands : Stands (decoded u) b) where
    pub bytes_told : SpanTold (decoded u) b.written b.field b.span b.rule
    bytes_told = stands_told (decoded u) b stands

    -- The expressions are the E bytes behind the fields.
    pub at_its_offset : item_at (take (parts_of u).e (drop (expressions_at (parts_of u)) u)) b.at ≡ item.Reference b.form b.field
    at_its_offset = stands_there u (parts_of u) b stands

-- ---- the functions themselves

-- `Post` is what a function's `ensures` says of its arguments a, its result n and what it leaves, s. The arguments of `breaches` are the unit, skip and rows.
module _ (κs : Lifetimes.Lfts 2) (a : _) (n : ℕ) (s : _) (post : all.Post κs a n s) where
  abbrev unit : List ℕ
  unit = a.0.now

  abbrev skip : ℕ
  skip = a.1.0

  abbrev rows : List ℕ
  rows = a.1.1.0.now

  abbrev left : List ℕ
  left = s.1.1.0.now

  -- The count is 0 exactly for a yes, and for a unit that is refused.
  pub breaches_none : (n ≡ 0) ↔ (fence_of unit ≡ Yes) ⊎ ((r : Refusal) × (fence_of unit ≡ Refused r))
  breaches_none =
      let l = none_counted (breaches_of unit) skip rows n left post in
      let e = none_exactly unit in
      (λ z. e.0 (l.0 z), λ z. l.1 (e.1 z))

  -- The first two numbers are the statement that a no names and the rule that it breaks.
  pub breaches_first : (i : ℕ) → fence_of unit ≡ No i → skip ≡ 0 → 8 ≤ length rows → (get_or left 0 0 ≡ i) × (get_or left 1 0 ≡ breach_number (breach_in unit i))
  breaches_first i e z h =
      let b = (no_first unit i).0 e in
      let q = first_numbers (breaches_of unit) skip rows n left post b.0 b.1 b.2 z h in
      (q.0 ∙ b.3, q.1 ∙ ap breach_number (no_rule unit i e))

  -- The row j is that of the reference skip + j, where there is one and room for its row.
  pub breaches_numbered : (j : ℕ) (b : Broken) (rest : List Broken) → drop (skip + j) (breaches_of unit) ≡ b ∷ rest → j * 8 + 8 ≤ length rows → take 8 (drop (j * 8) left) ≡ row_of b
  breaches_numbered = row_numbered (breaches_of unit) skip rows n left post

  -- Of a sound unit each row is that of a reference that breaks the rule told ..
  pub breaches_stand : SoundUnit unit (parts_of unit) → (j : ℕ) → skip + j < n → j * 8 + 8 ≤ length rows → (b : Broken) × Stands (decoded unit) b × (take 8 (drop (j * 8) left) ≡ row_of b)
  breaches_stand t j h k = let r = row_in (breaches_of unit) skip rows n left post j h k in (r.0, (in_exactly unit t r.0).0 r.1, r.2)

  -- .. and each such reference has a number below the count, and there its row.
  pub breaches_all : SoundUnit unit (parts_of unit) → (b : Broken) → Stands (decoded unit) b
      → (k : ℕ) × (k < n) × ((j : ℕ) → skip + j ≡ k → j * 8 + 8 ≤ length rows → take 8 (drop (j * 8) left) ≡ row_of b)
  breaches_all t b h = in_row (breaches_of unit) skip rows n left post b ((in_exactly unit t b).1 h)

  -- Where there is no reference for a row, or no room for a whole one, all stays as it was.
  pub breaches_stay : (length left ≡ length rows) × ((j : ℕ) → (n ≤ skip + j) ⊎ (length rows < j * 8 + 8) → drop (j * 8) left ≡ drop (j * 8) rows)
  breaches_stay = (left_length (breaches_of unit) skip rows n left post, left_alone (breaches_of unit) skip rows n left post)

-- The arguments of `statement_breaches` are the unit, the statement i, skip and rows.
module _ (κs : Lifetimes.Lfts 2) (a : _) (n : ℕ) (s : _) (post : one.Post κs a n s) where
  abbrev unit_asked : List ℕ
  unit_asked = a.0.now

  abbrev i : ℕ
  i = a.1.0

  abbrev skip_asked : ℕ
  skip_asked = a.1.1.0

  abbrev rows_lent : List ℕ
  rows_lent = a.1.1.1.0.now

  abbrev rows_left : List ℕ
  rows_left = s.1.1.1.0.now

  -- The count is 0 exactly where the statement breaks no rule, and where there is no such statement.
  pub statement_none : (n ≡ 0) ↔ (breach_in unit_asked i ≡ breach.None)
  statement_none =
      let l = none_counted (broken_in unit_asked i) skip_asked rows_lent n rows_left post in
      let e = none_left unit_asked i in
      (λ z. e.0 (l.0 z), λ z. l.1 (e.1 z))

  -- The first two numbers are the statement and the rule that it breaks first.
  pub statement_first : (breach_in unit_asked i ≡ breach.None → ⊥) → skip_asked ≡ 0 → 8 ≤ length rows_lent → (get_or rows_left 0 0 ≡ i) × (get_or rows_left 1 0 ≡ breach_number (breach_in unit_asked i))
  statement_first e z h =
      let b = some_left unit_asked i e in
      let q = first_numbers (broken_in unit_asked i) skip_asked rows_lent n rows_left post b.0 b.1 b.2 z h in
      (q.0 ∙ b.3, q.1 ∙ ap breach_number (first_rule_lem unit_asked i))

  pub statement_numbered : (j : ℕ) (b : Broken) (rest : List Broken) → drop (skip_asked + j) (broken_in unit_asked i) ≡ b ∷ rest → j * 8 + 8 ≤ length rows_lent → take 8 (drop (j * 8) rows_left) ≡ row_of b
  statement_numbered = row_numbered (broken_in unit_asked i) skip_asked rows_lent n rows_left post

  pub statement_stand : SoundUnit unit_asked (parts_of unit_asked) → (j : ℕ) → skip_asked + j < n → j * 8 + 8 ≤ length rows_lent
      → (b : Broken) × Stands (decoded unit_asked) b × (b.statement ≡ i) × (take 8 (drop (j * 8) rows_left) ≡ row_of b)
  statement_stand t j h k =
      let r = row_in (broken_in unit_asked i) skip_asked rows_lent n rows_left post j h k in
      let x = (in_statement unit_asked t r.0 i).0 r.1 in
      (r.0, x.0, x.1, r.2)

  pub statement_all : SoundUnit unit_asked (parts_of unit_asked) → (b : Broken) → Stands (decoded unit_asked) b → b.statement ≡ i
      → (k : ℕ) × (k < n) × ((j : ℕ) → skip_asked + j ≡ k → j * 8 + 8 ≤ length rows_lent → take 8 (drop (j * 8) rows_left) ≡ row_of b)
  statement_all t b h e = in_row (broken_in unit_asked i) skip_asked rows_lent n rows_left post b ((in_statement unit_asked t b i).1 (h, e))

  pub statement_stay : (length rows_left ≡ length rows_lent) × ((j : ℕ) → (n ≤ skip_asked + j) ⊎ (length rows_lent < j * 8 + 8) → drop (j * 8) rows_left ≡ drop (j * 8) rows_lent)
  statement_stay = (left_length (broken_in unit_asked i) skip_asked rows_lent n rows_left post, left_alone (broken_in unit_asked i) skip_asked rows_lent n rows_left post)

  -- `breach` was asked about the same statement of the same unit, and answered the rule r.
  pub as_breach_tells : (κb : Lifetimes.Lfts 1) (b : _) (r : Breach) (sb : _) → said.Post κb b r sb
      → b.0.now ≡ unit_asked
      → b.1.0 ≡ i
      → (r ≡ breach.None → ⊥)
      → skip_asked ≡ 0
      → 8 ≤ length rows_lent
      → get_or rows_left 1 0 ≡ breach_number r
  as_breach_tells κb b r sb p same-unit same-statement e z h =
      let q : r ≡ breach_in unit_asked i = p ∙ ap (λ (u : List ℕ). breach_in u b.1.0) same-unit ∙ ap (breach_in unit_asked) same-statement in
      (statement_first (λ n. e (q ∙ n)) z h).1 ∙ ap breach_number (sym q)

-- ---- examples

abbrev rows_in : List Broken → List (List ℕ)
rows_in [] = []
rows_in (b ∷ bs) = row_of b ∷ rows_in bs

-- I is D2 and P is D1. Expressions at 4: I(1,1), at 16: I(P) + I(0,1). SET I(1,1) from the sum; INCR P; CLEAR I(1,1).
abbrev three_broken : List ℕ
three_broken = erring "000" (part ++ (0 ∷ chosen_bound ++ (wrong_bounds ++ (0x10 ∷ [])))) (coded 1 4 16 0 ∷ plain 3 ∷ coded 2 4 0 0 ∷ [])

abbrev first_row : List ℕ
first_row = 0 ∷ 5 ∷ 1 ∷ 0 ∷ 4 ∷ 0 ∷ 1 ∷ 12 ∷ []

abbrev second_row : List ℕ
second_row = 0 ∷ 1 ∷ 0 ∷ 0 ∷ 3 ∷ 0 ∷ 0 ∷ 19 ∷ []

abbrev third_row : List ℕ
third_row = 0 ∷ 2 ∷ 0 ∷ 0 ∷ 4 ∷ 0 ∷ 0 ∷ 30 ∷ []

abbrev last_row : List ℕ
last_row = 2 ∷ 5 ∷ 1 ∷ 0 ∷ 4 ∷ 0 ∷ 1 ∷ 12 ∷ []

-- What is left of numbers that are all 7.
abbrev leaves : ℕ → ℕ → Listed
leaves skip room = listed (breaches_of three_broken) skip (replicate room 7)

-- CLEAR I(bound), the bound being the reference given.
abbrev nested : List ℕ → List ℕ
nested bound = erring "000" (bound ++ (3 ∷ 0 ∷ 0 ∷ [])) (coded 2 4 0 0 ∷ [])

pub record Breaching : Type 0 where
  -- Each reference by its own rule; the place before the source, references from left to right, statements in order.
  pub all_rows : rows_in (breaches_of three_broken) ≡ first_row ∷ second_row ∷ third_row ∷ last_row ∷ []
  pub of_statement : rows_in (broken_in three_broken 0) ≡ first_row ∷ second_row ∷ third_row ∷ []
  pub of_last : rows_in (broken_in three_broken 2) ≡ last_row ∷ []
  pub of_a_good_one : broken_in three_broken 1 ≡ []
  pub past_the_last : broken_in three_broken 3 ≡ []
  -- Whole rows alone, from the number given on, and nothing else is changed; the count is that of all.
  pub some_rows : leaves 1 20 ≡ record { count = 4; rows = second_row ++ (third_row ++ replicate 4 7) }
  pub behind_them : leaves 3 20 ≡ record { count = 4; rows = last_row ++ replicate 12 7 }
  pub no_row_left : leaves 4 20 ≡ record { count = 4; rows = replicate 20 7 }
  pub no_room : leaves 0 7 ≡ record { count = 4; rows = replicate 7 7 }
  -- "Of a place only the last reference names a destination": the one inside is read, so that I(1,1) keeps the rules there.
  pub inside_wrong : rows_in (breaches_of (nested wrong_bounds)) ≡ (0 ∷ 2 ∷ 0 ∷ 0 ∷ 4 ∷ 0 ∷ 0 ∷ 12 ∷ []) ∷ (0 ∷ 1 ∷ 1 ∷ 0 ∷ 3 ∷ 0 ∷ 0 ∷ 15 ∷ []) ∷ []
  pub inside_right : rows_in (breaches_of (nested part)) ≡ (0 ∷ 1 ∷ 1 ∷ 0 ∷ 3 ∷ 0 ∷ 0 ∷ 15 ∷ []) ∷ []
  -- A FOR: its place, which is written, then start, limit and step, which are read.
  pub of_a_loop : rows_in (breaches_of (for_at (numbers chosen_bound wrong_bounds part) part))
      ≡ (0 ∷ 5 ∷ 1 ∷ 0 ∷ 4 ∷ 0 ∷ 1 ∷ 43 ∷ []) ∷ (0 ∷ 1 ∷ 0 ∷ 0 ∷ 3 ∷ 0 ∷ 0 ∷ 7 ∷ []) ∷ (0 ∷ 2 ∷ 0 ∷ 0 ∷ 4 ∷ 0 ∷ 0 ∷ 19 ∷ []) ∷ []
  -- The bytes of a span: SET P from I(2:2); a SET at SEATS(4), whose table has three; FARE(2,3), over two elements; UPCASE of a record.
  pub leaves_by_length : rows_in (breaches_of (erring "000" (figure 2 ++ (figure 2 ++ (5 ∷ 0 ∷ 0 ∷ []))) (coded 1 0 4 0 ∷ []))) ≡ (0 ∷ 3 ∷ 0 ∷ 0 ∷ 5 ∷ 1 ∷ 2 ∷ 12 ∷ []) ∷ []
  pub leaves_table : rows_in (breaches_of (seats "34")) ≡ (1 ∷ 3 ∷ 1 ∷ 0 ∷ 3 ∷ 6 ∷ 2 ∷ 12 ∷ []) ∷ []
  pub over_two : rows_in (breaches_of (read "23")) ≡ (0 ∷ 4 ∷ 0 ∷ 0 ∷ 4 ∷ 1 ∷ 2 ∷ 12 ∷ []) ∷ []
  pub on_a_fare : rows_in (breaches_of (fares 0)) ≡ (0 ∷ 6 ∷ 1 ∷ 2 ∷ 2 ∷ 0 ∷ 6 ∷ 0 ∷ []) ∷ []
  -- There is none for a yes, and none for a unit that is refused.
  pub for_a_yes : breaches_of (fares 4) ≡ []
  pub for_no_unit : breaches_of [] ≡ []

pub breaches : Breaching
unfolding mark_of parts_of kind_of field_at reference_at number_at text_at item_by item_at items_in items_at verb_of statement_at digitsb numberb textb sort_from sort_at extent_of usesb filledb rangesb choiceb entryb good_fields endb rowb shapeb found_of statements_from parts_check check_of within subscript_span start_end_span pos_length_span span_of digits_from literal_number fixed_span element_breach apart_from alpha_breach reference_breach broken_from uses_broken broken_of statements_broken breaches_of broken_in rows_laid
breaches =
    record {
      all_rows = refl;
      of_statement = refl;
      of_last = refl;
      of_a_good_one = refl;
      past_the_last = refl;
      some_rows = refl;
      behind_them = refl;
      no_row_left = refl;
      no_room = refl;
      inside_wrong = refl;
      inside_right = refl;
      of_a_loop = refl;
      leaves_by_length = refl;
      leaves_table = refl;
      over_two = refl;
      on_a_fare = refl;
      for_a_yes = refl;
      for_no_unit = refl;
    }
