-- What is answered of a data buffer, computed (the owner's letter: "a data buffer of its size whose decimal elements are all valid"; request 2 of document 02, "leading
-- spaces as zeros").
--
--   valid_data     which data are valid for a unit, and which element is the first that is not
--   host_told      what a host in C is told of data, of a unit's parts and of its fields
--   false_premise  a unit with a yes whose own data are not valid, and what its run stops with
-- Assumes nothing.
use Rattle.std.specs.Prelude.{◌≡◌, refl, List, [], ◌∷◌, ℕ, set, replicate}
use Prim.Native.String as string
use Rattle.rules.specs.Values.{valid_from, paddedb, validb, read_from, padded_read, read_of}
use Rattle.rules_unit.specs.declared.Refusal.TheVariants as refusal
use Rattle.rules_unit.specs.Decode.{mark_of, parts_of, kind_of, field_at, reference_at, number_at, item_by, item_at, items_in, items_at, statement_at}
use Rattle.rules_unit.specs.Table.{verb_of}
use Rattle.rules_unit.specs.Expressions.{digitsb, numberb, sort_from, sort_at, usesb}
use Rattle.rules_unit.specs.Checks.{filledb, rangesb, choiceb, entryb, good_fields, rowb, shapeb, found_of, statements_from, parts_check, check_of}
use Rattle.rules_run.specs.Spans.{within, span_of}
use Rattle.rules_run.specs.Evaluation.{calc, digits_from, literal_number, reference, step_by, place_by, place, last_of, worked_from, worked_of}
use Rattle.rules_run.specs.States.{returnsb, emptyb, slotsb, soundb}
use Rattle.rules_run.specs.Turns.{stored, applied, turn_by, turn_of}
use Rattle.rules_run.specs.Runs.{moved_by, run_from, run_checked, run_of}
use Rattle.rules_fence.specs.declared.Validity.{Validity}
use Rattle.rules_fence.specs.declared.Validity.TheVariants.{Refused, WrongSize, AllValid, Invalid}
use Rattle.rules_fence.specs.declared.Verdict.TheVariants.{Yes}
use Rattle.rules_fence.specs.Bounds.{fixed_span}
use Rattle.rules_fence.specs.Breaches.{element_breach, reference_breach, breach_from, uses_breach, breach_of, verdict_from, fence_of}
use Rattle.rules_fence.specs.Validity.{elementb, elements_from, field_validity, fields_from, validity_of}
use Rattle.rules_host.specs.Laid.{laid}
use Rattle.rules_host.specs.Words.{codes, breach_words_of}
use Rattle.rules_host.specs.Calls.{Told, entry_of, parts_told, field_told, invalid_told}
use Rattle.promises.specs.Rows.{bytes}
use Rattle.promises.specs.Samples.{fares, read, stops, I, plain, reads, erring}

-- FARE is D2, twice, and TEXT is A2; I is D2 and P is D1; FARE is D3, NAME is A3, and the record covers both.
abbrev of_fares : string.String → Validity
of_fares held = validity_of (read "34") (bytes held)

abbrev of_two : string.String → Validity
of_two held = validity_of (erring "000" I (plain 3 ∷ [])) (bytes held)

abbrev of_record : string.String → Validity
of_record held = validity_of (fares 4) (bytes held)

pub record ValidData : Type 0 where
  -- Alpha fields may hold anything.
  pub all_digits : of_fares "1234??" ≡ AllValid
  -- The elements are told from 1, the first that is not valid is told, and the last is looked at too.
  pub first_element : of_fares "?234??" ≡ Invalid 0 1
  pub last_element : of_fares "12?4??" ≡ Invalid 0 2
  pub first_of_both : of_fares "?2?4??" ≡ Invalid 0 1
  -- "the last is 0 to 9, or p to y": as a last character alone, and no other letter.
  pub letters_last : of_fares "1p3y??" ≡ AllValid
  pub letter_inside : of_fares "12y4??" ≡ Invalid 0 2
  pub below_letters : of_fares "1o34??" ≡ Invalid 0 1
  pub above_letters : of_fares "123z??" ≡ Invalid 0 2
  -- "leading spaces as zeros, and an all-space span as 0. A space after a digit is still 22."
  pub blanks : of_fares " 2  ??" ≡ AllValid
  pub blank_and_letter : of_fares " y34??" ≡ AllValid
  pub blank_behind : of_fares "123 ??" ≡ Invalid 0 2
  -- By field: the fields are told from 0.
  pub second_field : of_two "00?" ≡ Invalid 1 1
  pub first_field : of_two "0??" ≡ Invalid 0 1
  -- Of a record nothing is asked; it covers the fare, and letters.
  pub record_passed_over : of_record "12smeg" ≡ AllValid
  pub fare_in_record : of_record "12Smeg" ≡ Invalid 0 1
  -- The size comes before the elements, and what the check refuses before the size.
  pub too_short : of_fares "?234?" ≡ WrongSize
  pub too_long : of_fares "?234???" ≡ WrongSize
  pub no_data : of_fares "" ≡ WrongSize
  pub no_unit : validity_of [] [] ≡ Refused refusal.NotFilled
  pub bad_field : validity_of (set (read "34") 6 3) (bytes "?234?") ≡ Refused (refusal.BadField 0)

pub valid_data : ValidData
unfolding valid_from paddedb validb mark_of parts_of kind_of field_at reference_at number_at item_by item_at items_in items_at verb_of statement_at digitsb numberb sort_from sort_at usesb filledb rangesb choiceb entryb good_fields rowb shapeb found_of statements_from parts_check check_of elementb elements_from field_validity fields_from validity_of
valid_data =
    record {
      all_digits = refl;
      first_element = refl;
      last_element = refl;
      first_of_both = refl;
      letters_last = refl;
      letter_inside = refl;
      below_letters = refl;
      above_letters = refl;
      blanks = refl;
      blank_and_letter = refl;
      blank_behind = refl;
      second_field = refl;
      first_field = refl;
      record_passed_over = refl;
      fare_in_record = refl;
      too_short = refl;
      too_long = refl;
      no_data = refl;
      no_unit = refl;
      bad_field = refl;
    }

-- ---- a host in C

-- An answer of nines, of which one more than asked is given; all that is told stands before the last.
abbrev nines : ℕ → List ℕ
nines n = replicate n 9

abbrev data_told : string.String → Told
data_told held = invalid_told (read "34") (of_fares held) (nines 5)

pub record HostTold : Type 0 where
  pub all_told : data_told "1234??" ≡ record { value = 0; answer = 0 ∷ 0 ∷ 0 ∷ 0 ∷ 9 ∷ [] }
  -- 22, the field, the element from 1, and where it starts
  pub element_told : data_told "12?4??" ≡ record { value = 22; answer = 22 ∷ 0 ∷ 2 ∷ 2 ∷ 9 ∷ [] }
  pub size_told : data_told "1234" ≡ record { value = 6; answer = 6 ∷ 0 ∷ 0 ∷ 0 ∷ 9 ∷ [] }
  pub refusal_told : invalid_told [] (validity_of [] []) (nines 5) ≡ record { value = 1; answer = 1 ∷ 0 ∷ 0 ∷ 0 ∷ 9 ∷ [] }
  -- D, F, E, P, N, and the digits of the dialect
  pub parts_told_lem : parts_told (check_of (read "34")) (nines 7) ≡ record { value = 0; answer = 6 ∷ 2 ∷ 16 ∷ 2 ∷ 1 ∷ 18 ∷ 9 ∷ [] }
  pub no_parts_told : parts_told (check_of []) (nines 7) ≡ record { value = 1; answer = 0 ∷ 0 ∷ 0 ∷ 0 ∷ 0 ∷ 0 ∷ 9 ∷ [] }
  -- the kind, the offset, the size, the count, and whether it is strict
  pub decimal_told : field_told (entry_of (read "34") 0) (nines 6) ≡ record { value = 1; answer = 1 ∷ 0 ∷ 2 ∷ 2 ∷ 0 ∷ 9 ∷ [] }
  pub alpha_told : field_told (entry_of (fares 4) 1) (nines 6) ≡ record { value = 1; answer = 0 ∷ 3 ∷ 3 ∷ 1 ∷ 0 ∷ 9 ∷ [] }
  pub record_told : field_told (entry_of (fares 4) 2) (nines 6) ≡ record { value = 1; answer = 2 ∷ 0 ∷ 6 ∷ 1 ∷ 0 ∷ 9 ∷ [] }
  pub strict_told : field_told (entry_of (set (fares 4) 15 0x80) 1) (nines 6) ≡ record { value = 1; answer = 0 ∷ 3 ∷ 3 ∷ 1 ∷ 1 ∷ 9 ∷ [] }
  pub no_field_told : field_told (entry_of (fares 4) 3) (nines 6) ≡ record { value = 0; answer = 0 ∷ 0 ∷ 0 ∷ 0 ∷ 0 ∷ 9 ∷ [] }
  -- A number that is no fence rule has no words.
  pub no_words : (breach_words_of 0 ≡ []) × (breach_words_of 7 ≡ [])

pub host_told : HostTold
unfolding valid_from paddedb validb mark_of parts_of kind_of field_at reference_at number_at item_by item_at items_in items_at verb_of statement_at digitsb numberb sort_from sort_at usesb filledb rangesb choiceb entryb good_fields rowb shapeb found_of statements_from parts_check check_of elementb elements_from field_validity fields_from validity_of laid entry_of codes breach_words_of
host_told =
    record {
      all_told = refl;
      element_told = refl;
      size_told = refl;
      refusal_told = refl;
      parts_told_lem = refl;
      no_parts_told = refl;
      decimal_told = refl;
      alpha_told = refl;
      record_told = refl;
      strict_told = refl;
      no_field_told = refl;
      no_words = (refl, refl);
    }

-- ---- a premise that is false

-- SET P from I, where the unit's image holds "q2" for I.
abbrev unread : List ℕ
unread = erring "q20" I (reads ∷ [])

pub record FalsePremise : Type 0 where
  pub fenced : fence_of unread ≡ Yes
  pub found : validity_of unread (bytes "q20") ≡ Invalid 0 1
  pub stopped : stops 3 unread ≡ 22

pub false_premise : FalsePremise
unfolding valid_from paddedb validb read_from padded_read read_of mark_of parts_of kind_of field_at reference_at number_at item_by item_at items_in items_at verb_of statement_at digitsb numberb sort_from sort_at usesb filledb rangesb choiceb entryb good_fields rowb shapeb found_of statements_from parts_check check_of within span_of calc digits_from literal_number reference step_by place_by place last_of worked_from worked_of returnsb emptyb slotsb soundb stored applied turn_by turn_of moved_by run_from run_checked run_of fixed_span element_breach reference_breach breach_from uses_breach breach_of verdict_from fence_of elementb elements_from field_validity fields_from validity_of
false_premise = record { fenced = refl; found = refl; stopped = refl }
