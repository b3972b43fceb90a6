-- The fence rules one by one, each on a small unit in its bytes: the check says no and names the statement and the rule, and the same unit with one
-- character or item changed gets a yes. Rules 3, 5 and 6 stand in Slips.
--
--   fences             what the check says; the units are in Samples
--   reads_alone, writes_there, control_there    of what a statement reads no byte is a destination, and what it writes is one
-- Assumes nothing.
use Rattle.std.proofs.Common.{arith, sym, subst}
use Rattle.std.specs.Prelude.{◌≡◌, refl, [], ◌∷◌, ℕ, zero, suc, ◌<◌, ◌≤◌, Option}
use Rattle.rules_unit.specs.Decode.{mark_of, parts_of, kind_of, field_at, reference_at, number_at, text_at, item_by, item_at, items_in, items_at, statement_at}
use Rattle.rules_unit.specs.Table.{verb_of}
use Rattle.rules_unit.specs.Expressions.{digitsb, numberb, textb, sort_from, sort_at, extent_of, usesb}
use Rattle.rules_unit.specs.Checks.{filledb, rangesb, choiceb, entryb, good_fields, endb, rowb, shapeb, found_of, statements_from, parts_check, check_of}
use Rattle.rules_run.specs.Spans.{within, subscript_span, start_end_span, pos_length_span, span_of}
use Rattle.rules_run.specs.Evaluation.{digits_from, literal_number}
use Rattle.rules_fence.specs.declared.Verdict.TheVariants.{Yes, No}
use Rattle.rules_fence.specs.Bounds.{fixed_span}
use Rattle.rules_fence.specs.Breaches.{element_breach, apart_from, alpha_breach, reference_breach, breach_from, uses_breach, breach_of, verdict_from, fence_of, breach_number, breach_in}
use Rattle.rules_run.specs.declared.Span.{Span}
use Rattle.rules_unit.specs.Decode.{decoded}
use Rattle.rules_fence.specs.Destinations.{PlaceNames, Covers, Destination}
use Rattle.rules_fence.proofs.PlaceSpans.{span_from, place_span, names_span}
use Rattle.rules_fence.proofs.Aims.{destination_exactly, aim_destination}
use Rattle.promises.specs.Samples.{smear, chosen, named, cleared, read, copied, backward, figure, I, numbers, coded, plain, for_at, part, chosen_bound, wrong_bounds, on_error_lem, erring}

pub record Fences : Type 0 where
  -- "Each bound of 03, 04 and 05 is a number literal"
  pub bound_chosen : fence_of chosen ≡ No 0
  pub bound_chosen_rule : breach_number (breach_in chosen 0) ≡ 1
  pub bound_named : fence_of named ≡ Yes
  -- "the bounds are ones that 21 isn't given for"
  pub bounds_wrong : fence_of (cleared "02") ≡ No 0
  pub bounds_wrong_rule : breach_number (breach_in (cleared "02") 0) ≡ 2
  pub bounds_right : fence_of (cleared "12") ≡ Yes
  -- "A decimal span lies in one element"
  pub over_elements : fence_of (read "23") ≡ No 0
  pub over_elements_rule : breach_number (breach_in (read "23") 0) ≡ 4
  pub one_element : fence_of (read "34") ≡ Yes
  pub a_part : fence_of (read "11") ≡ Yes
  -- An alpha source may share bytes with a decimal field; an alpha span may go over elements; a bound may be negated.
  pub record_read : fence_of copied ≡ Yes
  pub back_over : fence_of backward ≡ Yes
  -- "The control place is a destination in demand 3 and in the fence.": it ends at its element's last character
  pub loop_fenced : fence_of (for_at (numbers (figure 1) (figure 9) (figure 2)) I) ≡ Yes
  pub control_inside : fence_of (for_at (numbers (figure 1) (figure 9) (figure 2)) part) ≡ No 0
  pub control_inside_rule : breach_number (breach_in (for_at (numbers (figure 1) (figure 9) (figure 2)) part) 0) ≡ 5
  pub limit_inside : fence_of (for_at (numbers (figure 1) part (figure 2)) I) ≡ Yes
  -- Start, limit and step are read in that order, after the place: of two breaches the first is named.
  pub start_breaks : breach_number (breach_in (for_at (numbers chosen_bound (figure 9) (figure 2)) I) 0) ≡ 1
  pub limit_breaks : breach_number (breach_in (for_at (numbers (figure 1) chosen_bound (figure 2)) I) 0) ≡ 1
  pub step_breaks : breach_number (breach_in (for_at (numbers (figure 1) (figure 9) chosen_bound) I) 0) ≡ 1
  pub place_first : breach_number (breach_in (for_at (numbers wrong_bounds (figure 9) (figure 2)) part) 0) ≡ 5
  pub start_next : breach_number (breach_in (for_at (numbers wrong_bounds chosen_bound (figure 2)) I) 0) ≡ 2
  pub limit_next : breach_number (breach_in (for_at (numbers (figure 1) wrong_bounds chosen_bound) I) 0) ≡ 2
  pub step_last : breach_number (breach_in (for_at (numbers (figure 1) chosen_bound wrong_bounds) I) 0) ≡ 1
  -- ONERROR and OFFERROR have no reference, and a handler makes no breach right.
  pub handlers_fenced : fence_of (erring "000" I (on_error_lem 1 ∷ plain 19 ∷ [])) ≡ Yes
  pub breach_handled : fence_of (erring "000" part (on_error_lem 0 ∷ coded 3 4 0 0 ∷ plain 19 ∷ [])) ≡ No 1
  pub breach_handled_rule : breach_number (breach_in (erring "000" part (on_error_lem 0 ∷ coded 3 4 0 0 ∷ plain 19 ∷ [])) 1) ≡ 5

pub fences : Fences
unfolding mark_of parts_of kind_of field_at reference_at number_at text_at item_by item_at items_in items_at verb_of statement_at digitsb numberb textb sort_from sort_at extent_of usesb filledb rangesb choiceb entryb good_fields endb rowb shapeb found_of statements_from parts_check check_of within subscript_span start_end_span pos_length_span span_of digits_from literal_number fixed_span element_breach apart_from alpha_breach reference_breach breach_from uses_breach breach_of verdict_from fence_of breach_in
fences =
    record {
      bound_chosen = refl;
      bound_chosen_rule = refl;
      bound_named = refl;
      bounds_wrong = refl;
      bounds_wrong_rule = refl;
      bounds_right = refl;
      over_elements = refl;
      over_elements_rule = refl;
      one_element = refl;
      a_part = refl;
      record_read = refl;
      back_over = refl;
      loop_fenced = refl;
      control_inside = refl;
      control_inside_rule = refl;
      limit_inside = refl;
      start_breaks = refl;
      limit_breaks = refl;
      step_breaks = refl;
      place_first = refl;
      start_next = refl;
      limit_next = refl;
      step_last = refl;
      handlers_fenced = refl;
      breach_handled = refl;
      breach_handled_rule = refl;
    }

-- ---- destinations: in `smear`, AM(2,6) from AM(1,5), byte 0 is only read and byte 1 is written

pub reads_alone : Destination (decoded smear) 0 → ⊥
unfolding mark_of parts_of kind_of field_at reference_at number_at item_by item_at items_in items_at statement_at digitsb numberb within start_end_span span_of digits_from literal_number fixed_span span_from place_span
reads_alone d = let a = (destination_exactly (decoded smear) 0).0 d in none a.statement_number a.low a.span a.names a.covers
  where
    none : (i : ℕ) → i < (decoded smear).statements → (span : Option Span) → PlaceNames (decoded smear) ((decoded smear).items ((decoded smear).statement i).a) span → Covers span 0 → ⊥
    none zero l span p v = let z : 1 ≤ 0 = (subst (λ (x : Option Span). Covers x 0) (sym (names_span (decoded smear) _ span p)) v).0 in omega (arith, z)
    none (suc i) l span p v = let z : suc i < 1 = l in omega (arith, z)

pub writes_there : Destination (decoded smear) 1
unfolding mark_of parts_of kind_of field_at reference_at number_at item_by item_at items_in items_at statement_at verb_of digitsb numberb within start_end_span span_of digits_from literal_number fixed_span span_from place_span
writes_there = aim_destination (decoded smear) 0 (omega arith) 1 (omega arith, omega arith)

-- Of FOR I the bytes of I are written.
pub control_there : Destination (decoded (for_at (numbers (figure 1) (figure 9) (figure 2)) I)) 1
unfolding mark_of parts_of kind_of field_at reference_at number_at item_by item_at items_in items_at statement_at verb_of digitsb numberb within span_of digits_from literal_number fixed_span span_from place_span
control_there = aim_destination (decoded (for_at (numbers (figure 1) (figure 9) (figure 2)) I)) 0 (omega arith) 1 (omega arith, omega arith)
