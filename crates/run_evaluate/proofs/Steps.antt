-- One item of an expression: what a step answers leads to what the whole comes to. One law for each way out of a step, with what the code knows there
-- as premises; ready is what every step asks, and r what it answers.
-- Assumes nothing.
use Rattle.std.specs.Prelude.{Result, Err, Ok}
use mathlib.Core.Path.{◌≡◌, refl, sym, ap, ◌∙◌}
use mathlib.Core.Bool.{Bool, true, false, cond}
use mathlib.Core.List.{List, [], ◌∷◌}
use Prim.Native.Nat.{ℕ, ◌+◌, ◌-◌, ◌^◌, ◌≤◌, ◌<◌}
use native.Mathlib.Nat.{add-zero}
use native.Mathlib.Omega.{arith}
use lib.Dec.{ltb, eqb, lit<}
use lib.IntN.{ℤ, pos}
use lib.ListN.{length, get_or, set}
use borrow.Author.Tests.{eq-eqb, ne_eqb}
use mir.Syntax.{w64}
use mir.Val.{SFits, to_z, of_z}
use Rattle.rules.specs.declared.Fault.{Fault}
use Rattle.rules.specs.declared.Fault.TheVariants as fault
use Rattle.rules.specs.Values.{Val}
use Rattle.rules.proofs.Range.{of_range}
use Rattle.rules.proofs.Signed.{back, again, val_fits, op_plain, pow_le18}
use Rattle.rules.proofs.Walk.{cond_same}
use Rattle.unit_decode.specs.declared.filled.Coded.{Coded}
use Rattle.unit_decode.specs.Units.{code_in}
use Rattle.rules_unit.specs.declared.Form.{Form}
use Rattle.rules_unit.specs.declared.Form.TheVariants as form
use Rattle.rules_unit.specs.declared.Op.{Op}
use Rattle.rules_unit.specs.declared.Item.{Item}
use Rattle.rules_unit.specs.declared.Item.TheVariants as item
use Rattle.rules_unit.specs.Codes.{Code}
use Rattle.rules_unit.specs.Decode.{word_at, reference_at, number_at, text_at, item_at, width_of, follow, items_at}
use Rattle.rules_unit.specs.Expressions.{form_takes, op_takes, takes, textb}
use Rattle.rules_unit.proofs.Items.{items_as, beyond}
use Rattle.rules_run.specs.declared.Worked.{Worked}
use Rattle.rules_run.specs.declared.Worked.TheVariants as worked
use Rattle.rules_run.specs.Spans.{span_of}
use Rattle.rules_run.specs.Evaluation.{calc, literal_number, reference, apply, Held, halt, push, room, step_by, left, on_held, place_by, last_of, worked_from, worked_of}
use Rattle.rules_run.proofs.Ranges.{apply_range}
use Rattle.run_items.proofs.Closing.{closed, unclosed}
use Rattle.run_evaluate.specs.declared.Step.{Step}
use Rattle.run_evaluate.specs.declared.Step.TheVariants.{Hold, Done}
use Rattle.run_evaluate.specs.Steps.{top_down, rest_of, held_on, Vals, Ready, Leads}
use Rattle.run_evaluate.proofs.Held.{top_push, left_one, left_other, too_few, step_at, full, room_for, place_held, text_held, vals_set}
use Rattle.run_evaluate.proofs.Coded.{number_cut, number_whole, reference_cut, reference_whole, text_cut, text_whole}

pub rest_start : (c : Code) (d : List ℕ) (is : List Item) (held : List ℤ) → rest_of c d is (top_down held 0) ≡ worked_of c d is
unfolding rest_of top_down worked_of
rest_start c d [] held = refl
rest_start c d (i ∷ is) held = refl

-- ---- the items that are left

module _ (c : Code) (d : List ℕ) (st : List ℤ) where
  rest_number : (p l : ℕ) (is : List Item) → rest_of c d (item.Number p l ∷ is) st ≡ on_held (step_by 0 (apply c d (item.Number p l)) st) (rest_of c d is)
  unfolding rest_of worked_from last_of
  rest_number p l [] = refl
  rest_number p l (j ∷ is) = refl

  rest_operator : (o : Op) (is : List Item) → rest_of c d (item.Operator o ∷ is) st ≡ on_held (step_by (op_takes o) (apply c d (item.Operator o)) st) (rest_of c d is)
  unfolding rest_of worked_from last_of
  rest_operator o [] = refl
  rest_operator o (j ∷ is) = refl

  rest_reference : (h : Form) (f : ℕ) (is : List Item) → (is ≡ [] → ⊥)
      → rest_of c d (item.Reference h f ∷ is) st ≡ on_held (step_by (form_takes h) (apply c d (item.Reference h f)) st) (rest_of c d is)
  unfolding rest_of worked_from
  rest_reference h f [] o = absurd (o refl)
  rest_reference h f (j ∷ is) o = refl

  -- An alpha literal that is not last.
  rest_text : (p l : ℕ) (is : List Item) → (is ≡ [] → ⊥) → rest_of c d (item.Text p l ∷ is) st ≡ Err fault.Malformed
  unfolding rest_of worked_from step_by
  rest_text p l [] o = absurd (o refl)
  rest_text p l (j ∷ is) o = ap (λ (h : Held). on_held h (rest_of c d (j ∷ is))) (cond_same (ltb (length st) 16) (halt fault.Malformed))

-- ---- a step

module _ (co : Coded) (d es : List ℕ) (i n : ℕ) (held : List ℤ) (ready : Ready co d es i held) where
  at_item : (it : Item) → it ≡ item_at es i
      → rest_of (code_in co) d (items_at es i) (top_down held n) ≡ rest_of (code_in co) d (follow it (items_at es (i + width_of it))) (top_down held n)
  at_item it e = ap (λ (l : List Item). rest_of (code_in co) d l (top_down held n)) (items_as es i it e)

  leads_done : (r : Step) (w : Result Worked Fault) → r ≡ Done w → rest_of (code_in co) d (items_at es i) (top_down held n) ≡ w → Leads (code_in co) d es i n held r
  leads_done r w e f = rw e (record { same = sym f; onward = tt })

  pub bad_leads : (r : Step) → item_at es i ≡ item.Bad → r ≡ Done (Err fault.Malformed) → Leads (code_in co) d es i n held r
  unfolding rest_of worked_from last_of
  bad_leads r e q = leads_done r (Err fault.Malformed) q (at_item item.Bad (sym e))

  -- an item that works on the values held: next is where the item after it stands
  module _ (it : Item) (next : ℕ) (going : rest_of (code_in co) d (items_at es i) (top_down held n) ≡ on_held (step_by (takes it) (apply (code_in co) d it) (top_down held n)) (rest_of (code_in co) d (items_at es next))) where
    after : (h : Held) → step_by (takes it) (apply (code_in co) d it) (top_down held n) ≡ h
        → rest_of (code_in co) d (items_at es i) (top_down held n) ≡ on_held h (rest_of (code_in co) d (items_at es next))
    after h q = going ∙ ap (λ (x : Held). on_held x (rest_of (code_in co) d (items_at es next))) q

    few : (r : Step) → n < takes it → r ≡ Done (Err fault.Malformed) → Leads (code_in co) d es i n held r
    few r h q = leads_done r (Err fault.Malformed) q (after (halt fault.Malformed) (too_few (code_in co) d held it n h))

    -- the first of the values that it takes stands at m
    module _ (m : ℕ) (em : m + takes it ≡ n) where
      at_m : (h : Held) → room (top_down held m) (apply (code_in co) d it (get_or held m (pos 0)) (get_or held (m + 1) (pos 0))) ≡ h
          → rest_of (code_in co) d (items_at es i) (top_down held n) ≡ on_held h (rest_of (code_in co) d (items_at es next))
      at_m h q = after h (step_at (code_in co) d held it n m em ∙ q)

      over : (r : Step) → 16 ≤ m → r ≡ Done (Err fault.Malformed) → Leads (code_in co) d es i n held r
      over r h q =
          leads_done r (Err fault.Malformed) q
          (at_m (halt fault.Malformed) (full held m (apply (code_in co) d it (get_or held m (pos 0)) (get_or held (m + 1) (pos 0))) h))

      -- v is what it makes of them
      module _ (l : m < 16) (f : i < next) (v : Result ℤ Fault) (ev : v ≡ apply (code_in co) d it (get_or held m (pos 0)) (get_or held (m + 1) (pos 0))) where
        pushed : (q : Result ℤ Fault) → v ≡ q → rest_of (code_in co) d (items_at es i) (top_down held n) ≡ on_held (push q (top_down held m)) (rest_of (code_in co) d (items_at es next))
        pushed q e =
            at_m (push q (top_down held m))
            (room_for held m (apply (code_in co) d it (get_or held m (pos 0)) (get_or held (m + 1) (pos 0))) l
            ∙ ap (λ (x : Result ℤ Fault). push x (top_down held m)) (sym ev ∙ e))

        ranged : (z : ℤ) → v ≡ Ok z → Val (10 ^ 18) z
        ranged z e =
            of_range (sym ev ∙ e)
            (apply_range (code_in co) d (10 ^ 18) (lit< tt) ready.dialect.bound.most (pow_le18 (omega (arith, ready.dialect.limit.most)))
            it (get_or held m (pos 0)) (get_or held (m + 1) (pos 0)) (ready.vals m) (ready.vals (m + 1)))

        by_num : (q : Result ℤ Fault) → v ≡ q → Leads (code_in co) d es i n held (held_on m next q)
        by_num (Ok z) e = record { same = sym (pushed (Ok z) e); onward = (l, f, ranged z e) }
        by_num (Err x) e = record { same = sym (pushed (Err x) e); onward = tt }

        works : (r : Step) → r ≡ held_on m next v → Leads (code_in co) d es i n held r
        works r q = rw q (by_num v refl)

  -- ---- 00

  module _ (e : item_at es i ≡ item.End) where
    at_end : rest_of (code_in co) d (items_at es i) (top_down held n) ≡ left (top_down held n)
    unfolding rest_of
    at_end = at_item item.End (sym e)

    pub end_one : n ≡ 1 → Leads (code_in co) d es i n held (Done (Ok (worked.Number (to_z w64 (of_z w64 (get_or held 0 (pos 0)))))))
    end_one h =
        leads_done (Done (Ok (worked.Number (to_z w64 (of_z w64 (get_or held 0 (pos 0))))))) (Ok (worked.Number (to_z w64 (of_z w64 (get_or held 0 (pos 0)))))) refl
        (at_end ∙ left_one held n h ∙ ap (λ (v : ℤ). Ok (worked.Number v)) (sym (back (val_fits (ready.vals 0)))))

    pub end_other : (r : Step) → (n ≡ 1 → ⊥) → r ≡ Done (Err fault.Malformed) → Leads (code_in co) d es i n held r
    end_other r h q = leads_done r (Err fault.Malformed) q (at_end ∙ left_other held n h)

  -- ---- a number literal

  module _ (e : item_at es i ≡ number_at es i) where
    pub number_short : (r : Step) → length es - i ≤ 3 → r ≡ Done (Err fault.Malformed) → Leads (code_in co) d es i n held r
    number_short r h q = bad_leads r (number_cut es i e h) q

    module _ (k : 3 < length es - i) where
      number_going : rest_of (code_in co) d (items_at es i) (top_down held n)
          ≡ on_held (step_by 0 (apply (code_in co) d (item.Number (word_at es (i + 1)) (get_or es (i + 3) 0))) (top_down held n)) (rest_of (code_in co) d (items_at es (i + 4)))
      number_going =
          at_item (item.Number (word_at es (i + 1)) (get_or es (i + 3) 0)) (number_whole es i e k)
          ∙ rest_number (code_in co) d (top_down held n) (word_at es (i + 1)) (get_or es (i + 3) 0) (items_at es (i + 4))

      pub number_over : (r : Step) (most : ℕ) → 16 ≤ most → most ≤ n → r ≡ Done (Err fault.Malformed) → Leads (code_in co) d es i n held r
      number_over r most b l q = over (item.Number (word_at es (i + 1)) (get_or es (i + 3) 0)) (i + 4) number_going n (add-zero n) r (omega arith) q

      pub number_held : (place len : ℕ) (v : Result ℤ Fault) (r : Step) → n < 16 → place ≡ word_at es (i + 1) → len ≡ get_or es (i + 3) 0
          → v ≡ literal_number (code_in co) place len → r ≡ held_on n (i + 4) v → Leads (code_in co) d es i n held r
      number_held place len v r l ep el ev q =
          works (item.Number (word_at es (i + 1)) (get_or es (i + 3) 0)) (i + 4) number_going n (add-zero n) l (omega arith) v (rw (ep, el) at ev) r q

  -- ---- a reference; f is the field that it names, and t says whether 00 stands after it

  pub reference_short : (h : Form) (r : Step) → item_at es i ≡ reference_at es i h → length es - i ≤ 2 → r ≡ Done (Err fault.Malformed)
      → Leads (code_in co) d es i n held r
  reference_short h r e k q = bad_leads r (reference_cut es i h e k) q

  module _ (h : Form) (e : item_at es i ≡ reference_at es i h) (k : 2 < length es - i) (f : ℕ) (ef : f ≡ word_at es (i + 1)) (t : Bool) (et : t ≡ cond (ltb (i + 3) (length es)) (eqb (get_or es (i + 3) 0) 0) false) where
    named : item.Reference h f ≡ item_at es i
    named = ap (item.Reference h) ef ∙ reference_whole es i h e k

    reference_going : t ≡ false
        → rest_of (code_in co) d (items_at es i) (top_down held n)
        ≡ on_held (step_by (form_takes h) (apply (code_in co) d (item.Reference h f)) (top_down held n)) (rest_of (code_in co) d (items_at es (i + 3)))
    reference_going o =
        at_item (item.Reference h f) named ∙ rest_reference (code_in co) d (top_down held n) h f (items_at es (i + 3)) (unclosed es (i + 3) t et o)

    at_last : t ≡ true
        → rest_of (code_in co) d (items_at es i) (top_down held n)
        ≡ cond (eqb n (form_takes h)) (place_by (code_in co) d h f (get_or held 0 (pos 0)) (get_or held 1 (pos 0))) (Err fault.Malformed)
    unfolding rest_of worked_from last_of
    at_last o =
        at_item (item.Reference h f) named
        ∙ ap (λ (l : List Item). rest_of (code_in co) d (item.Reference h f ∷ l) (top_down held n)) (closed es (i + 3) t et o)
        ∙ place_held (code_in co) d held h f n

    pub reference_place : (w : Result Worked Fault) → t ≡ true
        → w ≡ cond (eqb n (form_takes h)) (place_by (code_in co) d h f (to_z w64 (of_z w64 (get_or held 0 (pos 0)))) (to_z w64 (of_z w64 (get_or held 1 (pos 0))))) (Err fault.Malformed)
        → Leads (code_in co) d es i n held (Done w)
    reference_place w o q =
        leads_done (Done w) w refl (at_last o ∙ sym (rw (back (val_fits (ready.vals 0)), back (val_fits (ready.vals 1))) at q))

    -- taken is the code's own copy of how many values it takes
    module _ (o : t ≡ false) (x taken : ℕ) (ex : x ≡ form_takes h) (em : taken ≡ x) where
      pub reference_few : (r : Step) → n < taken → r ≡ Done (Err fault.Malformed) → Leads (code_in co) d es i n held r
      reference_few r l q = few (item.Reference h f) (i + 3) (reference_going o) r (omega arith) q

      pub reference_over : (r : Step) → taken ≤ n → 16 ≤ n - taken → r ≡ Done (Err fault.Malformed) → Leads (code_in co) d es i n held r
      reference_over r l m q = over (item.Reference h f) (i + 3) (reference_going o) (n - taken) (omega arith) r m q

      pub reference_held : (v : Result ℤ Fault) (r : Step) → taken ≤ n → n - taken < 16
          → v ≡ reference (code_in co) d h f (to_z w64 (of_z w64 (get_or held (n - taken) (pos 0)))) (to_z w64 (of_z w64 (get_or held (n - taken + 1) (pos 0))))
          → r ≡ held_on (n - taken) (i + 3) v → Leads (code_in co) d es i n held r
      reference_held v r l m ev q =
          works (item.Reference h f) (i + 3) (reference_going o) (n - taken) (omega arith) m (omega arith) v
          (ev ∙ op_plain (reference (code_in co) d h f) (val_fits (ready.vals (n - taken))) (val_fits (ready.vals (n - taken + 1)))) r q

  -- without bounds
  module _ (e : item_at es i ≡ reference_at es i form.First) (k : 2 < length es - i) (f : ℕ) (ef : f ≡ word_at es (i + 1)) (t : Bool) (et : t ≡ cond (ltb (i + 3) (length es)) (eqb (get_or es (i + 3) 0) 0) false) where
    pub field_place : (w : Result Worked Fault) → t ≡ true → n ≡ 0 → w ≡ place_by (code_in co) d form.First f (pos 0) (pos 0) → Leads (code_in co) d es i n held (Done w)
    unfolding place_by span_of
    field_place w o z q = leads_done (Done w) w refl (at_last form.First e k f ef t et o ∙ rw (eq-eqb n 0 z) (sym q))

    pub field_bound : (r : Step) → t ≡ true → (n ≡ 0 → ⊥) → r ≡ Done (Err fault.Malformed) → Leads (code_in co) d es i n held r
    field_bound r o z q = leads_done r (Err fault.Malformed) q (at_last form.First e k f ef t et o ∙ rw (ne_eqb n 0 z))

    pub field_over : (r : Step) (most : ℕ) → t ≡ false → 16 ≤ most → most ≤ n → r ≡ Done (Err fault.Malformed) → Leads (code_in co) d es i n held r
    field_over r most o b m q = over (item.Reference form.First f) (i + 3) (reference_going form.First e k f ef t et o) n (add-zero n) r (omega arith) q

    pub field_held : (v : Result ℤ Fault) (r : Step) → t ≡ false → n < 16 → v ≡ reference (code_in co) d form.First f (pos 0) (pos 0) → r ≡ held_on n (i + 3) v
        → Leads (code_in co) d es i n held r
    unfolding reference span_of
    field_held v r o m ev q = works (item.Reference form.First f) (i + 3) (reference_going form.First e k f ef t et o) n (add-zero n) m (omega arith) v ev r q

  -- ---- an alpha literal

  module _ (e : item_at es i ≡ text_at es i) where
    pub text_short : (r : Step) → length es - i ≤ 4 → r ≡ Done (Err fault.Malformed) → Leads (code_in co) d es i n held r
    text_short r h q = bad_leads r (text_cut es i e h) q

    module _ (k : 4 < length es - i) (t : Bool) (et : t ≡ cond (ltb (i + 5) (length es)) (eqb (get_or es (i + 5) 0) 0) false) where
      pub text_last : (place len : ℕ) (w : Result Worked Fault) → t ≡ true → place ≡ word_at es (i + 1) → len ≡ word_at es (i + 3)
          → w ≡ cond (eqb n 0) (cond (textb (code_in co) place len) (Ok (worked.Text place len)) (Err fault.Malformed)) (Err fault.Malformed)
          → Leads (code_in co) d es i n held (Done w)
      unfolding rest_of worked_from last_of
      text_last place len w o ep el q =
          leads_done (Done w) w refl
          (at_item (item.Text place len) (rw (ep, el) (text_whole es i e k))
          ∙ ap (λ (l : List Item). rest_of (code_in co) d (item.Text place len ∷ l) (top_down held n)) (closed es (i + 5) t et o)
          ∙ text_held (code_in co) d held place len n ∙ sym q)

      pub text_inner : (r : Step) → t ≡ false → r ≡ Done (Err fault.Malformed) → Leads (code_in co) d es i n held r
      text_inner r o q =
          leads_done r (Err fault.Malformed) q
          (at_item (item.Text (word_at es (i + 1)) (word_at es (i + 3))) (text_whole es i e k)
          ∙ rest_text (code_in co) d (top_down held n) (word_at es (i + 1)) (word_at es (i + 3)) (items_at es (i + 5)) (unclosed es (i + 5) t et o))

  -- ---- an operator

  module _ (o : Op) (e : item_at es i ≡ item.Operator o) (x taken : ℕ) (ex : x ≡ op_takes o) (em : taken ≡ x) where
    operator_going : rest_of (code_in co) d (items_at es i) (top_down held n)
        ≡ on_held (step_by (op_takes o) (apply (code_in co) d (item.Operator o)) (top_down held n)) (rest_of (code_in co) d (items_at es (i + 1)))
    operator_going = at_item (item.Operator o) (sym e) ∙ rest_operator (code_in co) d (top_down held n) o (items_at es (i + 1))

    pub operator_few : (r : Step) → n < taken → r ≡ Done (Err fault.Malformed) → Leads (code_in co) d es i n held r
    operator_few r l q = few (item.Operator o) (i + 1) operator_going r (omega arith) q

    pub operator_over : (r : Step) → taken ≤ n → 16 ≤ n - taken → r ≡ Done (Err fault.Malformed) → Leads (code_in co) d es i n held r
    operator_over r l m q = over (item.Operator o) (i + 1) operator_going (n - taken) (omega arith) r m q

    pub operator_held : (v : Result ℤ Fault) (r : Step) → taken ≤ n → n - taken < 16
        → v ≡ calc co.parts.dialect.top o (to_z w64 (of_z w64 (get_or held (n - taken) (pos 0)))) (to_z w64 (of_z w64 (get_or held (n - taken + 1) (pos 0))))
        → r ≡ held_on (n - taken) (i + 1) v → Leads (code_in co) d es i n held r
    operator_held v r l m ev q =
        works (item.Operator o) (i + 1) operator_going (n - taken) (omega arith) m (omega arith) v
        (ev ∙ op_plain (calc co.parts.dialect.top o) (val_fits (ready.vals (n - taken))) (val_fits (ready.vals (n - taken + 1)))) r q

-- ---- what a step asks of its callees, and what it makes

-- A value that is held, passed on as bits.
pub held_val : (co : Coded) (d es : List ℕ) (i : ℕ) (held : List ℤ) → Ready co d es i held → (j : ℕ) → Val (10 ^ 18) (to_z w64 (of_z w64 (get_or held j (pos 0))))
held_val co d es i held ready j = again (ready.vals j)

module _ (kept next : ℕ) (v : Result ℤ Fault) where
  pub on_value : {z : ℤ} → SFits w64 z → v ≡ Ok z → Hold kept next (to_z w64 (of_z w64 z)) ≡ held_on kept next v
  on_value f e = rw (e, back f)

  pub on_failed : (f : Fault) → v ≡ Err f → Done (Err f) ≡ held_on kept next v
  on_failed f e = rw e

-- ---- the loop; z is what the whole comes to

module _ (c : Code) (d es : List ℕ) (i n : ℕ) (held : List ℤ) (z : Result Worked Fault) (rest : rest_of c d (items_at es i) (top_down held n) ≡ z) where
  pub loop_beyond : length es ≤ i → Err fault.Malformed ≡ z
  unfolding rest_of worked_from last_of
  loop_beyond h =
      sym (ap (λ (l : List Item). rest_of c d l (top_down held n)) (items_as es i item.Bad (sym (beyond es i h))))
      ∙ rest

  module _ (r : Step) (step : Leads c d es i n held r) where
    pub loop_done : (w : Result Worked Fault) → r ≡ Done w → w ≡ z
    loop_done w e = (rw e at step.same) ∙ rest

    module _ (kept next : ℕ) (v : ℤ) (e : r ≡ Hold kept next v) where
      pub loop_kept : kept < 16
      loop_kept = (rw e at step.onward).0

      pub loop_shrinks : i < length es → length es - next < length es - i
      loop_shrinks h = let f : i < next = (rw e at step.onward).1 in omega arith

      pub loop_value : Val (10 ^ 18) v
      loop_value = (rw e at step.onward).2

      pub vals_stored : Vals held → Vals (set held kept (to_z w64 (of_z w64 v)))
      vals_stored vs = vals_set held kept (to_z w64 (of_z w64 v)) vs (again loop_value)

      -- the value is stored over those that the item took
      pub loop_next : length held ≡ 17 → rest_of c d (items_at es next) (top_down (set held kept (to_z w64 (of_z w64 v))) (kept + 1)) ≡ z
      loop_next l =
          ap (λ (x : ℤ). rest_of c d (items_at es next) (top_down (set held kept x) (kept + 1))) (back (val_fits loop_value))
          ∙ ap (rest_of c d (items_at es next)) (top_push held kept v (omega (arith, loop_kept)))
          ∙ (rw e at step.same) ∙ rest
