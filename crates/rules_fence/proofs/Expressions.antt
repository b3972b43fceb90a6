-- A fenced expression over valid data (document 01, "Fence rules"): it gives neither 21 nor 22, and its last reference names its fixed span.
-- The bounds that are written directly before an item are the values that are held last when it is worked out.
-- Assumes nothing.
use Rattle.rules.specs.declared.Fault.{Fault}
use Rattle.std.specs.Prelude.{Ok, Result, Err, None, Option}
use Prim.Native.Nat.{ℕ}
use mathlib.Core.Path.{◌≡◌, refl, sym, ap, subst}
use mathlib.Core.Bool.{Bool, true, false, cond}
use mathlib.Core.List.{List, [], ◌∷◌}
use lib.IntN.{ℤ, neg_ℤ}
use lib.ListN.{length}
use Rattle.rules.specs.declared.Fault.TheVariants as fault
use Rattle.rules_unit.specs.declared.Op.{Op}
use Rattle.rules_unit.specs.declared.Op.TheVariants as op
use Rattle.rules_unit.specs.declared.Item.{Item}
use Rattle.rules_unit.specs.declared.Item.TheVariants as item
use Rattle.rules_unit.specs.Codes.{Code}
use Rattle.rules_unit.specs.Expressions.{op_takes, takes, textb}
use Rattle.rules_unit.specs.Sound.{SoundCode}
use Rattle.rules_run.specs.declared.Span.{Span}
use Rattle.rules_run.specs.declared.Worked.{Worked}
use Rattle.rules_run.specs.declared.Worked.TheVariants as worked
use Rattle.rules_run.specs.Evaluation.{calc, literal_number, apply, step_by, on_held, left, last_of, worked_from, worked_of}
use Rattle.rules_run.proofs.Faults.{calc_passes, literal_passes, on_room, step_any}
use Rattle.rules_fence.specs.declared.Seen.{Seen}
use Rattle.rules_fence.specs.declared.Seen.TheVariants as seen
use Rattle.rules_fence.specs.Bounds.{is_negate, seen_number, seen_negate, seen_after}
use Rattle.rules_fence.specs.Destinations.{AllValid}
use Rattle.rules_fence.proofs.Bounded.{negate_is}
use Rattle.rules_fence.proofs.Exact.{ItemFenced, AllFenced}
use Rattle.rules_fence.proofs.Mild.{mildb, Mild}
use Rattle.rules_fence.proofs.PlaceSpans.{span_from, place_span, last_span}
use Rattle.rules_fence.proofs.Places.{HeldAs, WorkedOk, place_ok}
use Rattle.rules_fence.proofs.References.{ref_step}

-- ---- the values held

held_number : (b : Seen) (st : List ℤ) (v : ℤ) → HeldAs b st → HeldAs (seen_number (Ok v) b) (v ∷ st)
held_number seen.Nothing st v h = refl
held_number (seen.One y plain) [] v h = absurd h
held_number (seen.One y plain) (z ∷ st) v h = (refl, h)
held_number (seen.Two x y plain) [] v h = absurd h
held_number (seen.Two x y plain) (z ∷ []) v h = absurd h
held_number (seen.Two x y plain) (z ∷ (w ∷ st)) v h = (refl, h.0)

held_negate : (b : Seen) (x : ℤ) (st : List ℤ) → HeldAs b (x ∷ st) → HeldAs (seen_negate b) (neg_ℤ x ∷ st)
held_negate seen.Nothing x st h = tt
held_negate (seen.One y true) x st h = ap neg_ℤ h
held_negate (seen.One y false) x st h = tt
held_negate (seen.Two w y plain) x [] h = absurd h
held_negate (seen.Two w y true) x (z ∷ st) h = (ap neg_ℤ h.0, h.1)
held_negate (seen.Two w y false) x (z ∷ st) h = tt

module _ (c : Code) (d : List ℕ) where
  -- ---- one item, for any property of what an expression comes to

  module _ (P : Result Worked Fault → Type 0) (w : Mild P) where
    number_step : (p l : ℕ) (b : Seen) (st : List ℤ) (k : List ℤ → Result Worked Fault) → HeldAs b st → ((st' : List ℤ) → HeldAs (seen_after c b (item.Number p l)) st' → P (k st'))
        → P (on_held (step_by 0 (apply c d (item.Number p l)) st) k)
    unfolding step_by
    number_step p l b st k t h = on_room (mildb false) refl P w st (literal_number c p l) k (literal_passes (mildb false) refl c p l) (λ z q. h (z ∷ st) (rw q (held_number b st z t)))

    negate_step : (b : Seen) (st : List ℤ) (k : List ℤ → Result Worked Fault) → HeldAs b st → ((st' : List ℤ) → HeldAs (seen_negate b) st' → P (k st'))
        → P (on_held (step_by 1 (apply c d (item.Operator op.Negate)) st) k)
    unfolding step_by calc
    negate_step b [] k t h = w fault.Malformed refl
    negate_step b (x ∷ st) k t h =
        on_room (mildb false) refl P w st (Ok (neg_ℤ x)) k refl (λ z q. let g : neg_ℤ x ≡ z = cc in h (z ∷ st) (subst (λ (y : ℤ). HeldAs (seen_negate b) (y ∷ st)) g (held_negate b x st t)))

    operator_step : (o : Op) (b : Seen) (st : List ℤ) (k : List ℤ → Result Worked Fault) → HeldAs b st → ((st' : List ℤ) → HeldAs (seen_after c b (item.Operator o)) st' → P (k st'))
        → P (on_held (step_by (op_takes o) (apply c d (item.Operator o)) st) k)
    operator_step o b st k t h = by (is_negate o) refl
      where
        by : (u : Bool) → is_negate o ≡ u → P (on_held (step_by (op_takes o) (apply c d (item.Operator o)) st) k)
        by true p =
            subst (λ (o : Op). ((st' : List ℤ) → HeldAs (seen_after c b (item.Operator o)) st' → P (k st')) → P (on_held (step_by (op_takes o) (apply c d (item.Operator o)) st) k))
            (sym (negate_is o p)) (negate_step b st k t) h
        by false p = step_any (mildb false) refl P w (op_takes o) (apply c d (item.Operator o)) st k (λ x y. calc_passes (mildb false) refl refl refl c.dialect.top o x y) (λ st'. h st' (rw p tt))

  module _ (s : SoundCode c) (e : length d ≡ c.size) (v : AllValid c d) (dest : Bool) where
    left_ok : (span : Option Span) (st : List ℤ) → WorkedOk c dest span (left st)
    left_ok span [] = refl
    left_ok span (x ∷ []) = tt
    left_ok span (x ∷ (y ∷ st)) = refl

    wrong_ok : (span : Option Span) → Mild (WorkedOk c dest span)
    wrong_ok span f m = m

    text_ok : (p l : ℕ) (t : Bool) → WorkedOk c dest None (cond t (Ok (worked.Text p l)) (Err fault.Malformed))
    text_ok p l true = tt
    text_ok p l false = refl

    last_ok : (i : Item) (b : Seen) (st : List ℤ) → ItemFenced c dest b i [] → HeldAs b st → WorkedOk c dest (last_span c b i) (last_of c d i st)
    unfolding last_of
    last_ok (item.Number p l) b st r t = number_step (WorkedOk c dest None) (wrong_ok None) p l b st left t (λ st' u. left_ok None st')
    last_ok (item.Reference h f) b st r t = place_ok c s d e dest f h b st r t
    last_ok (item.Text p l) b [] r t = text_ok p l (textb c p l)
    last_ok (item.Text p l) b (x ∷ st) r t = refl
    last_ok (item.Operator o) b st r t = operator_step (WorkedOk c dest None) (wrong_ok None) o b st left t (λ st' u. left_ok None st')
    last_ok item.End b st r t = refl
    last_ok item.Bad b st r t = refl

    item_ok : (P : Result Worked Fault → Type 0) → Mild P → (i j : Item) (is : List Item) (b : Seen) (st : List ℤ) (k : List ℤ → Result Worked Fault) → ItemFenced c dest b i (j ∷ is) → HeldAs b st
        → ((st' : List ℤ) → HeldAs (seen_after c b i) st' → P (k st')) → P (on_held (step_by (takes i) (apply c d i) st) k)
    item_ok P w (item.Number p l) j is b st k r t h = number_step P w p l b st k t h
    item_ok P w (item.Reference g f) j is b st k r t h = ref_step c s d e v f P w g b st k r t (λ st'. h st' tt)
    item_ok P w (item.Text p l) j is b st k r t h = step_any (mildb false) refl P w 0 (apply c d (item.Text p l)) st k (λ x y. refl) (λ st'. h st' tt)
    item_ok P w (item.Operator o) j is b st k r t h = operator_step P w o b st k t h
    item_ok P w item.End j is b st k r t h = step_any (mildb false) refl P w 0 (apply c d item.End) st k (λ x y. refl) (λ st'. h st' tt)
    item_ok P w item.Bad j is b st k r t h = step_any (mildb false) refl P w 0 (apply c d item.Bad) st k (λ x y. refl) (λ st'. h st' tt)

    from_ok : (i : Item) (is : List Item) (b : Seen) (st : List ℤ) → AllFenced c dest b (i ∷ is) → HeldAs b st → WorkedOk c dest (span_from c b i is) (worked_from c d i is st)
    unfolding worked_from span_from
    from_ok i [] b st r t = last_ok i b st r.0 t
    from_ok i (j ∷ is) b st r t =
        item_ok (WorkedOk c dest (span_from c (seen_after c b i) j is)) (wrong_ok (span_from c (seen_after c b i) j is)) i j is b st (λ st'. worked_from c d j is st') r.0 t
        (λ st' u. from_ok j is (seen_after c b i) st' r.1 u)

    -- A whole expression.
    pub worked_ok : (is : List Item) → AllFenced c dest seen.Nothing is → WorkedOk c dest (place_span c is) (worked_of c d is)
    unfolding worked_of place_span
    worked_ok [] r = refl
    worked_ok (i ∷ is) r = from_ok i is seen.Nothing [] r tt
