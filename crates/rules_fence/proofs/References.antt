-- A fenced reference that is read (document 01, "Fence rules"): over valid data it gives neither 21 nor 22.
-- Assumes nothing.
use Rattle.rules.specs.declared.Fault.{Fault}
use Rattle.std.specs.Prelude.{Err, Result, None, Option, Some}
use Prim.Native.Nat.{ℕ, ◌<◌}
use mathlib.Core.Path.{◌≡◌, refl, sym}
use mathlib.Core.Bool.{Bool, true, false, cond}
use mathlib.Core.List.{List, [], ◌∷◌}
use lib.Dec.{ltb}
use lib.IntN.{ℤ, pos}
use lib.ListN.{length}
use borrow.Author.Tests.{ltb-true}
use Rattle.rules.specs.declared.Fault.TheVariants as fault
use Rattle.rules_unit.specs.declared.Form.{Form}
use Rattle.rules_unit.specs.declared.Form.TheVariants as form
use Rattle.rules_unit.specs.declared.Item.TheVariants as item
use Rattle.rules_unit.specs.Codes.{Code, rule_of, decimalb}
use Rattle.rules_unit.specs.Expressions.{form_takes}
use Rattle.rules_unit.specs.Sound.{SoundCode}
use Rattle.rules_run.specs.declared.Span.{Span}
use Rattle.rules_run.specs.declared.Worked.{Worked}
use Rattle.rules_run.specs.Spans.{span_of, span_by}
use Rattle.rules_run.specs.Evaluation.{read_span, reference, apply, step_by, on_held}
use Rattle.rules_run.proofs.Located.{span_some}
use Rattle.rules_run.proofs.Faults.{on_room}
use Rattle.rules_fence.specs.declared.Seen.{Seen}
use Rattle.rules_fence.specs.Bounds.{fixed_span}
use Rattle.rules_fence.specs.Fence.{SpanKept}
use Rattle.rules_fence.specs.Destinations.{AllValid}
use Rattle.rules_fence.proofs.Elements.{span_reads}
use Rattle.rules_fence.proofs.Mild.{mildb, mild_num, mild_value, Mild}
use Rattle.rules_fence.proofs.Places.{HeldAs, kept_found, fixed_whole, fixed_element, fixed_range, fixed_length}

module _ (c : Code) (s : SoundCode c) (d : List ℕ) (e : length d ≡ c.size) (v : AllValid c d) (f : ℕ) where
  ref_mild : (h : Form) (x y : ℤ) (span : Option Span) → span ≡ span_of (length d) (c.field f) h x y → SpanKept c false f span → mild_num false (reference c d h f x y) ≡ true
  unfolding reference
  ref_mild h x y span q r = by (ltb f c.fields) (decimalb c f) refl refl
    where
      read : f < c.fields → decimalb c f ≡ true → (span : Option Span) → span ≡ span_of (length d) (c.field f) h x y → SpanKept c false f span → mild_num false (read_span c d span) ≡ true
      read k t (Some z) q r = mild_value false (span_reads c s d e v k t (span_some (length d) (c.field f) h x y (s.entries f k).own.some (sym q)) r)
      read k t None q r = absurd r

      by : (t u : Bool) → ltb f c.fields ≡ t → decimalb c f ≡ u
          → mild_num false (cond t (cond u (read_span c d (span_by (rule_of (c.field f)) (length d) (c.field f) h x y)) (Err fault.Malformed)) (Err fault.Malformed)) ≡ true
      by true true p o = rw (kept_found c s d e false f (rule_of (c.field f)) h x y span q r) (read (ltb-true f c.fields p) o span q r)
      by true false p o = refl
      by false u p o = refl

  pub ref_step : (P : Result Worked Fault → Type 0) → Mild P → (h : Form) (b : Seen) (st : List ℤ) (k : List ℤ → Result Worked Fault) → SpanKept c false f (fixed_span c h f b) → HeldAs b st
      → ((st' : List ℤ) → P (k st')) → P (on_held (step_by (form_takes h) (apply c d (item.Reference h f)) st) k)
  unfolding step_by
  ref_step P w form.First b st k r t g =
      on_room (mildb false) refl P w st (reference c d form.First f (pos 0) (pos 0)) k (ref_mild form.First (pos 0) (pos 0) (fixed_span c form.First f b) (fixed_whole c s d e f b) r) (λ z q. g (z ∷ st))
  ref_step P w form.Subscript b [] k r t g = w fault.Malformed refl
  ref_step P w form.Subscript b (x ∷ st) k r t g =
      on_room (mildb false) refl P w st (reference c d form.Subscript f x (pos 0)) k (ref_mild form.Subscript x (pos 0) (fixed_span c form.Subscript f b) (fixed_element c s d e false f b x st r t) r) (λ z q. g (z ∷ st))
  ref_step P w form.StartEnd b [] k r t g = w fault.Malformed refl
  ref_step P w form.StartEnd b (y ∷ []) k r t g = w fault.Malformed refl
  ref_step P w form.StartEnd b (y ∷ (x ∷ st)) k r t g =
      on_room (mildb false) refl P w st (reference c d form.StartEnd f x y) k (ref_mild form.StartEnd x y (fixed_span c form.StartEnd f b) (fixed_range c s d e false f b y x st r t) r) (λ z q. g (z ∷ st))
  ref_step P w form.PosLength b [] k r t g = w fault.Malformed refl
  ref_step P w form.PosLength b (y ∷ []) k r t g = w fault.Malformed refl
  ref_step P w form.PosLength b (y ∷ (x ∷ st)) k r t g =
      on_room (mildb false) refl P w st (reference c d form.PosLength f x y) k (ref_mild form.PosLength x y (fixed_span c form.PosLength f b) (fixed_length c s d e false f b y x st r t) r) (λ z q. g (z ∷ st))
