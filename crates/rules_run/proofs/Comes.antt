-- What the last item of a well-formed expression comes to: a value of the item's sort, or a fault that is not Malformed (document 01, "The
-- coded unit").
--   Comes k w       w is what an expression of the sort k may come to
-- Assumes nothing.
use Rattle.std.specs.Prelude.{Result, Err, Ok, None, Option, Some}
use Rattle.rules.specs.declared.Fault.{Fault}
use Prim.Native.Nat.{ℕ}
use native.Mathlib.Omega.{arith}
use mathlib.Core.Path.{◌≡◌, refl}
use mathlib.Core.Bool.{Bool, true, false, cond, false≢true}
use mathlib.Core.List.{List, [], ◌∷◌}
use lib.Dec.{ltb}
use lib.IntN.{ℤ, pos}
use lib.ListN.{length}
use Rattle.rules.specs.declared.Fault.TheVariants as fault
use Rattle.rules_unit.specs.declared.Form.{Form}
use Rattle.rules_unit.specs.declared.Form.TheVariants as form
use Rattle.rules_unit.specs.declared.Item.{Item}
use Rattle.rules_unit.specs.declared.Item.TheVariants as item
use Rattle.rules_unit.specs.declared.Sort.{Sort}
use Rattle.rules_unit.specs.declared.Sort.TheVariants as sort
use Rattle.rules_unit.specs.Codes.{Code, rule_of, decimalb}
use Rattle.rules_unit.specs.Expressions.{op_takes, form_takes, takes, itemb, place_sort, sort_of}
use Rattle.rules_unit.proofs.Items.{op_two}
use Rattle.rules_run.specs.declared.Span.{Span}
use Rattle.rules_run.specs.declared.Worked.{Worked}
use Rattle.rules_run.specs.declared.Worked.TheVariants as worked
use Rattle.rules_run.specs.Spans.{span_by}
use Rattle.rules_run.specs.Evaluation.{apply, left, as_place, place_by, place, last_of}
use Rattle.rules_run.proofs.Faults.{calc_passes}
use Rattle.rules_run.proofs.Formed.{formedb, literal_formed, step_formed}

abbrev pub Comes : Sort → Result Worked Fault → Type 0
Comes k (Ok (worked.Number v)) = k ≡ sort.Number
Comes k (Ok (worked.Place decimal a n)) = k ≡ place_sort decimal
Comes k (Ok (worked.Text p l)) = k ≡ sort.Text
Comes k (Err e) = formedb e ≡ true

left_comes : (st : List ℤ) → length st ≡ 1 → Comes sort.Number (left st)
left_comes [] h = absurd (omega arith)
left_comes (v ∷ []) h = refl
left_comes (v ∷ (x ∷ st)) h = absurd (omega arith)

module _ (c : Code) (d : List ℕ) where
  span_comes : (f : ℕ) (s : Option Span) → Comes (place_sort (decimalb c f)) (as_place c f s)
  span_comes f (Some s) = by (decimalb c f) (ltb c.dialect.limit s.len)
    where
      by : (t u : Bool) → Comes (place_sort t) (cond t (cond u (Err fault.TooLong) (Ok (worked.Place true s.start s.len))) (Ok (worked.Place false s.start s.len)))
      by true true = refl
      by true false = refl
      by false u = refl
  span_comes f None = refl

  by_comes : (h : Form) (f : ℕ) (x y : ℤ) → ltb f c.fields ≡ true → Comes (place_sort (decimalb c f)) (place_by c d h f x y)
  unfolding place_by
  by_comes h f x y e = rw e (span_comes f (span_by (rule_of (c.field f)) (length d) (c.field f) h x y))

  place_comes : (h : Form) (f : ℕ) (st : List ℤ) → ltb f c.fields ≡ true → length st ≡ form_takes h → Comes (place_sort (decimalb c f)) (place c d h f st)
  unfolding place
  place_comes form.First f [] e l = by_comes form.First f (pos 0) (pos 0) e
  place_comes form.First f (x ∷ st) e l = absurd (omega arith)
  place_comes form.Subscript f [] e l = absurd (omega arith)
  place_comes form.Subscript f (x ∷ []) e l = by_comes form.Subscript f x (pos 0) e
  place_comes form.Subscript f (y ∷ (x ∷ st)) e l = absurd (omega arith)
  place_comes form.StartEnd f [] e l = absurd (omega arith)
  place_comes form.StartEnd f (x ∷ []) e l = absurd (omega arith)
  place_comes form.StartEnd f (y ∷ (x ∷ [])) e l = by_comes form.StartEnd f x y e
  place_comes form.StartEnd f (y ∷ (x ∷ (z ∷ st))) e l = absurd (omega arith)
  place_comes form.PosLength f [] e l = absurd (omega arith)
  place_comes form.PosLength f (x ∷ []) e l = absurd (omega arith)
  place_comes form.PosLength f (y ∷ (x ∷ [])) e l = by_comes form.PosLength f x y e
  place_comes form.PosLength f (y ∷ (x ∷ (z ∷ st))) e l = absurd (omega arith)

  pub last_comes : (i : Item) (st : List ℤ) → itemb c i ≡ true → length st ≡ takes i → Comes (sort_of c i) (last_of c d i st)
  unfolding last_of
  last_comes (item.Number p l) st o h =
      step_formed (Comes sort.Number) (λ e m. m) 0 (apply c d (item.Number p l)) st left (omega arith) (omega arith) (omega arith)
      (λ x y. literal_formed c p l o) (λ st' g. left_comes st' (omega arith))
  last_comes (item.Reference m f) st o h = place_comes m f st o h
  last_comes (item.Text p l) [] o h = rw o refl
  last_comes (item.Text p l) (x ∷ st) o h = absurd (omega arith)
  last_comes (item.Operator q) st o h =
      step_formed (Comes sort.Number) (λ e m. m) (op_takes q) (apply c d (item.Operator q)) st left (op_two q) (omega arith) (omega arith)
      (λ x y. calc_passes formedb refl refl refl c.dialect.top q x y) (λ st' g. left_comes st' (omega arith))
  last_comes item.End st o h = absurd (false≢true o)
  last_comes item.Bad st o h = absurd (false≢true o)
