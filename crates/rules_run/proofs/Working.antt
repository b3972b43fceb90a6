-- The faults that working out an expression may give: 20 to 23 and 26, and Malformed. The others are of the open calls and loops alone (document 01,
-- "Stops and their numbers").
--   workb e       e is such a fault
--   Works w       an expression comes to no other fault
-- Assumes nothing.
use Rattle.std.specs.Prelude.{Result, Err, Ok, None, Option, Some}
use Prim.Native.Nat.{ℕ}
use mathlib.Core.Path.{◌≡◌, refl}
use mathlib.Core.Bool.{Bool, true, false, cond}
use mathlib.Core.List.{List, [], ◌∷◌}
use lib.Dec.{ltb}
use lib.IntN.{ℤ, pos, ◌+ℤ◌, ◌-ℤ◌}
use lib.ListN.{length, take, drop}
use Rattle.rules.specs.declared.Fault.{Fault}
use Rattle.rules.specs.declared.Fault.TheVariants as fault
use Rattle.rules.specs.Moves.{alpha_of}
use Rattle.rules.proofs.Walk.{cond_either}
use Rattle.rules_unit.specs.declared.Form.{Form}
use Rattle.rules_unit.specs.declared.Form.TheVariants as form
use Rattle.rules_unit.specs.declared.Item.{Item}
use Rattle.rules_unit.specs.declared.Item.TheVariants as item
use Rattle.rules_unit.specs.Codes.{Code, rule_of, decimalb}
use Rattle.rules_unit.specs.Expressions.{op_takes, takes, textb}
use Rattle.rules_run.specs.declared.Span.{Span}
use Rattle.rules_run.specs.declared.Worked.{Worked}
use Rattle.rules_run.specs.declared.Worked.TheVariants as worked
use Rattle.rules_run.specs.Spans.{span_by}
use Rattle.rules_run.specs.Evaluation.{read_at, read_span, reference, apply, left, as_place, place_by, place, last_of, worked_from, worked_of, number_of}
use Rattle.rules_run.specs.Turns.{counted}
use Rattle.rules_run.proofs.Faults.{passes, pass_cond, kept_passes, calc_passes, read_passes, alpha_passes, literal_passes, step_any}

abbrev pub workb : Fault → Bool
workb fault.Malformed = true
workb fault.TooLong = true
workb fault.Outside = true
workb fault.BadDigit = true
workb fault.ZeroDivisor = true
workb fault.CallsFull = false
workb fault.NoCall = false
workb fault.RoundCount = true
workb fault.ZeroStep = false
workb fault.LoopsFull = false
workb fault.NoLoop = false

abbrev pub Works : Result Worked Fault → Type 0
Works (Ok (worked.Number v)) = Unit {0}
Works (Ok (worked.Place decimal a n)) = Unit {0}
Works (Ok (worked.Text p l)) = Unit {0}
Works (Err e) = workb e ≡ true

module _ (c : Code) (d : List ℕ) where
  pub read_works : (a n : ℕ) → passes workb (read_at c d a n) ≡ true
  read_works a n = read_passes workb refl refl c.dialect.limit c.dialect.sign (take n (drop a d))

  pub alpha_works : (s : List ℕ) → passes workb (alpha_of c.dialect.top s) ≡ true
  alpha_works s = alpha_passes workb refl refl c.dialect.top s

  pub counted_works : (up : Bool) (r : Result ℤ Fault) → passes workb r ≡ true → passes workb (counted c.dialect.top up r) ≡ true
  counted_works true (Ok v) m = kept_passes workb refl c.dialect.top (v +ℤ pos 1)
  counted_works false (Ok v) m = kept_passes workb refl c.dialect.top (v -ℤ pos 1)
  counted_works true (Err e) m = m
  counted_works false (Err e) m = m

  span_works : (s : Option Span) → passes workb (read_span c d s) ≡ true
  span_works (Some s) = read_works s.start s.len
  span_works None = refl

  item_works : (i : Item) (x y : ℤ) → passes workb (apply c d i x y) ≡ true
  unfolding reference
  item_works (item.Number p l) x y = literal_passes workb refl c p l
  item_works (item.Reference h f) x y =
      pass_cond workb (ltb f c.fields) _ (Err fault.Malformed)
      (pass_cond workb (decimalb c f) _ (Err fault.Malformed) (span_works (span_by (rule_of (c.field f)) (length d) (c.field f) h x y)) refl) refl
  item_works (item.Text p l) x y = refl
  item_works (item.Operator o) x y = calc_passes workb refl refl refl c.dialect.top o x y
  item_works item.End x y = refl
  item_works item.Bad x y = refl

  -- ---- the last item

  left_works : (st : List ℤ) → Works (left st)
  left_works [] = refl
  left_works (v ∷ []) = tt
  left_works (v ∷ (w ∷ st)) = refl

  as_works : (f : ℕ) (s : Option Span) → Works (as_place c f s)
  as_works f (Some s) =
      cond_either Works (decimalb c f) (cond (ltb c.dialect.limit s.len) (Err fault.TooLong) (Ok (worked.Place true s.start s.len))) (Ok (worked.Place false s.start s.len))
      (cond_either Works (ltb c.dialect.limit s.len) (Err fault.TooLong) (Ok (worked.Place true s.start s.len)) refl tt) tt
  as_works f None = refl

  by_works : (h : Form) (f : ℕ) (x y : ℤ) → Works (place_by c d h f x y)
  unfolding place_by
  by_works h f x y = cond_either Works (ltb f c.fields) _ (Err fault.Malformed) (as_works f (span_by (rule_of (c.field f)) (length d) (c.field f) h x y)) refl

  place_works : (h : Form) (f : ℕ) (st : List ℤ) → Works (place c d h f st)
  unfolding place
  place_works form.First f [] = by_works form.First f (pos 0) (pos 0)
  place_works form.First f (x ∷ st) = refl
  place_works form.Subscript f [] = refl
  place_works form.Subscript f (x ∷ []) = by_works form.Subscript f x (pos 0)
  place_works form.Subscript f (y ∷ (x ∷ st)) = refl
  place_works form.StartEnd f [] = refl
  place_works form.StartEnd f (x ∷ []) = refl
  place_works form.StartEnd f (y ∷ (x ∷ [])) = by_works form.StartEnd f x y
  place_works form.StartEnd f (y ∷ (x ∷ (z ∷ st))) = refl
  place_works form.PosLength f [] = refl
  place_works form.PosLength f (x ∷ []) = refl
  place_works form.PosLength f (y ∷ (x ∷ [])) = by_works form.PosLength f x y
  place_works form.PosLength f (y ∷ (x ∷ (z ∷ st))) = refl

  last_works : (i : Item) (st : List ℤ) → Works (last_of c d i st)
  unfolding last_of
  last_works (item.Number p l) st = step_any workb refl Works (λ e m. m) 0 (apply c d (item.Number p l)) st left (item_works (item.Number p l)) left_works
  last_works (item.Reference h f) st = place_works h f st
  last_works (item.Text p l) [] = cond_either Works (textb c p l) (Ok (worked.Text p l)) (Err fault.Malformed) tt refl
  last_works (item.Text p l) (x ∷ st) = refl
  last_works (item.Operator o) st = step_any workb refl Works (λ e m. m) (op_takes o) (apply c d (item.Operator o)) st left (item_works (item.Operator o)) left_works
  last_works item.End st = refl
  last_works item.Bad st = refl

  -- ---- an expression

  from_works : (i : Item) (is : List Item) (st : List ℤ) → Works (worked_from c d i is st)
  unfolding worked_from
  from_works i [] st = last_works i st
  from_works i (j ∷ is) st = step_any workb refl Works (λ e m. m) (takes i) (apply c d i) st (λ st'. worked_from c d j is st') (item_works i) (λ st'. from_works j is st')

  pub worked_works : (is : List Item) → Works (worked_of c d is)
  unfolding worked_of
  worked_works [] = refl
  worked_works (i ∷ is) = from_works i is []

  pub number_works : (w : Result Worked Fault) → Works w → passes workb (number_of c d w) ≡ true
  number_works (Ok (worked.Number v)) m = refl
  number_works (Ok (worked.Place decimal a n)) m = pass_cond workb decimal (read_at c d a n) (Err fault.Malformed) (read_works a n) refl
  number_works (Ok (worked.Text p l)) m = refl
  number_works (Err e) m = m
