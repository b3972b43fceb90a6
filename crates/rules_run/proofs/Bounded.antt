-- What expressions come to (document 01, "Values and references"): every number is in the range of values, every place lies inside the data,
-- and a decimal place has no more characters than a number has digits.
--   Bounded bound c size w    w is in the range below the bound, or lies inside the data's size bytes or the literals
--   place_room                a decimal place that is found in a sound unit has some characters, and no more than the limit's
--   worked_within             what an expression comes to lies where the rules say; place_within, of a place that is found
-- Assumes nothing.
use Rattle.rules.specs.declared.Fault.{Fault}
use Rattle.std.specs.Prelude.{Err, Result, Ok, None, Option, Some}
use mathlib.Core.Path.{◌≡◌, refl, subst}
use mathlib.Core.Bool.{Bool, true, false}
use mathlib.Core.List.{List, [], ◌∷◌}
use Prim.Native.Nat.{ℕ, ◌+◌, ◌^◌, ◌≤◌, ◌<◌}
use native.Mathlib.Omega.{arith}
use lib.Dec.{ltb, leb}
use lib.IntN.{ℤ, pos}
use lib.ListN.{length}
use borrow.Author.Tests.{leb-true, ltb-true, ltb-false}
use Rattle.rules.specs.declared.Fault.TheVariants as fault
use Rattle.rules.specs.Values.{Val, Limit, Top}
use Rattle.rules.proofs.Signed.{pow_le18}
use Rattle.rules.proofs.Range.{InRange}
use Rattle.rules.proofs.Walk.{cond_case}
use Rattle.rules.proofs.Tests.{both}
use Rattle.rules_unit.specs.declared.Form.{Form}
use Rattle.rules_unit.specs.declared.Form.TheVariants as form
use Rattle.rules_unit.specs.declared.Item.{Item}
use Rattle.rules_unit.specs.declared.Item.TheVariants as item
use Rattle.rules_unit.specs.Codes.{Code, rule_of, decimalb}
use Rattle.rules_unit.specs.Decode.{SoundDialect}
use Rattle.rules_unit.specs.Expressions.{op_takes, takes, textb}
use Rattle.rules_unit.specs.Sound.{SoundCode}
use Rattle.rules_run.specs.declared.Span.{Span}
use Rattle.rules_run.specs.declared.Worked.{Worked}
use Rattle.rules_run.specs.declared.Worked.TheVariants as worked
use Rattle.rules_run.specs.Spans.{span_by, span_at}
use Rattle.rules_run.specs.Evaluation.{apply, Held, go, halt, step_by, left, on_held, as_place, place_by, place, text_by, last_of, worked_from, worked_of, number_of, read_at, Within}
use Rattle.rules_run.proofs.Located.{found_inside, span_some}
use Rattle.rules_run.proofs.Strict.{found_loose}
use Rattle.rules_run.proofs.Ranges.{apply_range, read_range}
use Rattle.rules_run.proofs.Held.{Vals, HeldIn, step_in}

-- The elements of every field have some bytes.
abbrev Sized : Code → Type 0
Sized c = (f : ℕ) → f < c.fields → 1 ≤ (c.field f).size

-- A number in the range, a place inside the data's size bytes (a decimal one of no more than the limit's characters, and each of some, where the fields'
-- elements have some), text inside the literals.
abbrev pub Bounded : ℕ → Code → ℕ → Result Worked Fault → Type 0
Bounded bound c size (Ok (worked.Number v)) = Val bound v
Bounded bound c size (Ok (worked.Place decimal a n)) = (a + n ≤ size) × (decimal ≡ true → n ≤ c.dialect.limit) × (Sized c → 1 ≤ n)
Bounded bound c size (Ok (worked.Text p l)) = p + l ≤ length c.literals
Bounded bound c size (Err e) = Unit {0}

module _ (c : Code) (d : List ℕ) (bound : ℕ) (truths : 1 < bound) (sums : c.dialect.top ≤ bound) (digits : 10 ^ c.dialect.limit ≤ bound) where
  found_bounded : (f : ℕ) (s : Option Span) → ((a n : ℕ) → s ≡ span_at a n → (a + n ≤ length d) × (Sized c → 1 ≤ n)) → Bounded bound c (length d) (as_place c f s)
  found_bounded f (Some s) h =
      cond_case (Bounded bound c (length d)) (decimalb c f) _ (Ok (worked.Place false s.start s.len))
      (λ _. cond_case (Bounded bound c (length d)) (ltb c.dialect.limit s.len) (Err fault.TooLong) (Ok (worked.Place true s.start s.len)) (λ _. tt)
      (λ e. ((h s.start s.len refl).0, λ _. ltb-false c.dialect.limit s.len e, (h s.start s.len refl).1)))
      (λ _. ((h s.start s.len refl).0, λ e. let z : ◌≡◌ {A = ℕ} 0 1 = cc in absurd (omega arith), (h s.start s.len refl).1))
  found_bounded f None h = tt

  by_bounded : (h : Form) (f : ℕ) (x y : ℤ) → Bounded bound c (length d) (place_by c d h f x y)
  unfolding place_by
  by_bounded h f x y =
      cond_case (Bounded bound c (length d)) (ltb f c.fields) (as_place c f (span_by (rule_of (c.field f)) (length d) (c.field f) h x y)) (Err fault.Malformed)
      (λ l. found_bounded f (span_by (rule_of (c.field f)) (length d) (c.field f) h x y)
      (λ a n e.
      let loose = found_loose (length d) (c.field f) (rule_of (c.field f)) h x y e in
      (found_inside (length d) (c.field f) h x y loose, λ sized. span_some (length d) (c.field f) h x y (sized f (ltb-true f c.fields l)) loose)))
      (λ _. tt)

  place_bounded : (h : Form) (f : ℕ) (st : List ℤ) → Bounded bound c (length d) (place c d h f st)
  unfolding place
  place_bounded form.First f [] = by_bounded form.First f (pos 0) (pos 0)
  place_bounded form.First f (x ∷ st) = tt
  place_bounded form.Subscript f [] = tt
  place_bounded form.Subscript f (x ∷ []) = by_bounded form.Subscript f x (pos 0)
  place_bounded form.Subscript f (y ∷ (x ∷ st)) = tt
  place_bounded form.StartEnd f [] = tt
  place_bounded form.StartEnd f (x ∷ []) = tt
  place_bounded form.StartEnd f (y ∷ (x ∷ [])) = by_bounded form.StartEnd f x y
  place_bounded form.StartEnd f (y ∷ (x ∷ (z ∷ st))) = tt
  place_bounded form.PosLength f [] = tt
  place_bounded form.PosLength f (x ∷ []) = tt
  place_bounded form.PosLength f (y ∷ (x ∷ [])) = by_bounded form.PosLength f x y
  place_bounded form.PosLength f (y ∷ (x ∷ (z ∷ st))) = tt

  text_inside : (p l : ℕ) → textb c p l ≡ true → p + l ≤ length c.literals
  unfolding textb
  text_inside p l e = leb-true (p + l) (length c.literals) ((both (leb 1 l) (leb (p + l) (length c.literals))).0 e).1

  text_bounded : (p l : ℕ) (st : List ℤ) → Bounded bound c (length d) (text_by c p l st)
  text_bounded p l [] =
      cond_case (Bounded bound c (length d)) (textb c p l) (Ok (worked.Text p l)) (Err fault.Malformed) (λ e. text_inside p l e) (λ _. tt)
  text_bounded p l (x ∷ st) = tt

  left_bounded : (st : List ℤ) → Vals bound st → Bounded bound c (length d) (left st)
  left_bounded [] vs = tt
  left_bounded (v ∷ []) vs = vs.0
  left_bounded (v ∷ (w ∷ st)) vs = tt

  held_bounded : (h : Held) (k : List ℤ → Result Worked Fault) → ((st : List ℤ) → Vals bound st → Bounded bound c (length d) (k st)) → HeldIn bound h
      → Bounded bound c (length d) (on_held h k)
  held_bounded (go st) k f vs = f st vs
  held_bounded (halt e) k f vs = tt

  -- An item that takes k values, and what is done with the values held after it.
  step_bounded : (k : ℕ) (i : Item) (st : List ℤ) (next : List ℤ → Result Worked Fault) → ((st' : List ℤ) → Vals bound st' → Bounded bound c (length d) (next st'))
      → Vals bound st → Bounded bound c (length d) (on_held (step_by k (apply c d i) st) next)
  step_bounded k i st next f vs =
      held_bounded (step_by k (apply c d i) st) next f
      (step_in bound truths (apply c d i) (apply_range c d bound truths sums digits i) k st vs)

  last_bounded : (i : Item) (st : List ℤ) → Vals bound st → Bounded bound c (length d) (last_of c d i st)
  unfolding last_of
  last_bounded (item.Number p l) st vs = step_bounded 0 (item.Number p l) st left left_bounded vs
  last_bounded (item.Reference h f) st vs = place_bounded h f st
  last_bounded (item.Text p l) st vs = text_bounded p l st
  last_bounded (item.Operator o) st vs = step_bounded (op_takes o) (item.Operator o) st left left_bounded vs
  last_bounded item.End st vs = tt
  last_bounded item.Bad st vs = tt

  from_bounded : (i : Item) (is : List Item) (st : List ℤ) → Vals bound st → Bounded bound c (length d) (worked_from c d i is st)
  unfolding worked_from
  from_bounded i [] st vs = last_bounded i st vs
  from_bounded i (j ∷ is) st vs = step_bounded (takes i) i st (worked_from c d j is) (λ st' vs'. from_bounded j is st' vs') vs

  pub worked_bounded : (is : List Item) → Bounded bound c (length d) (worked_of c d is)
  unfolding worked_of
  worked_bounded [] = tt
  worked_bounded (i ∷ is) = from_bounded i is [] tt

  -- A decimal place is read, and what is read is in the range.
  pub number_bounded : (size : ℕ) (w : Result Worked Fault) → Bounded bound c size w → InRange bound (number_of c d w)
  number_bounded size (Ok (worked.Number v)) h = h
  number_bounded size (Ok (worked.Place decimal a n)) h =
      cond_case (InRange bound) decimal (read_at c d a n) (Err fault.Malformed) (λ _. read_range c d bound truths sums digits a n) (λ _. tt)
  number_bounded size (Ok (worked.Text p l)) h = tt
  number_bounded size (Err e) h = tt

-- Eighteen digits are the most that any dialect has.
within_of : (c : Code) (size : ℕ) (w : Result Worked Fault) → Bounded (10 ^ 18) c size w → Within c size w
within_of c size (Ok (worked.Number v)) h = h
within_of c size (Ok (worked.Place decimal a n)) h = (h.0, h.1)
within_of c size (Ok (worked.Text p l)) h = h
within_of c size (Err e) h = h

worked_eighteen : (c : Code) (d : List ℕ) → Limit c.dialect.limit → Top c.dialect.top → (is : List Item) → Bounded (10 ^ 18) c (length d) (worked_of c d is)
worked_eighteen c d limit bound = worked_bounded c d (10 ^ 18) (omega arith) bound.most (pow_le18 (omega (arith, limit.most)))

pub worked_within : (c : Code) (d : List ℕ) → Limit c.dialect.limit → Top c.dialect.top → (is : List Item) → Within c (length d) (worked_of c d is)
worked_within c d limit bound is = within_of c (length d) (worked_of c d is) (worked_eighteen c d limit bound is)

-- A place that is found lies inside the data.
pub place_within : (c : Code) (size : ℕ) (w : Result Worked Fault) (decimal : Bool) (a n : ℕ) → Within c size w → w ≡ Ok (worked.Place decimal a n) → a + n ≤ size
place_within c size w decimal a n within e = (subst (Within c size) e within).0

-- In a sound unit a decimal place that is found has room for a number.
pub place_room : (c : Code) → SoundCode c → SoundDialect c.dialect → (d : List ℕ) (is : List Item) (a n : ℕ) → worked_of c d is ≡ Ok (worked.Place true a n)
    → (a + n ≤ length d) × (1 ≤ n) × (n ≤ c.dialect.limit)
place_room c u dialect d is a n e =
    let b = subst (Bounded (10 ^ 18) c (length d)) e (worked_eighteen c d dialect.limit dialect.bound is) in
    (b.0, b.2 (λ f h. (u.entries f h).own.some), b.1 refl)
