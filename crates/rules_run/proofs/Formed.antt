-- Faults that a passed check leaves (document 01, "The coded unit"): an item that keeps its own rule, with its values there and with room for
-- what it makes, comes to a number or to a fault that is not Malformed.
--   formedb e       e is another fault than Malformed
-- Assumes nothing.
use Rattle.std.specs.Prelude.{Result, Err, Ok, None, Option, Some}
use Prim.Native.Nat.{ℕ, zero, suc, ◌+◌, ◌-◌, ◌<◌, ◌≤◌}
use native.Mathlib.Omega.{arith}
use mathlib.Core.Path.{◌≡◌, refl}
use mathlib.Core.Bool.{Bool, true, false, cond, false≢true}
use mathlib.Core.List.{List, [], ◌∷◌}
use lib.IntN.{ℤ, pos}
use lib.ListN.{length, take, drop}
use borrow.Author.Tests.{lt-ltb}
use Rattle.rules.specs.declared.Fault.{Fault}
use Rattle.rules.specs.declared.Fault.TheVariants as fault
use Rattle.rules_unit.specs.declared.Item.{Item}
use Rattle.rules_unit.specs.declared.Item.TheVariants as item
use Rattle.rules_unit.specs.Codes.{Code, rule_of, decimalb}
use Rattle.rules_unit.specs.Expressions.{numberb, itemb, place_sort, sort_of, goes_on}
use Rattle.rules_run.specs.declared.Span.{Span}
use Rattle.rules_run.specs.declared.Worked.{Worked}
use Rattle.rules_run.specs.Spans.{span_by}
use Rattle.rules_run.specs.Evaluation.{literal_number, read_span, reference, apply, push, room, step_by, on_held}
use Rattle.rules_run.proofs.Faults.{passes, calc_passes, read_passes}

abbrev pub formedb : Fault → Bool
formedb fault.Malformed = false
formedb fault.TooLong = true
formedb fault.Outside = true
formedb fault.BadDigit = true
formedb fault.ZeroDivisor = true
formedb fault.CallsFull = true
formedb fault.NoCall = true
formedb fault.RoundCount = true
formedb fault.ZeroStep = true
formedb fault.LoopsFull = true
formedb fault.NoLoop = true

-- ---- an item that is not last

module _ (c : Code) where
  pub literal_formed : (p l : ℕ) → numberb c p l ≡ true → passes formedb (literal_number c p l) ≡ true
  unfolding literal_number
  literal_formed p l o = rw o

  span_formed : (d : List ℕ) (s : Option Span) → passes formedb (read_span c d s) ≡ true
  span_formed d (Some s) = read_passes formedb refl refl c.dialect.limit c.dialect.sign (take s.len (drop s.start d))
  span_formed d None = refl

  pub item_formed : (d : List ℕ) (i : Item) (x y : ℤ) → itemb c i ≡ true → goes_on (sort_of c i) ≡ true → passes formedb (apply c d i x y) ≡ true
  unfolding reference
  item_formed d (item.Number p l) x y o g = literal_formed p l o
  item_formed d (item.Reference h f) x y o g = rw o (by (decimalb c f) g)
    where
      by : (t : Bool) → goes_on (place_sort t) ≡ true → passes formedb (cond t (read_span c d (span_by (rule_of (c.field f)) (length d) (c.field f) h x y)) (Err fault.Malformed)) ≡ true
      by true g = span_formed d (span_by (rule_of (c.field f)) (length d) (c.field f) h x y)
      by false g = absurd (false≢true g)
  item_formed d (item.Text p l) x y o g = absurd (false≢true g)
  item_formed d (item.Operator q) x y o g = calc_passes formedb refl refl refl c.dialect.top q x y
  item_formed d item.End x y o g = absurd (false≢true o)
  item_formed d item.Bad x y o g = absurd (false≢true o)

-- ---- one step, with any property that the faults have

module _ (P : Result Worked Fault → Type 0) (w : (e : Fault) → formedb e ≡ true → P (Err e)) where
  room_formed : (st : List ℤ) (g : Result ℤ Fault) (k : List ℤ → Result Worked Fault) → length st < 16 → passes formedb g ≡ true → ((v : ℤ) → P (k (v ∷ st)))
      → P (on_held (room st g) k)
  room_formed st g k h m f = rw (lt-ltb (length st) 16 h) (by g m)
    where
      by : (g : Result ℤ Fault) → passes formedb g ≡ true → P (on_held (push g st) k)
      by (Ok v) m = f v
      by (Err e) m = w e m

  pub step_formed : (n : ℕ) (f : ℤ → ℤ → Result ℤ Fault) (st : List ℤ) (k : List ℤ → Result Worked Fault) → n ≤ 2 → n ≤ length st → length st - n < 16
      → ((x y : ℤ) → passes formedb (f x y) ≡ true) → ((st' : List ℤ) → length st' ≡ length st - n + 1 → P (k st')) → P (on_held (step_by n f st) k)
  unfolding step_by
  step_formed zero f st k t h g m c = room_formed st (f (pos 0) (pos 0)) k (omega arith) (m (pos 0) (pos 0)) (λ v. c (v ∷ st) (omega arith))
  step_formed (suc zero) f [] k t h g m c = absurd (omega arith)
  step_formed (suc zero) f (x ∷ st) k t h g m c = room_formed st (f x (pos 0)) k (omega arith) (m x (pos 0)) (λ v. c (v ∷ st) (omega arith))
  step_formed (suc (suc n)) f [] k t h g m c = absurd (omega arith)
  step_formed (suc (suc n)) f (y ∷ []) k t h g m c = absurd (omega arith)
  step_formed (suc (suc n)) f (y ∷ (x ∷ st)) k t h g m c = room_formed st (f x y) k (omega arith) (m x y) (λ v. c (v ∷ st) (omega arith))
