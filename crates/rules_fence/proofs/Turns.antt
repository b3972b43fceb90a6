-- One statement of a fenced unit over valid data (document 01, "Fence rules"): it stores at its destination alone, leaves every decimal element
-- valid, gives no 21, and gives 22 only where it moves alpha text to a decimal place. A loop end and NEXTLOOP store at the destination of another
-- statement: of the FOR whose loop was opened last.
--   aim_of c s        the destination of the statement s, if it has one
--   TurnAims c d M t  the turn t stores at the destination of a statement of the unit, and M holds where it is 22
-- Assumes nothing.
use Rattle.rules.specs.declared.Fault.{Fault}
use Rattle.std.specs.Prelude.{Err, None, Option, Result}
use Prim.Native.Nat.{ℕ, ◌<◌}
use native.Mathlib.Omega.{arith}
use mathlib.Core.Path.{◌≡◌, refl, sym, ap, ◌∙◌, subst}
use mathlib.Core.Bool.{Bool, true, false}
use mathlib.Core.List.{List}
use mathlib.Core.Logic.{◌⊎◌, inl, inr}
use lib.Dec.{eqb}
use lib.IntN.{ℤ}
use lib.ListN.{length, get_or}
use borrow.Author.Tests.{eqb-true, eqb-false}
use Rattle.rules.specs.declared.Fault.TheVariants as fault
use Rattle.rules.specs.Values.{Letters}
use Rattle.rules.specs.Moves.{alpha_of}
use Rattle.rules_unit.specs.declared.Sort.{Sort}
use Rattle.rules_unit.specs.declared.Sort.TheVariants as sort
use Rattle.rules_unit.specs.declared.Want.TheVariants as want
use Rattle.rules_unit.specs.declared.Statement.{Statement}
use Rattle.rules_unit.specs.declared.Act.{Act}
use Rattle.rules_unit.specs.declared.Act.TheVariants as act
use Rattle.rules_unit.specs.declared.Verb.{Verb}
use Rattle.rules_unit.specs.declared.Verb.TheVariants as verb
use Rattle.rules_unit.specs.declared.Row.{Row}
use Rattle.rules_unit.specs.Table.{verb_of, row_of, use_of, uses_by}
use Rattle.rules_unit.specs.Codes.{Code}
use Rattle.rules_unit.specs.Expressions.{place_sort, alpha_sort, sort_at, suits}
use Rattle.rules_unit.specs.Sound.{SoundCode}
use Rattle.rules_unit.proofs.Sorts.{suits_right}
use Rattle.rules_unit.proofs.Statements.{uses_good, Used}
use Rattle.rules_unit.proofs.Table.{verb_for}
use Rattle.rules_run.specs.declared.Span.{Span}
use Rattle.rules_run.specs.declared.Flow.{Flow}
use Rattle.rules_run.specs.declared.Flow.TheVariants as flow
use Rattle.rules_run.specs.declared.Turn.{Turn}
use Rattle.rules_run.specs.declared.Look.{Look}
use Rattle.rules_run.specs.States.{LookSound}
use Rattle.rules_run.specs.Evaluation.{worked_of, number_of, text_of}
use Rattle.rules_run.specs.Turns.{move_worked, on_place, clear_at, count_at, case_at, on_number, if_zero, choose, entry_of, repeats, act_at, turn_by, turn_of}
use Rattle.rules_run.proofs.Comes.{Comes}
use Rattle.rules_run.proofs.OpenLoops.{repeats_none}
use Rattle.rules_run.proofs.Sorted.{sort_comes}
use Rattle.rules_fence.specs.Fence.{ExprFenced, UseFenced, Fenced}
use Rattle.rules_fence.specs.Destinations.{AllValid, BadText}
use Rattle.rules_fence.proofs.Exact.{expr_to}
use Rattle.rules_fence.proofs.Expressions.{worked_ok}
use Rattle.rules_fence.proofs.Jumps.{number_mild, on_number_lem}
use Rattle.rules_fence.proofs.Loops.{enters_ok, repeats_ok, exits_ok}
use Rattle.rules_fence.proofs.Moves.{TurnOk, failed_ok, goes_ok, on_place_lem, source_ok, clear_ok, count_ok, case_ok, edit_ok}
use Rattle.rules_fence.proofs.PlaceSpans.{place_span, use_span}
use Rattle.rules_fence.proofs.Places.{PlaceOk, WorkedOk}

abbrev pub aim_by : Code → Row → Statement → Option Span
aim_by c r s = use_span c (use_of r.a s.a)

abbrev pub aim_of : Code → Statement → Option Span
aim_of c s = aim_by c (row_of (verb_of s.code)) s

pub record TurnAims (c : Code) (d : List ℕ) (M : Type 0) (t : Result Turn Fault) : Type 0 where
  pub at : ℕ
  pub low : at < c.statements
  pub ok : TurnOk c d (aim_of c (c.statement at)) M t

decimal_place : (k : Sort) (decimal : Bool) → k ≡ place_sort decimal → decimal ≡ true → k ≡ sort.Decimal
decimal_place k decimal q t = q ∙ ap place_sort t

module _ (c : Code) (s : SoundCode c) (letters : Letters c.dialect.sign) (d : List ℕ) (e : length d ≡ c.size) (v : AllValid c d) where
  fenced : (dest : Bool) (a : ℕ) → ExprFenced c dest (c.items a) → WorkedOk c dest (place_span c (c.items a)) (worked_of c d (c.items a))
  fenced dest a r = worked_ok c d s e v dest (c.items a) (expr_to c dest (c.items a) r)

  -- M is where 22 may be
  module _ (M : Type 0) where
    at_place : (a : ℕ) (k : Bool → ℕ → ℕ → Result Turn Fault) → ExprFenced c true (c.items a)
        → ((decimal : Bool) (x n : ℕ) → PlaceOk c true (place_span c (c.items a)) decimal x n → TurnOk c d (place_span c (c.items a)) M (k decimal x n))
        → TurnOk c d (place_span c (c.items a)) M (on_place (worked_of c d (c.items a)) k)
    at_place a k r h = on_place_lem c d (place_span c (c.items a)) M (worked_of c d (c.items a)) k (fenced true a r) (λ decimal x n q p. h decimal x n p)

    set_ok : (a b : ℕ) → suits want.Place (sort_at c a) ≡ true → suits want.Source (sort_at c b) ≡ true → ExprFenced c true (c.items a) → ExprFenced c false (c.items b)
        → (sort_at c a ≡ sort.Decimal → alpha_sort (sort_at c b) ≡ true → alpha_of c.dialect.top (text_of c d (worked_of c d (c.items b))) ≡ Err fault.BadDigit → M)
        → TurnOk c d (place_span c (c.items a)) M (on_place (worked_of c d (c.items a)) (λ decimal x n. move_worked c d decimal x n (worked_of c d (c.items b))))
    set_ok a b x y r q m =
        on_place_lem c d (place_span c (c.items a)) M (worked_of c d (c.items a)) _ (fenced true a r)
        (λ decimal z n p k.
        let kind : sort_at c a ≡ place_sort decimal = subst (Comes (sort_at c a)) p (sort_comes c d a (suits_right want.Place (sort_at c a) x)) in
        source_ok c d (place_span c (c.items a)) M s letters e v (sort_at c b) (place_span c (c.items b)) decimal z n k (worked_of c d (c.items b))
        (sort_comes c d b (suits_right want.Source (sort_at c b) y)) (fenced false b q)
        (λ t g f. m (decimal_place (sort_at c a) decimal kind t) g f))

    jump_ok : (b : ℕ) (k : ℤ → Flow) → ExprFenced c false (c.items b)
        → TurnOk c d None M (on_number (number_of c d (worked_of c d (c.items b))) k)
    jump_ok b k r =
        on_number_lem c d M (number_of c d (worked_of c d (c.items b))) k (number_mild c s d e v (place_span c (c.items b)) (worked_of c d (c.items b)) (fenced false b r))

  -- ---- statements

  abbrev Kept : Row → Statement → Type 0
  Kept r t = (k : ℕ) → k < length (uses_by c r t) → UseFenced c (get_or (uses_by c r t) k None)

  act_ok : (t : Statement) (x : Act) → verb_of t.code ≡ verb.At x → Used c (row_of (verb.At x)) t → Kept (row_of (verb.At x)) t
      → TurnOk c d (aim_by c (row_of (verb.At x)) t) (BadText c d t) (on_place (worked_of c d (c.items t.a)) (act_at c d x t))
  act_ok t act.Set q u r =
      set_ok (BadText c d t) t.a t.b (u 0 (omega arith)) (u 1 (omega arith)) (r 0 (omega arith)) (r 1 (omega arith)) (λ k g f. (q, k, g, f))
  act_ok t act.Clear q u r = at_place (BadText c d t) t.a clear_at (r 0 (omega arith)) (clear_ok c d (place_span c (c.items t.a)) (BadText c d t) s letters e v)
  act_ok t (act.Count up) q u r = at_place (BadText c d t) t.a (count_at c d up) (r 0 (omega arith)) (count_ok c d (place_span c (c.items t.a)) (BadText c d t) s letters e v up)
  act_ok t (act.Case upper) q u r = at_place (BadText c d t) t.a (case_at upper) (r 0 (omega arith)) (case_ok c d (place_span c (c.items t.a)) (BadText c d t) s letters e v upper)
  act_ok t act.Edit q u r =
      at_place (BadText c d t) t.a (act_at c d act.Edit t) (r 0 (omega arith))
      (λ decimal x n p. edit_ok c d (place_span c (c.items t.a)) (BadText c d t) (place_span c (c.items t.b)) decimal x n p (worked_of c d (c.items t.b)) (fenced false t.b (r 1 (omega arith)))
      (number_of c d (worked_of c d (c.items t.c))) (number_mild c s d e v (place_span c (c.items t.c)) (worked_of c d (c.items t.c)) (fenced false t.c (r 2 (omega arith)))))

  module _ (l : Look) where
    -- The turn y of the statement t, of the verb x, stores at its own destination, or at that of the entry of the loop opened last.
    abbrev Stores : Statement → Verb → Result Turn Fault → Type 0
    Stores t x y = TurnOk c d (aim_by c (row_of x) t) (BadText c d t) y ⊎ ((0 < l.opened) × TurnOk c d (aim_of c (entry_of c l)) (BadText c d t) y)

    -- The control place of the loop opened last is the destination of a FOR.
    abbrev Controlled : Type 0
    Controlled = 0 < l.opened → (verb_of (entry_of c l).code ≡ verb.For) × ExprFenced c true (c.items (entry_of c l).a)

    again_ok : Controlled → (t : Statement) → TurnOk c d None (BadText c d t) (repeats c l d) ⊎ ((0 < l.opened) × TurnOk c d (aim_of c (entry_of c l)) (BadText c d t) (repeats c l d))
    again_ok o t = by (eqb l.opened 0) refl
      where
        by : (b : Bool) → eqb l.opened 0 ≡ b → TurnOk c d None (BadText c d t) (repeats c l d) ⊎ ((0 < l.opened) × TurnOk c d (aim_of c (entry_of c l)) (BadText c d t) (repeats c l d))
        by true q = inl (rw (repeats_none c l d (eqb-true l.opened 0 q)) (failed_ok c d None (BadText c d t) fault.NoLoop tt))
        by false q =
            let h : 0 < l.opened = omega (arith, eqb-false l.opened 0 q) in
            inr (h, subst (λ (x : Verb). TurnOk c d (aim_by c (row_of x) (entry_of c l)) (BadText c d t) (repeats c l d)) (sym (o h).0) (repeats_ok c s letters d e v (BadText c d t) l (λ z. (o z).1)))

    by_verb : Controlled → (i : ℕ) (t : Statement) (x : Verb) → verb_of t.code ≡ x → Used c (row_of x) t → Kept (row_of x) t → Stores t x (turn_by c l i d x t)
    unfolding turn_by
    by_verb o i t (verb.At x) q u r = inl (act_ok t x q u r)
    by_verb o i t verb.Goto q u r = inl (goes_ok c d None (BadText c d t) (flow.Goto t.c))
    by_verb o i t verb.IfZero q u r = inl (jump_ok (BadText c d t) t.b (if_zero t.c) (r 1 (omega arith)))
    by_verb o i t verb.Call q u r = inl (goes_ok c d None (BadText c d t) (flow.Call t.c))
    by_verb o i t verb.Return q u r = inl (goes_ok c d None (BadText c d t) flow.Return)
    by_verb o i t verb.Stop q u r = inl (goes_ok c d None (BadText c d t) flow.Stop)
    by_verb o i t verb.Computed q u r = inl (jump_ok (BadText c d t) t.b (choose i t.a) (r 1 (omega arith)))
    by_verb o i t verb.For q u r = inl (enters_ok c s letters d e v (BadText c d t) l t (r 0 (omega arith)) (r 1 (omega arith)) (r 3 (omega arith)) (r 4 (omega arith)))
    by_verb o i t verb.LoopEnd q u r = again_ok o t
    by_verb o i t verb.ExitLoop q u r = inl (exits_ok c s letters d e v (BadText c d t) None l)
    by_verb o i t verb.NextLoop q u r = again_ok o t
    by_verb o i t verb.OnError q u r = inl (goes_ok c d None (BadText c d t) (flow.Arm t.c))
    by_verb o i t verb.OffError q u r = inl (goes_ok c d None (BadText c d t) flow.Disarm)
    by_verb o i t verb.Bad q u r = inl (failed_ok c d None (BadText c d t) fault.Malformed tt)

    module _ (known : LookSound c l) (r : Fenced c) where
      for_controlled : Controlled
      for_controlled h =
          let x = known.last h in
          let q = verb_for (entry_of c l).code x.enters in
          (q, subst (λ (y : Verb). UseFenced c (get_or (uses_by c (row_of y) (entry_of c l)) 0 None)) q ((r.all l.last.entry x.low).each 0 (omega arith)))

      pub turn_ok : (i : ℕ) → i < c.statements → TurnAims c d (BadText c d (c.statement i)) (turn_of c l i d)
      unfolding turn_of
      turn_ok i h = by (by_verb for_controlled i (c.statement i) (verb_of (c.statement i).code) refl (uses_good c i (s.statements i h).uses) (r.all i h).each)
        where
          by : Stores (c.statement i) (verb_of (c.statement i).code) (turn_by c l i d (verb_of (c.statement i).code) (c.statement i))
              → TurnAims c d (BadText c d (c.statement i)) (turn_by c l i d (verb_of (c.statement i).code) (c.statement i))
          by (inl k) = record { at = i; low = h; ok = k }
          by (inr (o, k)) = record { at = l.last.entry; low = (known.last o).low; ok = k }
