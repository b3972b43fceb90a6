-- The statements of a loop of a fenced unit over valid data (request 4 of document 02, "FOR loops"): a FOR stores at its control place, and a loop end and
-- NEXTLOOP at that of the FOR whose loop was opened last. They give no 21 and no 22.
-- Assumes nothing.
use Rattle.std.specs.Prelude.{Result, Err, Ok, Option}
use Rattle.rules.specs.declared.Fault.{Fault}
use Prim.Native.Nat.{ℕ, ◌+◌, ◌<◌}
use native.Mathlib.Omega.{arith}
use mathlib.Core.Path.{◌≡◌, refl}
use mathlib.Core.Bool.{Bool, true, false}
use mathlib.Core.List.{List}
use lib.Dec.{ltb, eqb}
use lib.IntN.{ℤ, nat_abs, ◌+ℤ◌}
use lib.ListN.{length}
use borrow.Author.Tests.{eqb-false}
use Rattle.rules.specs.declared.Fault.TheVariants as fault
use Rattle.rules.specs.Values.{Letters}
use Rattle.rules.specs.Arithmetic.{add_of}
use Rattle.rules.proofs.Walk.{cond_either, cond_case}
use Rattle.rules_unit.specs.declared.Statement.{Statement}
use Rattle.rules_unit.specs.Codes.{Code}
use Rattle.rules_unit.specs.Expressions.{next_at}
use Rattle.rules_unit.specs.Sound.{SoundCode}
use Rattle.rules_run.specs.declared.Span.{Span}
use Rattle.rules_run.specs.declared.Flow.TheVariants as flow
use Rattle.rules_run.specs.declared.Turn.{Turn}
use Rattle.rules_run.specs.declared.Look.{Look}
use Rattle.rules_run.specs.Evaluation.{read_at, worked_of, value_at}
use Rattle.rules_run.specs.Turns.{goes, on_place, on_value, enter_flow, enter_at, enters, entry_of, pass_flow, pass_at, on_loop, repeats, exits}
use Rattle.rules_run.proofs.Faults.{kept_passes}
use Rattle.rules_fence.specs.Fence.{ExprFenced}
use Rattle.rules_fence.specs.Destinations.{AllValid}
use Rattle.rules_fence.proofs.Exact.{expr_to}
use Rattle.rules_fence.proofs.Expressions.{worked_ok}
use Rattle.rules_fence.proofs.Jumps.{number_mild}
use Rattle.rules_fence.proofs.Mild.{mildb, mild_num, mild_plain}
use Rattle.rules_fence.proofs.Moves.{TurnOk, failed_ok, goes_ok, on_place_lem, read_mild, controls_ok}
use Rattle.rules_fence.proofs.PlaceSpans.{place_span}
use Rattle.rules_fence.proofs.Places.{PlaceOk, WorkedOk}

-- M is where 22 may be
module _ (c : Code) (s : SoundCode c) (letters : Letters c.dialect.sign) (d : List ℕ) (e : length d ≡ c.size) (v : AllValid c d) (M : Type 0) where
  fenced : (dest : Bool) (a : ℕ) → ExprFenced c dest (c.items a) → WorkedOk c dest (place_span c (c.items a)) (worked_of c d (c.items a))
  fenced dest a r = worked_ok c d s e v dest (c.items a) (expr_to c dest (c.items a) r)

  value_mild : (b : ℕ) → ExprFenced c false (c.items b) → mild_num false (value_at c d b) ≡ true
  value_mild b r = number_mild c s d e v (place_span c (c.items b)) (worked_of c d (c.items b)) (fenced false b r)

  module _ (span : Option Span) where
    on_value_lem : (r : Result ℤ Fault) (k : ℤ → Result Turn Fault) → mild_num false r ≡ true → ((z : ℤ) → TurnOk c d span M (k z)) → TurnOk c d span M (on_value r k)
    on_value_lem (Ok z) k m h = h z
    on_value_lem (Err x) k m h = failed_ok c d span M x (mild_plain M x m)

    enter_ok : (t : Statement) → ExprFenced c false (c.items t.b) → ExprFenced c false (c.items (next_at c t.b)) → ExprFenced c false (c.items (next_at c (next_at c t.b)))
        → (decimal : Bool) (a n : ℕ) → PlaceOk c true span decimal a n → TurnOk c d span M (enter_at c d t decimal a n)
    enter_ok t x y z true a n k =
        on_value_lem (value_at c d t.b) _ (value_mild t.b x)
        (λ start. on_value_lem (value_at c d (next_at c t.b)) _ (value_mild (next_at c t.b) y)
        (λ limit. on_value_lem (value_at c d (next_at c (next_at c t.b))) _ (value_mild (next_at c (next_at c t.b)) z)
        (λ step. cond_either (TurnOk c d span M) (eqb (nat_abs step) 0) (Err fault.ZeroStep) _ (failed_ok c d span M fault.ZeroStep tt)
        (controls_ok c d span M s letters e v a n k start (enter_flow t.c start limit step)))))
    enter_ok t x y z false a n k = failed_ok c d span M fault.Malformed tt

    pass_ok : (l : Look) (decimal : Bool) (a n : ℕ) → PlaceOk c true span decimal a n → TurnOk c d span M (pass_at c l d decimal a n)
    pass_ok l true a n k =
        on_value_lem (read_at c d a n) _ (read_mild c d span M s letters e v k)
        (λ x. on_value_lem (add_of c.dialect.top x l.last.step) _ (kept_passes (mildb false) refl c.dialect.top (x +ℤ l.last.step))
        (λ z. controls_ok c d span M s letters e v a n k z (pass_flow c l z)))
    pass_ok l false a n k = failed_ok c d span M fault.Malformed tt

    on_loop_lem : (l : Look) (t : Result Turn Fault) → (0 < l.opened → TurnOk c d span M t) → TurnOk c d span M (on_loop l t)
    on_loop_lem l t h =
        cond_case (TurnOk c d span M) (eqb l.opened 0) (Err fault.NoLoop) t (λ q. failed_ok c d span M fault.NoLoop tt) (λ q. h (omega (arith, eqb-false l.opened 0 q)))

    pub exits_ok : (l : Look) → TurnOk c d span M (exits c l)
    unfolding exits
    exits_ok l = on_loop_lem l (goes (flow.Leave ((entry_of c l).c + 1))) (λ o. goes_ok c d span M (flow.Leave ((entry_of c l).c + 1)))

  pub enters_ok : (l : Look) (t : Statement) → ExprFenced c true (c.items t.a) → ExprFenced c false (c.items t.b) → ExprFenced c false (c.items (next_at c t.b))
      → ExprFenced c false (c.items (next_at c (next_at c t.b))) → TurnOk c d (place_span c (c.items t.a)) M (enters c l d t)
  unfolding enters
  enters_ok l t w x y z =
      let span = place_span c (c.items t.a) in
      cond_either (TurnOk c d span M) (ltb l.opened 16) _ (Err fault.LoopsFull)
      (on_place_lem c d span M (worked_of c d (c.items t.a)) (enter_at c d t) (fenced true t.a w) (λ decimal a n q p. enter_ok span t x y z decimal a n p))
      (failed_ok c d span M fault.LoopsFull tt)

  pub repeats_ok : (l : Look) → (0 < l.opened → ExprFenced c true (c.items (entry_of c l).a)) → TurnOk c d (place_span c (c.items (entry_of c l).a)) M (repeats c l d)
  unfolding repeats
  repeats_ok l r =
      let a = (entry_of c l).a in
      let span = place_span c (c.items a) in
      on_loop_lem span l (on_place (worked_of c d (c.items a)) (pass_at c l d))
      (λ o. on_place_lem c d span M (worked_of c d (c.items a)) (pass_at c l d) (fenced true a (r o)) (λ decimal x n q p. pass_ok span l decimal x n p))
