-- What holds of every turn: an error, or a store and a way on, is all that a statement answers (document 01, "The coded unit"; request 4 of document 02,
-- "FOR loops").
--   MayFail c l d v s e    e is a fault that the statement s, whose verb is v, may give over the data d, where it sees l of the state
--   MayGo c l i d v s f    f is where it may lead from i
-- Assumes nothing.
use Rattle.std.specs.Prelude.{Result, Err, Ok}
use Prim.Native.Nat.{ℕ, zero, suc, ◌+◌, ◌<◌, ◌≤◌}
use native.Mathlib.Omega.{arith}
use mathlib.Core.Path.{◌≡◌, refl}
use mathlib.Core.Logic.{◌⊎◌, inl, inr}
use lib.Dec.{ltb, leb, eqb}
use borrow.Author.Tests.{ltb-true, ltb-false, leb-true, eqb-true, eqb-false}
use mathlib.Core.Bool.{Bool, true, false, false≢true}
use mathlib.Core.List.{List}
use lib.IntN.{ℤ, pos, negsuc, nat_abs, ◌+ℤ◌}
use lib.ListN.{take, drop}
use Rattle.rules.specs.declared.Fault.{Fault}
use Rattle.rules.specs.declared.Fault.TheVariants as fault
use Rattle.rules.specs.Arithmetic.{add_of}
use Rattle.rules.specs.Moves.{alpha_of}
use Rattle.rules.proofs.Walk.{cond_case, cond_either}
use Rattle.rules_unit.specs.declared.Statement.{Statement}
use Rattle.rules_unit.specs.declared.Act.{Act}
use Rattle.rules_unit.specs.declared.Act.TheVariants as act
use Rattle.rules_unit.specs.declared.Verb.{Verb}
use Rattle.rules_unit.specs.declared.Verb.TheVariants as verb
use Rattle.rules_unit.specs.declared.Role.TheVariants as role
use Rattle.rules_unit.specs.declared.Row.{Row}
use Rattle.rules_unit.specs.Table.{row_of}
use Rattle.rules_unit.specs.Codes.{Code}
use Rattle.rules_unit.specs.Expressions.{next_at}
use Rattle.rules_run.specs.declared.Worked.{Worked}
use Rattle.rules_run.specs.declared.Worked.TheVariants as worked
use Rattle.rules_run.specs.declared.Write.{Write}
use Rattle.rules_run.specs.declared.Write.TheVariants as write
use Rattle.rules_run.specs.declared.Flow.{Flow}
use Rattle.rules_run.specs.declared.Flow.TheVariants as flow
use Rattle.rules_run.specs.declared.Turn.{Turn}
use Rattle.rules_run.specs.declared.Look.{Look}
use Rattle.rules_run.specs.Evaluation.{read_at, worked_of, number_of, value_at}
use Rattle.rules_run.specs.Turns.{turn, stores, goes, move_number, move_num, move_worked, on_place, counted, count_at, case_at, edit_num, edit_by, edit_at, on_number, if_zero, choose, on_value, testb, fitsb, controls, enter_flow, enter_by, enter_at, enters, Entry, entry_of, pass_flow, pass_at, on_loop, repeats, exits, act_at, turn_by}
use Rattle.rules_run.proofs.Faults.{passes, kept_passes}
use Rattle.rules_run.proofs.Working.{workb, Works, read_works, alpha_works, counted_works, worked_works, number_works}

-- "they and a loop end act on the loop opened last"
abbrev pub ActsOnLoop : Verb → Type 0
ActsOnLoop v = (v ≡ verb.LoopEnd) ⊎ ((v ≡ verb.ExitLoop) ⊎ (v ≡ verb.NextLoop))

-- 24 and 25 are given by where a statement leads, and 27, 28 and 29 by the statements of a loop alone.
abbrev pub MayFail : Code → Look → List ℕ → Verb → Statement → Fault → Type 0
MayFail c l d v s fault.Malformed = Unit {0}
MayFail c l d v s fault.TooLong = Unit {0}
MayFail c l d v s fault.Outside = Unit {0}
MayFail c l d v s fault.BadDigit = Unit {0}
MayFail c l d v s fault.ZeroDivisor = Unit {0}
MayFail c l d v s fault.CallsFull = ⊥
MayFail c l d v s fault.NoCall = ⊥
MayFail c l d v s fault.RoundCount = Unit {0}
MayFail c l d v s fault.ZeroStep = (v ≡ verb.For) × (l.opened < 16) × (e : Entry c d s) × (nat_abs e.step ≡ 0)
MayFail c l d v s fault.LoopsFull = (v ≡ verb.For) × (16 ≤ l.opened)
MayFail c l d v s fault.NoLoop = ActsOnLoop v × (l.opened ≡ 0)

work_may : (c : Code) (l : Look) (d : List ℕ) (v : Verb) (s : Statement) (e : Fault) → workb e ≡ true → MayFail c l d v s e
work_may c l d v s fault.Malformed m = tt
work_may c l d v s fault.TooLong m = tt
work_may c l d v s fault.Outside m = tt
work_may c l d v s fault.BadDigit m = tt
work_may c l d v s fault.ZeroDivisor m = tt
work_may c l d v s fault.CallsFull m = false≢true m
work_may c l d v s fault.NoCall m = false≢true m
work_may c l d v s fault.RoundCount m = tt
work_may c l d v s fault.ZeroStep m = absurd (false≢true m)
work_may c l d v s fault.LoopsFull m = absurd (false≢true m)
work_may c l d v s fault.NoLoop m = absurd (false≢true m)

-- The statement s at i may go on at t, by its row: at its target, no further than one past the GOTO statements behind it, or behind its loop end.
abbrev pub Near : ℕ → Row → Statement → ℕ → Type 0
Near i r s t = ((r.c ≡ role.Target) × (t ≡ s.c)) ⊎ (((r.a ≡ role.Table) × (t ≤ i + s.a + 1)) ⊎ ((r.c ≡ role.End) × (t ≡ s.c + 1)))

-- A call is opened by CALL alone, and closed by RETURN alone; a loop is opened by FOR alone, and closed by what acts on it; a handler is set by ONERROR alone,
-- and taken away by OFFERROR alone.
abbrev pub MayGo : Code → Look → ℕ → List ℕ → Verb → Statement → Flow → Type 0
MayGo c l i d v s flow.Next = Unit {0}
MayGo c l i d v s (flow.Goto t) = Near i (row_of v) s t ⊎ (ActsOnLoop v × (0 < l.opened) × (t ≡ l.last.entry + 1))
MayGo c l i d v s (flow.Call t) = (v ≡ verb.Call) × Near i (row_of v) s t
MayGo c l i d v s flow.Return = v ≡ verb.Return
MayGo c l i d v s flow.Stop = Unit {0}
MayGo c l i d v s (flow.Enter limit step) = (v ≡ verb.For) × (l.opened < 16) × (0 < nat_abs step) × (e : Entry c d s) × (e.limit ≡ limit) × (e.step ≡ step)
MayGo c l i d v s (flow.Leave t) = ActsOnLoop v × (0 < l.opened) × (t ≡ (entry_of c l).c + 1)
MayGo c l i d v s (flow.Arm t) = (v ≡ verb.OnError) × (t ≡ s.c)
MayGo c l i d v s flow.Disarm = v ≡ verb.OffError

choose_may : (c : Code) (l : Look) (i : ℕ) (d : List ℕ) (s : Statement) (v : ℤ) → MayGo c l i d verb.Computed s (choose i s.a v)
choose_may c l i d s (pos zero) = inl (inr (inl (refl, omega arith)))
choose_may c l i d s (pos (suc v)) =
    cond_case (MayGo c l i d verb.Computed s) (leb (suc v) s.a) (flow.Goto (i + suc v)) (flow.Goto (i + s.a + 1))
    (λ e. inl (inr (inl (refl, omega (arith, leb-true (suc v) s.a e))))) (λ e. inl (inr (inl (refl, omega arith))))
choose_may c l i d s (negsuc v) = inl (inr (inl (refl, omega arith)))

module _ (P : Result Turn Fault → Type 0) (fails : (e : Fault) → workb e ≡ true → P (Err e)) (puts : (w : Write) → P (stores w)) where
  by_number : (decimal : Bool) (a n : ℕ) (v : ℤ) → P (move_number decimal a n v)
  by_number decimal a n v = cond_either P decimal _ _ (puts (write.Number a n v)) (puts (write.Show a n v))

  by_num : (decimal : Bool) (a n : ℕ) (r : Result ℤ Fault) → passes workb r ≡ true → P (move_num decimal a n r)
  by_num decimal a n (Ok v) m = by_number decimal a n v
  by_num decimal a n (Err e) m = fails e m

  by_jump : (r : Result ℤ Fault) (k : ℤ → Flow) → passes workb r ≡ true → ((v : ℤ) → P (goes (k v))) → P (on_number r k)
  by_jump (Ok v) k m h = h v
  by_jump (Err e) k m h = fails e m

  by_place : (w : Result Worked Fault) (k : Bool → ℕ → ℕ → Result Turn Fault) → Works w → ((decimal : Bool) (a n : ℕ) → P (k decimal a n)) → P (on_place w k)
  by_place (Ok (worked.Number v)) k m h = fails fault.Malformed refl
  by_place (Ok (worked.Place decimal a n)) k m h = h decimal a n
  by_place (Ok (worked.Text p l)) k m h = fails fault.Malformed refl
  by_place (Err e) k m h = fails e m

  by_edit_num : (r : Result ℤ Fault) (k : ℤ → Write) → passes workb r ≡ true → P (edit_num r k)
  by_edit_num (Ok v) k m = puts (k v)
  by_edit_num (Err e) k m = fails e m

  by_mask : (a n : ℕ) (w : Result Worked Fault) → Works w → (r : Result ℤ Fault) → passes workb r ≡ true → P (edit_by a n w r)
  by_mask a n (Ok (worked.Number v)) m r h = fails fault.Malformed refl
  by_mask a n (Ok (worked.Place decimal from k)) m r h = cond_either P decimal _ _ (fails fault.Malformed refl) (by_edit_num r (λ v. write.Edit a n from k v) h)
  by_mask a n (Ok (worked.Text p l)) m r h = by_edit_num r (λ v. write.EditLiteral a n p l v) h
  by_mask a n (Err e) m r h = fails e m

  by_edit : (decimal : Bool) (a n : ℕ) (w : Result Worked Fault) → Works w → (r : Result ℤ Fault) → passes workb r ≡ true → P (edit_at decimal a n w r)
  by_edit decimal a n w m r h = cond_either P decimal _ _ (fails fault.Malformed refl) (by_mask a n w m r h)

  module _ (c : Code) (d : List ℕ) where
    by_worked : (decimal : Bool) (a n : ℕ) (w : Result Worked Fault) → Works w → P (move_worked c d decimal a n w)
    by_worked decimal a n (Ok (worked.Number v)) m = by_number decimal a n v
    by_worked decimal a n (Ok (worked.Place number b l)) m =
        cond_either P number _ _ (by_num decimal a n (read_at c d b l) (read_works c d b l))
        (cond_either P decimal _ _ (by_num true a n (alpha_of c.dialect.top (take l (drop b d))) (alpha_works c d (take l (drop b d)))) (puts (write.Move a n b l)))
    by_worked decimal a n (Ok (worked.Text p l)) m =
        cond_either P decimal _ _ (by_num true a n (alpha_of c.dialect.top (take l (drop p c.literals))) (alpha_works c d (take l (drop p c.literals)))) (puts (write.Literal a n p l))
    by_worked decimal a n (Err e) m = fails e m

    by_count : (up decimal : Bool) (a n : ℕ) → P (count_at c d up decimal a n)
    by_count up decimal a n =
        cond_either P decimal _ _ (by_num true a n (counted c.dialect.top up (read_at c d a n)) (counted_works c d up (read_at c d a n) (read_works c d a n))) (fails fault.Malformed refl)

    by_case : (up decimal : Bool) (a n : ℕ) → P (case_at up decimal a n)
    by_case up decimal a n = cond_either P decimal _ _ (fails fault.Malformed refl) (puts (write.Case a n up))

    by_act : (x : Act) (s : Statement) (decimal : Bool) (a n : ℕ) → P (act_at c d x s decimal a n)
    by_act act.Set s decimal a n = by_worked decimal a n (worked_of c d (c.items s.b)) (worked_works c d (c.items s.b))
    by_act act.Clear s decimal a n = puts (write.Clear a n decimal)
    by_act (act.Count up) s decimal a n = by_count up decimal a n
    by_act (act.Case upper) s decimal a n = by_case upper decimal a n
    by_act act.Edit s decimal a n =
        by_edit decimal a n (worked_of c d (c.items s.b)) (worked_works c d (c.items s.b)) (number_of c d (worked_of c d (c.items s.c)))
        (number_works c d (worked_of c d (c.items s.c)) (worked_works c d (c.items s.c)))

    by_b : (s : Statement) (k : ℤ → Flow) → ((v : ℤ) → P (goes (k v))) → P (on_number (number_of c d (worked_of c d (c.items s.b))) k)
    by_b s k h =
        by_jump (number_of c d (worked_of c d (c.items s.b))) k (number_works c d (worked_of c d (c.items s.b)) (worked_works c d (c.items s.b))) h

    pub act_case : (l : Look) (i : ℕ) (x : Act) (s : Statement) → P (turn_by c l i d (verb.At x) s)
    unfolding turn_by
    act_case l i x s = by_place (worked_of c d (c.items s.a)) (act_at c d x s) (worked_works c d (c.items s.a)) (by_act x s)

-- ---- the statements of a loop

module _ (P : Result Turn Fault → Type 0) (c : Code) (l : Look) (i : ℕ) (d : List ℕ) (v : Verb) (s : Statement) (fails : (e : Fault) → MayFail c l d v s e → P (Err e))
    (on : (w : Write) (f : Flow) → MayGo c l i d v s f → P (Ok (turn w f))) where
  works : (e : Fault) → workb e ≡ true → P (Err e)
  works e m = fails e (work_may c l d v s e m)

  by_value : (r : Result ℤ Fault) (k : ℤ → Result Turn Fault) → passes workb r ≡ true → ((z : ℤ) → r ≡ Ok z → P (k z)) → P (on_value r k)
  by_value (Ok z) k m h = h z refl
  by_value (Err e) k m h = works e m

  at_place : (w : Result Worked Fault) (k : Bool → ℕ → ℕ → Result Turn Fault) → Works w → ((decimal : Bool) (a n : ℕ) → w ≡ Ok (worked.Place decimal a n) → P (k decimal a n)) → P (on_place w k)
  at_place (Ok (worked.Number z)) k m h = works fault.Malformed refl
  at_place (Ok (worked.Place decimal a n)) k m h = h decimal a n refl
  at_place (Ok (worked.Text p q)) k m h = works fault.Malformed refl
  at_place (Err e) k m h = works e m

  at_value : (e : ℕ) (k : ℤ → Result Turn Fault) → ((z : ℤ) → value_at c d e ≡ Ok z → P (k z)) → P (on_value (value_at c d e) k)
  at_value e k h = by_value (value_at c d e) k (number_works c d (worked_of c d (c.items e)) (worked_works c d (c.items e))) h

  by_control : (a n : ℕ) (z : ℤ) (f : Flow) → MayGo c l i d v s f → P (controls a n z f)
  by_control a n z f m = cond_either P (fitsb n z) (Ok (turn (write.Number a n z) f)) (Err fault.TooLong) (on (write.Number a n z) f m) (works fault.TooLong refl)

  module _ (q : v ≡ verb.For) where
    behind : MayGo c l i d v s (flow.Goto (s.c + 1))
    behind = rw q (inl (inr (inr (refl, refl))))

    by_entry : l.opened < 16 → (e : Entry c d s) → P (enter_by s.c e.a e.n e.start e.limit e.step)
    by_entry o e =
        cond_case P (eqb (nat_abs e.step) 0) (Err fault.ZeroStep) _ (λ z. fails fault.ZeroStep (q, o, e, eqb-true (nat_abs e.step) 0 z))
        (λ z. by_control e.a e.n e.start (enter_flow s.c e.start e.limit e.step)
        (cond_either (MayGo c l i d v s) (testb e.start e.limit e.step) (flow.Enter e.limit e.step) (flow.Goto (s.c + 1))
        (q, o, omega (arith, eqb-false (nat_abs e.step) 0 z), e, refl, refl) behind))

    by_enter : l.opened < 16 → (decimal : Bool) (a n : ℕ) → worked_of c d (c.items s.a) ≡ Ok (worked.Place decimal a n) → P (enter_at c d s decimal a n)
    by_enter o true a n f =
        at_value s.b _
        (λ start x. at_value (next_at c s.b) _
        (λ limit y. at_value (next_at c (next_at c s.b)) _
        (λ step z. by_entry o (record { a = a; n = n; start = start; limit = limit; step = step; found = f; starts = x; ends = y; steps = z }))))
    by_enter o false a n f = works fault.Malformed refl

    enters_case : P (enters c l d s)
    unfolding enters
    enters_case =
        cond_case P (ltb l.opened 16) _ (Err fault.LoopsFull)
        (λ e. at_place (worked_of c d (c.items s.a)) (enter_at c d s) (worked_works c d (c.items s.a)) (by_enter (ltb-true l.opened 16 e)))
        (λ e. fails fault.LoopsFull (q, ltb-false l.opened 16 e))

  module _ (q : ActsOnLoop v) where
    on_loop_lem : (t : Result Turn Fault) → (0 < l.opened → P t) → P (on_loop l t)
    on_loop_lem t h =
        cond_case P (eqb l.opened 0) (Err fault.NoLoop) t (λ e. fails fault.NoLoop (q, eqb-true l.opened 0 e)) (λ e. h (omega (arith, eqb-false l.opened 0 e)))

    by_pass : 0 < l.opened → (decimal : Bool) (a n : ℕ) → P (pass_at c l d decimal a n)
    by_pass o true a n =
        by_value (read_at c d a n) _ (read_works c d a n)
        (λ x e. by_value (add_of c.dialect.top x l.last.step) _ (kept_passes workb refl c.dialect.top (x +ℤ l.last.step))
        (λ z f. by_control a n z (pass_flow c l z)
        (cond_either (MayGo c l i d v s) (testb z l.last.limit l.last.step) (flow.Goto (l.last.entry + 1)) (flow.Leave ((entry_of c l).c + 1))
        (inr (q, o, refl)) (q, o, refl))))
    by_pass o false a n = works fault.Malformed refl

    repeats_case : P (repeats c l d)
    unfolding repeats
    repeats_case =
        on_loop_lem (on_place (worked_of c d (c.items (entry_of c l).a)) (pass_at c l d))
        (λ o. at_place (worked_of c d (c.items (entry_of c l).a)) (pass_at c l d) (worked_works c d (c.items (entry_of c l).a)) (λ decimal a n e. by_pass o decimal a n))

    exits_case : P (exits c l)
    unfolding exits
    exits_case = on_loop_lem (goes (flow.Leave ((entry_of c l).c + 1))) (λ o. on write.Nothing (flow.Leave ((entry_of c l).c + 1)) (q, o, refl))

-- ---- every statement

module _ (P : Result Turn Fault → Type 0) (c : Code) (l : Look) (i : ℕ) (d : List ℕ) where
  pub turn_case : (v : Verb) (s : Statement) → ((e : Fault) → MayFail c l d v s e → P (Err e)) → ((w : Write) (f : Flow) → MayGo c l i d v s f → P (Ok (turn w f)))
      → P (turn_by c l i d v s)
  unfolding turn_by
  turn_case (verb.At x) s fails on = act_case P (works P c l i d (verb.At x) s fails on) (λ w. on w flow.Next tt) c d l i x s
  turn_case verb.Goto s fails on = on write.Nothing (flow.Goto s.c) (inl (inl (refl, refl)))
  turn_case verb.IfZero s fails on =
      by_b P (works P c l i d verb.IfZero s fails on) (λ w. on w flow.Next tt) c d s (if_zero s.c)
      (λ z. on write.Nothing (if_zero s.c z)
      (cond_either (MayGo c l i d verb.IfZero s) (eqb (nat_abs z) 0) (flow.Goto s.c) flow.Next (inl (inl (refl, refl))) tt))
  turn_case verb.Call s fails on = on write.Nothing (flow.Call s.c) (refl, inl (refl, refl))
  turn_case verb.Return s fails on = on write.Nothing flow.Return refl
  turn_case verb.Stop s fails on = on write.Nothing flow.Stop tt
  turn_case verb.Computed s fails on =
      by_b P (works P c l i d verb.Computed s fails on) (λ w. on w flow.Next tt) c d s (choose i s.a)
      (λ z. on write.Nothing (choose i s.a z) (choose_may c l i d s z))
  turn_case verb.For s fails on = enters_case P c l i d verb.For s fails on refl
  turn_case verb.LoopEnd s fails on = repeats_case P c l i d verb.LoopEnd s fails on (inl refl)
  turn_case verb.ExitLoop s fails on = exits_case P c l i d verb.ExitLoop s fails on (inr (inl refl))
  turn_case verb.NextLoop s fails on = repeats_case P c l i d verb.NextLoop s fails on (inr (inr refl))
  turn_case verb.OnError s fails on = on write.Nothing (flow.Arm s.c) (refl, refl)
  turn_case verb.OffError s fails on = on write.Nothing flow.Disarm refl
  turn_case verb.Bad s fails on = fails fault.Malformed tt
