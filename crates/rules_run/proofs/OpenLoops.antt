-- The open loops (request 4 of document 02, "FOR loops"): what FOR, a loop end, EXITLOOP and NEXTLOOP do to them and to the data, and that no other
-- statement does anything to them; 27, 28 and 29 are given exactly where the request says.
-- Assumes nothing.
use Rattle.std.specs.Prelude.{Err, Ok, Result}
use Prim.Native.Nat.{ℕ, ◌+◌, ◌-◌, ◌^◌, ◌<◌, ◌≤◌}
use native.Mathlib.Omega.{arith}
use mathlib.Core.Path.{◌≡◌, refl, ap, ◌∙◌, subst}
use mathlib.Core.Bool.{true, false}
use mathlib.Core.Logic.{◌↔◌, ◌⊎◌, inl, inr}
use mathlib.Core.List.{List}
use lib.Dec.{ltb, eqb}
use lib.IntN.{ℤ, nat_abs}
use lib.ListN.{get_or, set}
use borrow.Author.Tests.{lt-ltb, le-ltb, eq-eqb, ne_eqb}
use Rattle.rules.specs.declared.Fault.{Fault}
use Rattle.rules.specs.declared.Fault.TheVariants as fault
use Rattle.rules.specs.Stops.{fault_number}
use Rattle.rules.specs.Arithmetic.{add_of}
use Rattle.rules.specs.Moves.{written}
use Rattle.rules.proofs.Walk.{cond_either}
use Rattle.rules_unit.specs.declared.Statement.{Statement}
use Rattle.rules_unit.specs.declared.Verb.TheVariants as verb
use Rattle.rules_unit.specs.Codes.{Code}
use Rattle.rules_unit.specs.Expressions.{next_at}
use Rattle.rules_unit.specs.Table.{verb_of, Repeats, OnLoop}
use Rattle.rules_unit.proofs.Table.{code_of_lem}
use Rattle.rules_run.specs.declared.Flow.{Flow}
use Rattle.rules_run.specs.declared.Flow.TheVariants as flow
use Rattle.rules_run.specs.declared.Look.{Look}
use Rattle.rules_run.specs.declared.State.{State}
use Rattle.rules_run.specs.declared.Turn.{Turn}
use Rattle.rules_run.specs.declared.Worked.TheVariants as worked
use Rattle.rules_run.specs.declared.Write.TheVariants as write
use Rattle.rules_run.specs.Evaluation.{read_at, worked_of, value_at}
use Rattle.rules_run.specs.States.{no_loop, gone, called, returned, look_of}
use Rattle.rules_run.specs.Turns.{stored, applied, turn, goes, testb, enter_flow, enter_by, enters, Entry, entry_of, pass_flow, repeats, Pass, exits, turn_by, turn_of}
use Rattle.rules_run.specs.Runs.{Moved, to, stuck, moved_by, led_by, next_of, data_after}
use Rattle.rules_run.specs.Answers.{GivesHere}
use Rattle.rules_run.proofs.Cases.{ActsOnLoop, MayFail, MayGo, turn_case}
use Rattle.rules_run.proofs.Traps.{error_case, fails_here}

-- The loop opened last, where k + 1 are open.
pub last_loop : (s : State) (k : ℕ) → s.opened ≡ k + 1 → (look_of s).last ≡ get_or s.loops k no_loop
last_loop s k e =
    let q : s.opened - 1 ≡ k = omega arith in
    rw (ne_eqb s.opened 0 (λ z. omega arith)) (ap (λ (x : ℕ). get_or s.loops x no_loop) q)

-- The first that fails is reported.
module _ (c : Code) (l : Look) (d : List ℕ) (o : l.opened ≡ 0 → ⊥) (f : Fault) where
  repeats_place_fails : worked_of c d (c.items (entry_of c l).a) ≡ Err f → repeats c l d ≡ Err f
  unfolding repeats
  repeats_place_fails e = rw (ne_eqb l.opened 0 o, e)

  module _ (a n : ℕ) (found : worked_of c d (c.items (entry_of c l).a) ≡ Ok (worked.Place true a n)) where
    repeats_read_fails : read_at c d a n ≡ Err f → repeats c l d ≡ Err f
    unfolding repeats
    repeats_read_fails e = rw (ne_eqb l.opened 0 o, found, e)

    repeats_sum_fails : (x : ℤ) → read_at c d a n ≡ Ok x → add_of c.dialect.top x l.last.step ≡ Err f → repeats c l d ≡ Err f
    unfolding repeats
    repeats_sum_fails x r e = rw (ne_eqb l.opened 0 o, found, r, e)

-- A pass of the loop opened last, which l shows.
module _ (c : Code) (l : Look) (d : List ℕ) (o : l.opened ≡ 0 → ⊥) (p : Pass c l d) where
  repeats_long : 10 ^ p.n ≤ nat_abs p.v → repeats c l d ≡ Err fault.TooLong
  unfolding repeats
  repeats_long h = rw (ne_eqb l.opened 0 o, p.found, p.reads, p.adds, le-ltb (nat_abs p.v) (10 ^ p.n) h)

  repeats_fits : nat_abs p.v < 10 ^ p.n → repeats c l d ≡ Ok (turn (write.Number p.a p.n p.v) (pass_flow c l p.v))
  unfolding repeats
  repeats_fits h = rw (ne_eqb l.opened 0 o, p.found, p.reads, p.adds, lt-ltb (nat_abs p.v) (10 ^ p.n) h)

exits_open : (c : Code) (l : Look) → (l.opened ≡ 0 → ⊥) → exits c l ≡ goes (flow.Leave ((entry_of c l).c + 1))
unfolding exits
exits_open c l o = rw (ne_eqb l.opened 0 o)

pub repeats_none : (c : Code) (l : Look) (d : List ℕ) → l.opened ≡ 0 → repeats c l d ≡ Err fault.NoLoop
unfolding repeats
repeats_none c l d e = rw (eq-eqb l.opened 0 e)

pub exits_none : (c : Code) (l : Look) → l.opened ≡ 0 → exits c l ≡ Err fault.NoLoop
unfolding exits
exits_none c l e = rw (eq-eqb l.opened 0 e)

module _ (c : Code) (s : State) (d : List ℕ) where
  abbrev here : Statement
  here = c.statement s.at

  -- ---- FOR

  pub for_full : here.code ≡ 14 → 16 ≤ s.opened → next_of c s d ≡ stuck fault.LoopsFull
  unfolding turn_of turn_by verb_of moved_by enters
  for_full q h = rw (q, le-ltb s.opened 16 h)

  -- "On entry the control place is found, then start, limit and step are worked out once, in that order.": the first that fails is reported.
  module _ (q : here.code ≡ 14) (o : s.opened < 16) (f : Fault) where
    pub for_place_fails : worked_of c d (c.items here.a) ≡ Err f → GivesHere c s d f
    unfolding turn_of turn_by verb_of enters
    for_place_fails e = fails_here c s d f (rw (q, lt-ltb s.opened 16 o, e))

    module _ (a n : ℕ) (found : worked_of c d (c.items here.a) ≡ Ok (worked.Place true a n)) where
      pub for_start_fails : value_at c d here.b ≡ Err f → GivesHere c s d f
      unfolding turn_of turn_by verb_of enters
      for_start_fails e = fails_here c s d f (rw (q, lt-ltb s.opened 16 o, found, e))

      pub for_limit_fails : (start : ℤ) → value_at c d here.b ≡ Ok start → value_at c d (next_at c here.b) ≡ Err f → GivesHere c s d f
      unfolding turn_of turn_by verb_of enters
      for_limit_fails start x e = fails_here c s d f (rw (q, lt-ltb s.opened 16 o, found, x, e))

      pub for_step_fails : (start limit : ℤ) → value_at c d here.b ≡ Ok start → value_at c d (next_at c here.b) ≡ Ok limit
          → value_at c d (next_at c (next_at c here.b)) ≡ Err f
          → GivesHere c s d f
      unfolding turn_of turn_by verb_of enters
      for_step_fails start limit x y e = fails_here c s d f (rw (q, lt-ltb s.opened 16 o, found, x, y, e))

  module _ (q : here.code ≡ 14) (o : s.opened < 16) (e : Entry c d here) where
    -- What it answers where the place is found, and start, limit and step are to be had.
    for_turn : turn_of c (look_of s) s.at d ≡ enter_by here.c e.a e.n e.start e.limit e.step
    unfolding turn_of turn_by verb_of enters
    for_turn = rw (q, lt-ltb s.opened 16 o, e.found, e.starts, e.ends, e.steps)

    pub for_zero : nat_abs e.step ≡ 0 → next_of c s d ≡ stuck fault.ZeroStep
    unfolding moved_by
    for_zero z = rw (for_turn, eq-eqb (nat_abs e.step) 0 z)

    module _ (moves : nat_abs e.step ≡ 0 → ⊥) where
      pub for_long : 10 ^ e.n ≤ nat_abs e.start → GivesHere c s d fault.TooLong
      for_long h = fails_here c s d fault.TooLong (rw (for_turn, ne_eqb (nat_abs e.step) 0 moves, le-ltb (nat_abs e.start) (10 ^ e.n) h))

      module _ (fits : nat_abs e.start < 10 ^ e.n) where
        for_fits : turn_of c (look_of s) s.at d ≡ Ok (turn (write.Number e.a e.n e.start) (enter_flow here.c e.start e.limit e.step))
        for_fits = rw (for_turn, ne_eqb (nat_abs e.step) 0 moves, lt-ltb (nat_abs e.start) (10 ^ e.n) fits)

        pub for_stores : data_after c s d ≡ stored d e.a (written c.dialect.sign e.n e.start)
        unfolding applied
        for_stores = rw for_fits

        pub for_opens : testb e.start e.limit e.step ≡ true
            → next_of c s d
            ≡ to (record { at = s.at + 1; depth = s.depth; returns = s.returns; opened = s.opened + 1; loops = set s.loops s.opened (record { entry = s.at; limit = e.limit; step = e.step }); trap = s.trap })
        unfolding moved_by
        for_opens t = rw (for_fits, t)

        pub for_skips : testb e.start e.limit e.step ≡ false → next_of c s d ≡ to (gone s (here.c + 1))
        unfolding moved_by
        for_skips t = rw (for_fits, t)

  -- ---- loop end, NEXTLOOP, EXITLOOP

  -- Where the statement leads, by its turn.
  leads : (t : Result Turn Fault) → turn_of c (look_of s) s.at d ≡ t → next_of c s d ≡ led_by c.statements s t
  leads t e = ap (led_by c.statements s) e

  repeats_turn : Repeats here.code → turn_of c (look_of s) s.at d ≡ repeats c (look_of s) d
  unfolding turn_of turn_by verb_of
  repeats_turn (inl q) = rw q
  repeats_turn (inr q) = rw q

  exits_turn : here.code ≡ 16 → turn_of c (look_of s) s.at d ≡ exits c (look_of s)
  unfolding turn_of turn_by verb_of
  exits_turn q = rw q

  -- The place is found, then read, then the step is added: the first that fails is reported.
  module _ (q : Repeats here.code) (o : s.opened ≡ 0 → ⊥) (f : Fault) where
    pub pass_place_fails : worked_of c d (c.items (entry_of c (look_of s)).a) ≡ Err f → GivesHere c s d f
    pass_place_fails e = fails_here c s d f (repeats_turn q ∙ repeats_place_fails c (look_of s) d o f e)

    module _ (a n : ℕ) (found : worked_of c d (c.items (entry_of c (look_of s)).a) ≡ Ok (worked.Place true a n)) where
      pub pass_read_fails : read_at c d a n ≡ Err f → GivesHere c s d f
      pass_read_fails e = fails_here c s d f (repeats_turn q ∙ repeats_read_fails c (look_of s) d o f a n found e)

      pub pass_sum_fails : (x : ℤ) → read_at c d a n ≡ Ok x → add_of c.dialect.top x (look_of s).last.step ≡ Err f → GivesHere c s d f
      pass_sum_fails x r e = fails_here c s d f (repeats_turn q ∙ repeats_sum_fails c (look_of s) d o f a n found x r e)

  module _ (q : Repeats here.code) (o : s.opened ≡ 0 → ⊥) (p : Pass c (look_of s) d) where
    pub pass_long : 10 ^ p.n ≤ nat_abs p.v → GivesHere c s d fault.TooLong
    pass_long h = fails_here c s d fault.TooLong (repeats_turn q ∙ repeats_long c (look_of s) d o p h)

    module _ (fits : nat_abs p.v < 10 ^ p.n) where
      pass_turn : turn_of c (look_of s) s.at d ≡ Ok (turn (write.Number p.a p.n p.v) (pass_flow c (look_of s) p.v))
      pass_turn = repeats_turn q ∙ repeats_fits c (look_of s) d o p fits

      pub pass_stores : data_after c s d ≡ stored d p.a (written c.dialect.sign p.n p.v)
      unfolding applied
      pass_stores = rw pass_turn

      pub pass_again : testb p.v (look_of s).last.limit (look_of s).last.step ≡ true → next_of c s d ≡ to (gone s ((look_of s).last.entry + 1))
      unfolding moved_by
      pass_again t = rw (pass_turn, t)

      pub pass_leaves : testb p.v (look_of s).last.limit (look_of s).last.step ≡ false
          → next_of c s d
          ≡ to (record { at = (entry_of c (look_of s)).c + 1; depth = s.depth; returns = s.returns; opened = s.opened - 1; loops = set s.loops (s.opened - 1) no_loop; trap = s.trap })
      unfolding moved_by
      pass_leaves t = rw (pass_turn, t)

  pub exit_leaves : here.code ≡ 16 → (s.opened ≡ 0 → ⊥)
      → next_of c s d
      ≡ to (record { at = (entry_of c (look_of s)).c + 1; depth = s.depth; returns = s.returns; opened = s.opened - 1; loops = set s.loops (s.opened - 1) no_loop; trap = s.trap })
  unfolding moved_by
  exit_leaves q o = leads (goes (flow.Leave ((entry_of c (look_of s)).c + 1))) (exits_turn q ∙ exits_open c (look_of s) o)

  pub loop_none : OnLoop here.code → s.opened ≡ 0 → next_of c s d ≡ stuck fault.NoLoop
  unfolding moved_by
  loop_none (inl q) e = leads (Err fault.NoLoop) (repeats_turn (inl q) ∙ repeats_none c (look_of s) d e)
  loop_none (inr (inl q)) e = leads (Err fault.NoLoop) (exits_turn q ∙ exits_none c (look_of s) e)
  loop_none (inr (inr q)) e = leads (Err fault.NoLoop) (repeats_turn (inr q) ∙ repeats_none c (look_of s) d e)

  -- ---- 27, 28 and 29

  -- A fault that the statement may give, by itself or by where it leads.
  abbrev Fails : Fault → Type 0
  Fails e = MayFail c (look_of s) d (verb_of here.code) here e

  abbrev MovedFails : Moved → Type 0
  MovedFails (to t) = Unit {0}
  MovedFails (stuck f) = (fault_number f ≡ 24) ⊎ ((fault_number f ≡ 25) ⊎ Fails f)

  may_fail : (f : Flow) → MayGo c (look_of s) s.at d (verb_of here.code) here f → MovedFails (moved_by c.statements s f)
  unfolding moved_by
  may_fail flow.Next m = tt
  may_fail (flow.Goto t) m = tt
  may_fail (flow.Call t) m = cond_either MovedFails (ltb s.depth 50) (to (called s t)) (stuck fault.CallsFull) tt (inl refl)
  may_fail flow.Return m = cond_either MovedFails (eqb s.depth 0) (stuck fault.NoCall) (to (returned s)) (inr (inl refl)) tt
  may_fail flow.Stop m = tt
  may_fail (flow.Enter limit step) m = tt
  may_fail (flow.Leave t) m = tt
  may_fail (flow.Arm t) m = tt
  may_fail flow.Disarm m = tt

  next_fails : MovedFails (next_of c s d)
  unfolding turn_of moved_by
  next_fails =
      turn_case (λ t. MovedFails (led_by c.statements s t)) c (look_of s) s.at d (verb_of here.code) here (λ e m. error_case MovedFails s e (λ z. inr (inr m)) (λ i q r. tt)) (λ w f m. may_fail f m)

  why : (f : Fault) → (fault_number f ≡ 24 → ⊥) → (fault_number f ≡ 25 → ⊥) → next_of c s d ≡ stuck f → Fails f
  why f x y e = by (subst MovedFails e next_fails)
    where
      by : (fault_number f ≡ 24) ⊎ ((fault_number f ≡ 25) ⊎ Fails f) → Fails f
      by (inl q) = absurd (x q)
      by (inr (inl q)) = absurd (y q)
      by (inr (inr h)) = h

  -- "27 zero step"
  pub zero_exactly : (next_of c s d ≡ stuck fault.ZeroStep) ↔ (here.code ≡ 14) × (s.opened < 16) × (e : Entry c d here) × (nat_abs e.step ≡ 0)
  zero_exactly = (
    λ q. let h = why fault.ZeroStep (λ z. omega (arith, z)) (λ z. omega (arith, z)) q in (code_of_lem here.code verb.For (omega arith) h.0, h.1, h.2, h.3),
    λ h. for_zero h.0 h.1 h.2 h.3,
  )

  -- "28 more than 16 open loops"
  pub loops_exactly : (next_of c s d ≡ stuck fault.LoopsFull) ↔ (here.code ≡ 14) × (16 ≤ s.opened)
  loops_exactly = (
    λ q. let h = why fault.LoopsFull (λ z. omega (arith, z)) (λ z. omega (arith, z)) q in (code_of_lem here.code verb.For (omega arith) h.0, h.1),
    λ h. for_full h.0 h.1,
  )

  on_code : ActsOnLoop (verb_of here.code) → OnLoop here.code
  on_code (inl e) = inl (code_of_lem here.code verb.LoopEnd (omega arith) e)
  on_code (inr (inl e)) = inr (inl (code_of_lem here.code verb.ExitLoop (omega arith) e))
  on_code (inr (inr e)) = inr (inr (code_of_lem here.code verb.NextLoop (omega arith) e))

  -- "29 loop end, EXITLOOP or NEXTLOOP with no loop open"
  pub no_loop_exactly : (next_of c s d ≡ stuck fault.NoLoop) ↔ OnLoop here.code × (s.opened ≡ 0)
  no_loop_exactly = (
    λ q. let h = why fault.NoLoop (λ z. omega (arith, z)) (λ z. omega (arith, z)) q in (on_code h.0, h.1),
    λ h. loop_none h.0 h.1,
  )

  -- ---- any other statement

  -- The open loops stay.
  abbrev MovedKeeps : Moved → Type 0
  MovedKeeps (to t) = (t.opened ≡ s.opened) × (t.loops ≡ s.loops)
  MovedKeeps (stuck f) = Unit {0}

  module _ (x : here.code ≡ 14 → ⊥) (y : OnLoop here.code → ⊥) where
    may_keep : (f : Flow) → MayGo c (look_of s) s.at d (verb_of here.code) here f → MovedKeeps (moved_by c.statements s f)
    unfolding moved_by
    may_keep flow.Next m = (refl, refl)
    may_keep (flow.Goto t) m = (refl, refl)
    may_keep (flow.Call t) m = cond_either MovedKeeps (ltb s.depth 50) (to (called s t)) (stuck fault.CallsFull) (refl, refl) tt
    may_keep flow.Return m = cond_either MovedKeeps (eqb s.depth 0) (stuck fault.NoCall) (to (returned s)) tt (refl, refl)
    may_keep flow.Stop m = (refl, refl)
    may_keep (flow.Enter limit step) m = absurd (x (code_of_lem here.code verb.For (omega arith) m.0))
    may_keep (flow.Leave t) m = absurd (y (on_code m.0))
    may_keep (flow.Arm t) m = (refl, refl)
    may_keep flow.Disarm m = (refl, refl)

    others_keep : MovedKeeps (next_of c s d)
    unfolding turn_of moved_by
    others_keep =
        turn_case (λ t. MovedKeeps (led_by c.statements s t)) c (look_of s) s.at d (verb_of here.code) here (λ e m. error_case MovedKeeps s e (λ z. tt) (λ i q r. (refl, refl))) (λ w f m. may_keep f m)

    -- A statement that is completed, and is none of a loop's, keeps the open loops.
    pub loops_kept : (t : State) → next_of c s d ≡ to t → (t.opened ≡ s.opened) × (t.loops ≡ s.loops)
    loops_kept t e = subst MovedKeeps e others_keep
