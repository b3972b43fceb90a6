-- Handlers (request 6 of document 02, "ONERROR and OFFERROR"): which errors that are given are trapped and which stop the run, what either leaves, and what
-- sets the handler and the last error.
-- Assumes nothing.
use Rattle.std.specs.Prelude.{None, Some, Result, Err, Ok}
use Prim.Native.Nat.{ℕ, zero, suc, ◌≤◌}
use native.Mathlib.Omega.{arith}
use mathlib.Core.Path.{◌≡◌, refl, sym, ap, ◌∙◌, subst}
use mathlib.Core.Bool.{Bool, true, false, cond}
use mathlib.Core.Logic.{◌↔◌, ◌⊎◌, inl, inr}
use mathlib.Core.List.{List}
use lib.Dec.{ltb, eqb}
use Rattle.rules.specs.declared.Fault.{Fault}
use Rattle.rules.specs.declared.Fault.TheVariants as fault
use Rattle.rules.specs.Stops.{fault_number, Trappable}
use Rattle.rules.proofs.Five.{trapped_of}
use Rattle.rules.proofs.Walk.{cond_either}
use Rattle.rules_unit.specs.declared.Verb.TheVariants as verb
use Rattle.rules_unit.specs.Codes.{Code}
use Rattle.rules_unit.specs.Decode.{decoded}
use Rattle.rules_unit.specs.Table.{verb_of, WritesA, Repeats}
use Rattle.rules_unit.proofs.Table.{code_of_lem}
use Rattle.rules_run.specs.declared.Flow.{Flow}
use Rattle.rules_run.specs.declared.Flow.TheVariants as flow
use Rattle.rules_run.specs.declared.State.{State}
use Rattle.rules_run.specs.declared.Turn.{Turn}
use Rattle.rules_run.specs.States.{called, returned, armed, caught_by, unhandled, look_of, error_at}
use Rattle.rules_run.specs.Turns.{turn_by, turn_of}
use Rattle.rules_run.specs.Runs.{Moved, to, stuck, trap_by, on_error, moved_by, led_by, next_of, data_after, Ran}
use Rattle.rules_run.specs.Answers.{Reaches, GivesHere, Gives, Does, Erred}
use Rattle.rules_run.proofs.Cases.{MayGo, turn_case}
use Rattle.rules_run.proofs.Jumps.{jumps_keep_data}
use Rattle.rules_run.proofs.OpenCalls.{full_exactly, none_exactly}
use Rattle.rules_run.proofs.Outside.{error_stores_nothing}
use Rattle.rules_run.proofs.Traps.{error_case, error_stops}

not_stuck : {t : State} {e : Fault} → to t ≡ stuck e → ⊥
not_stuck q = let z : ◌≡◌ {A = ℕ} 0 1 = cc in omega arith

one_error : {x e : Fault} → stuck x ≡ stuck e → x ≡ e
one_error q = cc

same_state : {x t : State} → to x ≡ to t → t ≡ x
same_state q = cc

not_24 : Trappable 24 → ⊥
not_24 (inl h) = omega (arith, h.1)
not_24 (inr e) = omega (arith, e)

not_25 : Trappable 25 → ⊥
not_25 (inl h) = omega (arith, h.1)
not_25 (inr e) = omega (arith, e)

-- ---- where a flow leads

module _ (n : ℕ) (s : State) where
  -- Where a flow stops without a handler, it leads with one where the error leads.
  moved_given : (f : Flow) (e : Fault) → moved_by n (unhandled s) f ≡ stuck e → moved_by n s f ≡ on_error s e
  unfolding moved_by
  moved_given flow.Next e q = absurd (not_stuck q)
  moved_given (flow.Goto i) e q = absurd (not_stuck q)
  moved_given (flow.Call i) e q = by (ltb s.depth 50) q
    where
      by : (b : Bool) → cond b (to (called (unhandled s) i)) (stuck fault.CallsFull) ≡ stuck e → cond b (to (called s i)) (stuck fault.CallsFull) ≡ on_error s e
      by true q = absurd (not_stuck q)
      by false q = ap (on_error s) (one_error q)
  moved_given flow.Return e q = by (eqb s.depth 0) q
    where
      by : (b : Bool) → cond b (stuck fault.NoCall) (to (returned (unhandled s))) ≡ stuck e → cond b (stuck fault.NoCall) (to (returned s)) ≡ on_error s e
      by true q = ap (on_error s) (one_error q)
      by false q = absurd (not_stuck q)
  moved_given flow.Stop e q = absurd (not_stuck q)
  moved_given (flow.Enter limit step) e q = absurd (not_stuck q)
  moved_given (flow.Leave i) e q = absurd (not_stuck q)
  moved_given (flow.Arm i) e q = absurd (not_stuck q)
  moved_given flow.Disarm e q = absurd (not_stuck q)

  led_given : (t : Result Turn Fault) (e : Fault) → led_by n (unhandled s) t ≡ stuck e → led_by n s t ≡ on_error s e
  led_given (Ok t) e q = moved_given t.flow e q
  led_given (Err x) e q = ap (on_error s) (one_error (sym (error_stops s x) ∙ q))

  -- Where it stops with a handler, it stops without one, and the handler would not have trapped it.
  moved_stuck : (f : Flow) (e : Fault) → moved_by n s f ≡ stuck e → (moved_by n (unhandled s) f ≡ stuck e) × (Trappable (fault_number e) → s.trap.handler ≡ None)
  unfolding moved_by
  moved_stuck flow.Next e q = absurd (not_stuck q)
  moved_stuck (flow.Goto i) e q = absurd (not_stuck q)
  moved_stuck (flow.Call i) e q = by (ltb s.depth 50) q
    where
      never : stuck fault.CallsFull ≡ stuck e → Trappable (fault_number e) → ⊥
      never q z = not_24 (subst (λ (x : Fault). Trappable (fault_number x)) (sym (one_error q)) z)

      by : (b : Bool) → cond b (to (called s i)) (stuck fault.CallsFull) ≡ stuck e
          → (cond b (to (called (unhandled s) i)) (stuck fault.CallsFull) ≡ stuck e) × (Trappable (fault_number e) → s.trap.handler ≡ None)
      by true q = absurd (not_stuck q)
      by false q = (q, λ z. absurd (never q z))
  moved_stuck flow.Return e q = by (eqb s.depth 0) q
    where
      never : stuck fault.NoCall ≡ stuck e → Trappable (fault_number e) → ⊥
      never q z = not_25 (subst (λ (x : Fault). Trappable (fault_number x)) (sym (one_error q)) z)

      by : (b : Bool) → cond b (stuck fault.NoCall) (to (returned s)) ≡ stuck e
          → (cond b (stuck fault.NoCall) (to (returned (unhandled s))) ≡ stuck e) × (Trappable (fault_number e) → s.trap.handler ≡ None)
      by true q = (q, λ z. absurd (never q z))
      by false q = absurd (not_stuck q)
  moved_stuck flow.Stop e q = absurd (not_stuck q)
  moved_stuck (flow.Enter limit step) e q = absurd (not_stuck q)
  moved_stuck (flow.Leave i) e q = absurd (not_stuck q)
  moved_stuck (flow.Arm i) e q = absurd (not_stuck q)
  moved_stuck flow.Disarm e q = absurd (not_stuck q)

  led_stuck : (t : Result Turn Fault) (e : Fault) → led_by n s t ≡ stuck e → (led_by n (unhandled s) t ≡ stuck e) × (Trappable (fault_number e) → s.trap.handler ≡ None)
  led_stuck (Ok t) e q = moved_stuck t.flow e q
  led_stuck (Err x) e q =
      error_case (λ m. m ≡ stuck e → (on_error (unhandled s) x ≡ stuck e) × (Trappable (fault_number e) → s.trap.handler ≡ None)) s x
      (λ h p. (error_stops s x ∙ p, subst (λ (y : Fault). Trappable (fault_number y) → s.trap.handler ≡ None) (one_error p) h)) (λ i h r p. absurd (not_stuck p)) q

  -- A flow leaves the last error as it was.
  moved_tells : (t : State) (f : Flow) → moved_by n s f ≡ to t → t.trap.caught ≡ s.trap.caught
  unfolding moved_by
  moved_tells t flow.Next q = ap (λ (x : State). x.trap.caught) (same_state q)
  moved_tells t (flow.Goto i) q = ap (λ (x : State). x.trap.caught) (same_state q)
  moved_tells t (flow.Call i) q = by (ltb s.depth 50) q
    where
      by : (b : Bool) → cond b (to (called s i)) (stuck fault.CallsFull) ≡ to t → t.trap.caught ≡ s.trap.caught
      by true q = ap (λ (x : State). x.trap.caught) (same_state q)
      by false q = absurd (not_stuck (sym q))
  moved_tells t flow.Return q = by (eqb s.depth 0) q
    where
      by : (b : Bool) → cond b (stuck fault.NoCall) (to (returned s)) ≡ to t → t.trap.caught ≡ s.trap.caught
      by true q = absurd (not_stuck (sym q))
      by false q = ap (λ (x : State). x.trap.caught) (same_state q)
  moved_tells t flow.Stop q = ap (λ (x : State). x.trap.caught) (same_state q)
  moved_tells t (flow.Enter limit step) q = ap (λ (x : State). x.trap.caught) (same_state q)
  moved_tells t (flow.Leave i) q = ap (λ (x : State). x.trap.caught) (same_state q)
  moved_tells t (flow.Arm i) q = ap (λ (x : State). x.trap.caught) (same_state q)
  moved_tells t flow.Disarm q = ap (λ (x : State). x.trap.caught) (same_state q)

  -- The last error is as it was, or it is the one that was given and trapped here.
  abbrev Tells : State → Result Turn Fault → Type 0
  Tells t r = (t.trap.caught ≡ s.trap.caught) ⊎ ((e : Fault) × (led_by n (unhandled s) r ≡ stuck e) × (t.trap.caught ≡ error_at (fault_number e) s.at))

  led_tells : (t : State) (r : Result Turn Fault) → led_by n s r ≡ to t → Tells t r
  led_tells t (Ok r) q = inl (moved_tells t r.flow q)
  led_tells t (Err x) q =
      error_case (λ m. m ≡ to t → Tells t (Err x)) s x (λ h p. absurd (not_stuck (sym p)))
      (λ i h r p. inr (x, error_stops s x, ap (λ (y : State). y.trap.caught) (same_state p))) q

  -- An error is given by the open calls, or by the statement itself.
  moved_why : (f : Flow) (e : Fault) → moved_by n s f ≡ stuck e → (e ≡ fault.CallsFull) ⊎ (e ≡ fault.NoCall)
  unfolding moved_by
  moved_why flow.Next e q = absurd (not_stuck q)
  moved_why (flow.Goto i) e q = absurd (not_stuck q)
  moved_why (flow.Call i) e q =
      inl (cond_either (λ m. m ≡ stuck e → e ≡ fault.CallsFull) (ltb s.depth 50) (to (called s i)) (stuck fault.CallsFull) (λ p. absurd (not_stuck p)) (λ p. sym (one_error p)) q)
  moved_why flow.Return e q =
      inr (cond_either (λ m. m ≡ stuck e → e ≡ fault.NoCall) (eqb s.depth 0) (stuck fault.NoCall) (to (returned s)) (λ p. sym (one_error p)) (λ p. absurd (not_stuck p)) q)
  moved_why flow.Stop e q = absurd (not_stuck q)
  moved_why (flow.Enter limit step) e q = absurd (not_stuck q)
  moved_why (flow.Leave i) e q = absurd (not_stuck q)
  moved_why (flow.Arm i) e q = absurd (not_stuck q)
  moved_why flow.Disarm e q = absurd (not_stuck q)

  led_why : (t : Result Turn Fault) (e : Fault) → led_by n s t ≡ stuck e → (t ≡ Err e) ⊎ ((e ≡ fault.CallsFull) ⊎ (e ≡ fault.NoCall))
  led_why (Ok t) e q = inr (moved_why t.flow e q)
  led_why (Err x) e q =
      inl (error_case (λ m. m ≡ stuck e → ◌≡◌ {A = Result Turn Fault} (Err x) (Err e)) s x (λ h p. ap Err (one_error p)) (λ i h r p. absurd (not_stuck p)) q)

module _ (c : Code) (s : State) (d : List ℕ) where
  abbrev code : ℕ
  code = (c.statement s.at).code

  -- ---- an error that is given

  pub given_leads : (e : Fault) → GivesHere c s d e → next_of c s d ≡ on_error s e
  given_leads e = led_given c.statements s (turn_of c (look_of s) s.at d) e

  pub stops_exactly : (e : Fault) → (next_of c s d ≡ stuck e) ↔ GivesHere c s d e × (Trappable (fault_number e) → s.trap.handler ≡ None)
  stops_exactly e = (
    led_stuck c.statements s (turn_of c (look_of s) s.at d) e,
    λ h. given_leads e h.0 ∙ error_case (λ m. m ≡ stuck e) s e (λ z. refl) (λ i q r. absurd (none_not i (sym (h.1 r) ∙ q))),
  )
    where
      none_not : (i : ℕ) → None ≡ Some i → ⊥
      none_not i q = let z : ◌≡◌ {A = ℕ} 0 1 = cc in omega arith

  pub traps_exactly : (e : Fault) → GivesHere c s d e → (t : State)
      → (next_of c s d ≡ to t) ↔ Trappable (fault_number e) × (i : ℕ) × (s.trap.handler ≡ Some i) × (t ≡ caught_by s (fault_number e) i)
  traps_exactly e g t = (
    λ q. error_case (λ m. m ≡ to t → Trappable (fault_number e) × (i : ℕ) × (s.trap.handler ≡ Some i) × (t ≡ caught_by s (fault_number e) i)) s e
        (λ h p. absurd (not_stuck (sym p))) (λ i h r p. (r, i, h, same_state p)) (sym (given_leads e g) ∙ q),
    λ h. given_leads e g ∙ rw (trapped_of (fault_number e) h.0) (ap (trap_by s e) h.2 ∙ ap to (sym h.3)),
  )

  -- "leaves the data as that statement found it"
  pub given_keeps_data : (e : Fault) → GivesHere c s d e → data_after c s d ≡ d
  given_keeps_data e g = by (led_why c.statements (unhandled s) (turn_of c (look_of s) s.at d) e g)
    where
      no_store : (k : ℕ) → 7 ≤ k → k ≤ 12 → code ≡ k → WritesA code → ⊥
      no_store k l m q (inl h) = omega (arith, h.1)
      no_store k l m q (inr (inl h)) = omega (arith, h)
      no_store k l m q (inr (inr h)) = omega (arith, h)

      no_pass : (k : ℕ) → k ≤ 12 → code ≡ k → Repeats code → ⊥
      no_pass k m q (inl h) = omega (arith, h)
      no_pass k m q (inr h) = omega (arith, h)

      jump : (k : ℕ) → 7 ≤ k → k ≤ 12 → code ≡ k → data_after c s d ≡ d
      jump k l m q = jumps_keep_data c s d (no_store k l m q) (no_pass k m q)

      by : (turn_of c (look_of s) s.at d ≡ Err e) ⊎ ((e ≡ fault.CallsFull) ⊎ (e ≡ fault.NoCall)) → data_after c s d ≡ d
      by (inl q) = error_stores_nothing c (look_of s) s.at d e q
      by (inr (inl q)) = jump 9 (omega arith) (omega arith) ((full_exactly c (unhandled s) d).0 (g ∙ ap stuck q)).0
      by (inr (inr q)) = jump 10 (omega arith) (omega arith) ((none_exactly c (unhandled s) d).0 (g ∙ ap stuck q)).0

  -- ---- the handler

  pub on_error_arms : code ≡ 18 → next_of c s d ≡ to (armed s (Some (c.statement s.at).c))
  unfolding turn_of turn_by verb_of moved_by
  on_error_arms e = rw e

  pub off_error_disarms : code ≡ 19 → next_of c s d ≡ to (armed s None)
  unfolding turn_of turn_by verb_of moved_by
  off_error_disarms e = rw e

  abbrev MovedKeeps : Moved → Type 0
  MovedKeeps (to t) = t.trap.handler ≡ s.trap.handler
  MovedKeeps (stuck f) = Unit {0}

  module _ (x : code ≡ 18 → ⊥) (y : code ≡ 19 → ⊥) where
    may_keep : (f : Flow) → MayGo c (look_of s) s.at d (verb_of code) (c.statement s.at) f → MovedKeeps (moved_by c.statements s f)
    unfolding moved_by
    may_keep flow.Next m = refl
    may_keep (flow.Goto t) m = refl
    may_keep (flow.Call t) m = cond_either MovedKeeps (ltb s.depth 50) (to (called s t)) (stuck fault.CallsFull) refl tt
    may_keep flow.Return m = cond_either MovedKeeps (eqb s.depth 0) (stuck fault.NoCall) (to (returned s)) tt refl
    may_keep flow.Stop m = refl
    may_keep (flow.Enter limit step) m = refl
    may_keep (flow.Leave t) m = refl
    may_keep (flow.Arm t) m = absurd (x (code_of_lem code verb.OnError (omega arith) m.0))
    may_keep flow.Disarm m = absurd (y (code_of_lem code verb.OffError (omega arith) m))

    others_keep : MovedKeeps (next_of c s d)
    unfolding turn_of moved_by
    others_keep =
        turn_case (λ t. MovedKeeps (led_by c.statements s t)) c (look_of s) s.at d (verb_of code) (c.statement s.at)
        (λ e m. error_case MovedKeeps s e (λ z. tt) (λ i q r. refl)) (λ w f m. may_keep f m)

    -- A statement that is completed, and is neither ONERROR nor OFFERROR, keeps the handler.
    pub handler_kept : (t : State) → next_of c s d ≡ to t → t.trap.handler ≡ s.trap.handler
    handler_kept t e = subst MovedKeeps e others_keep

  -- ---- the last error

  pub step_tells : (t : State) → next_of c s d ≡ to t → (t.trap.caught ≡ s.trap.caught) ⊎ ((e : Fault) × GivesHere c s d e × (t.trap.caught ≡ error_at (fault_number e) s.at))
  step_tells t = led_tells c.statements s t (turn_of c (look_of s) s.at d)

  pub completed_keeps : ((e : Fault) → GivesHere c s d e → ⊥) → (t : State) → next_of c s d ≡ to t → t.trap.caught ≡ s.trap.caught
  completed_keeps h t q = by (step_tells t q)
    where
      by : (t.trap.caught ≡ s.trap.caught) ⊎ ((e : Fault) × GivesHere c s d e × (t.trap.caught ≡ error_at (fault_number e) s.at)) → t.trap.caught ≡ s.trap.caught
      by (inl e) = e
      by (inr (e, g, p)) = absurd (h e g)

-- ---- in a run

abbrev pub TellsGiven : Code → ℕ → State → List ℕ → State → Type 0
TellsGiven c m s d t = (t.trap.caught ≡ s.trap.caught) ⊎ ((e : Fault) × (g : Gives c m s d e) × (t.trap.caught ≡ error_at (fault_number e) g.at.at))

-- The last error is as it was, or it was given by one of the statements completed.
pub reached_tells : (c : Code) (k : ℕ) (s : State) (d : List ℕ) (t : State) (x : List ℕ) → Reaches c k s d t x → TellsGiven c k s d t
reached_tells c zero s d t x (p, q) = inl (ap (λ (y : State). y.trap.caught) (sym p))
reached_tells c (suc k) s d t x (l, (y, (q, r))) = by (reached_tells c k y (data_after c s d) t x r)
  where
    here : t.trap.caught ≡ y.trap.caught → (y.trap.caught ≡ s.trap.caught) ⊎ ((e : Fault) × GivesHere c s d e × (y.trap.caught ≡ error_at (fault_number e) s.at)) → TellsGiven c (suc k) s d t
    here p (inl w) = inl (p ∙ w)
    here p (inr (e, g, w)) = inr (e, record { done = 0; fewer = omega arith; at = s; seen = d; reached = (refl, refl); low = l; here = g }, p ∙ w)

    by : TellsGiven c k y (data_after c s d) t → TellsGiven c (suc k) s d t
    by (inl p) = here p (step_tells c s d y q)
    by (inr (e, g, p)) =
        inr
        (e, record { done = suc g.done; fewer = omega (arith, g.fewer); at = g.at; seen = g.seen; reached = (l, (y, (q, g.reached))); low = g.low; here = g.here }, p)

-- So it is of a call, within its allowance: one that is refused leaves it.
pub call_tells : (u d : List ℕ) (s : State) (m : ℕ) (r : Ran) → Does u d s m r → TellsGiven (decoded u) m s d r.outcome.state
call_tells u d s m r (inl x) = inl (ap (λ (y : State). y.trap.caught) x.unchanged.state_kept)
call_tells u d s m r (inr (y, x)) = by (reached_tells (decoded u) r.outcome.count s d r.outcome.state r.bytes x.reached)
  where
    by : TellsGiven (decoded u) r.outcome.count s d r.outcome.state → TellsGiven (decoded u) m s d r.outcome.state
    by (inl e) = inl e
    by (inr (e, g, p)) =
        inr
        (e, record { done = g.done; fewer = omega (arith, g.fewer, x.allowed); at = g.at; seen = g.seen; reached = g.reached; low = g.low; here = g.here }, p)

-- An error that ended a run was given, by the statement where the run ended.
pub erred_gives : (c : Code) (m : ℕ) (s : State) (d : List ℕ) (n : ℕ) (r : Ran) → Erred c m s d n r
    → (e : Fault) × (g : Gives c m s d e) × (fault_number e ≡ n) × (g.at ≡ r.outcome.state) × (g.seen ≡ r.bytes)
erred_gives c m s d n r x = (
  x.fault,
  record {
    done = r.outcome.count;
    fewer = x.fewer;
    at = r.outcome.state;
    seen = r.bytes;
    reached = x.reached;
    low = x.low;
    here = ((stops_exactly c r.outcome.state r.bytes x.fault).0 x.gives).0;
  },
  x.number,
  refl,
  refl,
)
