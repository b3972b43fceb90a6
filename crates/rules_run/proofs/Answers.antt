-- A call of the run, in the letter's words (document 01, "Stops and their numbers").
--   run_says, says_run      a run is exactly what RunSays says of it
--   call_exactly, does_exactly    a call is refused or run, and is exactly what is said of it
--   given_exactly           a number is given, and a place named, exactly as the table says
-- Assumes nothing.
use Rattle.std.specs.Prelude.{Result, Err, Ok}
use Rattle.rules_unit.specs.declared.Refusal.{Refusal}
use Rattle.rules_unit.specs.declared.Parts.{Parts}
use Prim.Native.Nat.{ℕ, zero, suc, ◌+◌, ◌<◌, ◌≤◌}
use native.Mathlib.Nat.{add-zero, zero-add, suc-add}
use native.Mathlib.Omega.{arith}
use mathlib.Core.Path.{◌≡◌, refl, sym, ap, ◌∙◌, subst}
use mathlib.Core.Bool.{Bool, true, false, cond}
use mathlib.Core.Logic.{◌↔◌, ◌⊎◌, inl, inr}
use mathlib.Core.List.{List}
use lib.Dec.{eqb}
use lib.ListN.{length}
use borrow.Author.Tests.{eqb-true, eqb-false}
use Rattle.rules.specs.declared.Fault.{Fault}
use Rattle.rules.specs.declared.Fault.TheVariants as fault
use Rattle.rules_unit.specs.declared.Refusal.TheVariants as refusal
use Rattle.rules_unit.specs.Codes.{Code}
use Rattle.rules_unit.specs.Decode.{parts_of, decoded}
use Rattle.rules_unit.specs.Checks.{check_of}
use Rattle.rules_unit.specs.Answers.{Says}
use Rattle.rules_unit.specs.Sound.{SoundUnit}
use Rattle.rules_unit.proofs.Tells.{tells_fails}
use Rattle.rules_unit.proofs.Sound.{passed_sound, sound_passed, check_says, check_only}
use Rattle.rules_run.specs.declared.State.{State}
use Rattle.rules_run.specs.declared.Stop.{Stop}
use Rattle.rules_run.specs.declared.Stop.TheVariants as stop
use Rattle.rules_run.specs.States.{soundb}
use Rattle.rules_run.specs.Stops.{stop_number, stop_place}
use Rattle.rules_run.specs.Runs.{data_after, Ran, ended, refused, run_from, run_of}
use Rattle.rules_run.specs.Answers.{Reaches, StopsFor, RunSays, Unchanged, Refuses, IsRefused, Ready, RunNumber, IsRun, Does, Erred, Stopped, StopNo, no_0, no_1, no_2, no_3, no_4, no_5, no_6, no_7, no_20, no_21, no_22, no_23, no_24, no_25, no_26, no_27, no_28, no_29, no_30, no_of, Given}
use Rattle.rules_run.proofs.States.{sound_tells, sound_to}
use Rattle.rules_run.proofs.Steps.{run_ends, run_spent, run_fails, run_goes, every_run}
use Rattle.rules_run.proofs.Calls.{call_refused, call_wrong_size, call_unsound, call_runs}
use Rattle.rules_run.proofs.SoundRuns.{passed_in}
use Rattle.rules_run.proofs.Malformed.{run_not_malformed}

-- ---- a run

module _ (c : Code) where
  -- After k statements that were completed before.
  record Went (m : ℕ) (s : State) (d : List ℕ) (k : ℕ) (r : Ran) : Type 0 where
    done : ℕ
    left : ℕ
    count : r.outcome.count ≡ k + done
    allowed : done + left ≡ m
    reached : Reaches c done s d r.outcome.state r.bytes
    stops : StopsFor c left r.outcome.state r.bytes r.outcome.stop
    place : r.outcome.place ≡ stop_place c.statements r.outcome.state.at r.outcome.stop

  went : (m : ℕ) (s : State) (d : List ℕ) (k : ℕ) → Went m s d k (run_from c m s d k)
  went =
      every_run c Went
      (λ m s d k h. record { done = zero; left = m; count = omega arith; allowed = omega arith; reached = (refl, refl); stops = h; place = refl })
      (λ s d k h. record { done = zero; left = zero; count = omega arith; allowed = omega arith; reached = (refl, refl); stops = (h, refl); place = refl })
      (λ m s d k f h q. record { done = zero; left = suc m; count = omega arith; allowed = omega arith; reached = (refl, refl); stops = (h, omega arith, q); place = refl })
      (λ m s s' d k r h q x.
      record {
        done = suc x.done;
        left = x.left;
        count = omega (arith, x.count);
        allowed = omega (arith, x.allowed);
        reached = (h, (s', (q, x.reached)));
        stops = x.stops;
        place = x.place;
      })

  run_says : (m : ℕ) (s : State) (d : List ℕ) → RunSays c m s d (run_from c m s d 0)
  run_says m s d =
      let r = run_from c m s d 0 in
      let x = went m s d 0 in
      let e : x.done ≡ r.outcome.count = omega (arith, x.count) in
      record {
        left = x.left;
        allowed = omega (arith, x.count, x.allowed);
        reached = subst (λ (k : ℕ). Reaches c k s d r.outcome.state r.bytes) e x.reached;
        stops = x.stops;
        place = x.place;
      }

  stops_run : (left : ℕ) (s : State) (d : List ℕ) (n : ℕ) (e : Stop) → StopsFor c left s d e → run_from c left s d n ≡ ended c.statements e s n d
  stops_run left s d n stop.End h = run_ends c s d n left h
  stops_run left s d n (stop.Refused x) h = absurd h
  stops_run left s d n stop.WrongSize h = absurd h
  stops_run left s d n stop.Unsound h = absurd h
  stops_run zero s d n (stop.Failed f) h = absurd (omega (arith, h.1))
  stops_run (suc left) s d n (stop.Failed f) h = run_fails c s d n left f h.0 h.2
  stops_run left s d n stop.Spent h = rw h.1 (run_spent c s d n h.0)

  pub reaches_run : (k left : ℕ) (s : State) (d : List ℕ) (n : ℕ) (s' : State) (d' : List ℕ) (e : Stop) → Reaches c k s d s' d' → StopsFor c left s' d' e
      → run_from c (k + left) s d n ≡ ended c.statements e s' (n + k) d'
  reaches_run zero left s d n s' d' e h w = rw (h.0, h.1, zero-add left, add-zero n) (stops_run left s' d' n e w)
  reaches_run (suc k) left s d n s' d' e h w =
      let x : suc n + k ≡ n + suc k = omega arith in
      ap (λ (m : ℕ). run_from c m s d n) (suc-add k left)
      ∙ run_goes c s d n (k + left) h.1.0 h.0 h.1.1.0
      ∙ reaches_run k left h.1.0 (data_after c s d) (suc n) s' d' e h.1.1.1 w
      ∙ ap (λ (m : ℕ). ended c.statements e s' m d') x

  -- A call by what it names and leaves.
  by_place : (n : ℕ) (r : Ran) → r.outcome.place ≡ stop_place n r.outcome.state.at r.outcome.stop
      → r ≡ ended n r.outcome.stop r.outcome.state r.outcome.count r.bytes
  by_place n r e =
      ap (λ (p : ℕ). record { outcome = record { stop = r.outcome.stop; place = p; count = r.outcome.count; state = r.outcome.state }; bytes = r.bytes }) e

  says_run : (m : ℕ) (s : State) (d : List ℕ) (r : Ran) → RunSays c m s d r → r ≡ run_from c m s d 0
  says_run m s d r x =
      let k = r.outcome.count in
      by_place c.statements r x.place
      ∙ ap (λ (n : ℕ). ended c.statements r.outcome.stop r.outcome.state n r.bytes) (sym (zero-add k))
      ∙ sym (reaches_run k x.left s d 0 r.outcome.state r.bytes r.outcome.stop x.reached x.stops)
      ∙ ap (λ (n : ℕ). run_from c n s d 0) x.allowed

-- ---- a call

module _ (u d : List ℕ) (s : State) (m : ℕ) where
  refuses_call : (e : Stop) → Refuses u d s e → run_of u d s m ≡ refused e s d
  refuses_call stop.End h = absurd h
  refuses_call (stop.Refused x) h = call_refused u d s m x (check_only u (Err x) h)
  refuses_call stop.WrongSize h = call_wrong_size u d s m (parts_of u) (sound_passed u (parts_of u) h.0) h.1
  refuses_call stop.Unsound h = call_unsound u d s m (parts_of u) (sound_passed u (parts_of u) h.0) h.1 h.2
  refuses_call (stop.Failed f) h = absurd h
  refuses_call stop.Spent h = absurd h

  pub ready_call : Ready u d s → run_of u d s m ≡ run_from (decoded u) m s d 0
  ready_call y = call_runs u d s m (parts_of u) (sound_passed u (parts_of u) y.unit) y.size y.state

  -- A fact of every call: it holds where the call is refused, and of the run where all checks are passed.
  pub every_answer : (P : Ran → Type 0) → ((e : Stop) → Refuses u d s e → P (refused e s d)) → (Ready u d s → P (run_from (decoded u) m s d 0)) → P (run_of u d s m)
  every_answer P before runs = by (check_of u) refl
    where
      tested : SoundUnit u (parts_of u) → (t v : Bool) → eqb (length d) (parts_of u).d ≡ t → soundb (decoded u) s ≡ v → P (run_of u d s m)
      tested x true true f g =
          let y : Ready u d s = record { unit = x; size = eqb-true (length d) (parts_of u).d f; state = sound_to (decoded u) s g } in
          rw (ready_call y) (runs y)
      tested x true false f g =
          let h : Refuses u d s stop.Unsound = (x, eqb-true (length d) (parts_of u).d f, tells_fails (sound_tells (decoded u) s) g) in
          rw (refuses_call stop.Unsound h) (before stop.Unsound h)
      tested x false v f g =
          let h : Refuses u d s stop.WrongSize = (x, eqb-false (length d) (parts_of u).d f) in
          rw (refuses_call stop.WrongSize h) (before stop.WrongSize h)

      by : (x : Result Parts Refusal) → check_of u ≡ x → P (run_of u d s m)
      by (Ok p) e =
          let x = passed_sound u p e in
          tested (subst (SoundUnit u) x.parts x) (eqb (length d) (parts_of u).d) (soundb (decoded u) s) refl refl
      by (Err r) e =
          let h : Refuses u d s (stop.Refused r) = subst (Says u) e (check_says u) in
          rw (refuses_call (stop.Refused r) h) (before (stop.Refused r) h)

  -- ---- by its numbers

  refuses_range : (e : Stop) → Refuses u d s e → (1 ≤ stop_number e) × (stop_number e ≤ 7)
  refuses_range stop.End h = absurd h
  refuses_range (stop.Refused refusal.NotFilled) h = (omega arith, omega arith)
  refuses_range (stop.Refused refusal.BadRange) h = (omega arith, omega arith)
  refuses_range (stop.Refused (refusal.BadField i)) h = (omega arith, omega arith)
  refuses_range (stop.Refused (refusal.BadExpression i)) h = (omega arith, omega arith)
  refuses_range (stop.Refused (refusal.BadStatement i)) h = (omega arith, omega arith)
  refuses_range stop.WrongSize h = (omega arith, omega arith)
  refuses_range stop.Unsound h = (omega arith, omega arith)
  refuses_range (stop.Failed f) h = absurd h
  refuses_range stop.Spent h = absurd h

  refuses_place : (e : Stop) (at at' : ℕ) → Refuses u d s e → stop_place 0 at e ≡ stop_place 0 at' e
  refuses_place stop.End at at' h = absurd h
  refuses_place (stop.Refused x) at at' h = refl
  refuses_place stop.WrongSize at at' h = refl
  refuses_place stop.Unsound at at' h = refl
  refuses_place (stop.Failed f) at at' h = absurd h
  refuses_place stop.Spent at at' h = absurd h

  fault_number_lem : (f : Fault) → (f ≡ fault.Malformed → ⊥) → RunNumber (stop_number (stop.Failed f))
  fault_number_lem fault.Malformed n = absurd (n refl)
  fault_number_lem fault.TooLong n = inr (inl (omega arith, omega arith))
  fault_number_lem fault.Outside n = inr (inl (omega arith, omega arith))
  fault_number_lem fault.BadDigit n = inr (inl (omega arith, omega arith))
  fault_number_lem fault.ZeroDivisor n = inr (inl (omega arith, omega arith))
  fault_number_lem fault.CallsFull n = inr (inl (omega arith, omega arith))
  fault_number_lem fault.NoCall n = inr (inl (omega arith, omega arith))
  fault_number_lem fault.RoundCount n = inr (inl (omega arith, omega arith))
  fault_number_lem fault.ZeroStep n = inr (inl (omega arith, omega arith))
  fault_number_lem fault.LoopsFull n = inr (inl (omega arith, omega arith))
  fault_number_lem fault.NoLoop n = inr (inl (omega arith, omega arith))

  run_number : (left : ℕ) (t : State) (b : List ℕ) (e : Stop) → StopsFor (decoded u) left t b e → (e ≡ stop.Failed fault.Malformed → ⊥) → RunNumber (stop_number e)
  run_number left t b stop.End h n = inl refl
  run_number left t b (stop.Refused x) h n = absurd h
  run_number left t b stop.WrongSize h n = absurd h
  run_number left t b stop.Unsound h n = absurd h
  run_number left t b (stop.Failed f) h n = fault_number_lem f (λ z. n (ap stop.Failed z))
  run_number left t b stop.Spent h n = inr (inr refl)

  -- ---- refused or run

  pub ready_number : Ready u d s → RunNumber (stop_number (run_of u d s m).outcome.stop)
  ready_number y =
      let r = run_from (decoded u) m s d 0 in
      let x = run_says (decoded u) m s d in
      rw (ready_call y) (run_number x.left r.outcome.state r.bytes r.outcome.stop x.stops (run_not_malformed (decoded u) y.unit.code (passed_in u (parts_of u) (sound_passed u (parts_of u) y.unit)) m s d 0 y.state))

  call_or : IsRefused u d s (run_of u d s m) ⊎ IsRun u d s m (run_of u d s m)
  call_or =
      every_answer (λ r. IsRefused u d s r ⊎ IsRun u d s m r)
      (λ e h.
      let x = refuses_range e h in
      inl (record { least = x.0; most = x.1; why = h; place = refuses_place e s.at 0 h; unchanged = record { data_kept = refl; state_kept = refl; count_zero = refl } }))
      (λ y.
      let r = run_from (decoded u) m s d 0 in
      let x = run_says (decoded u) m s d in
      inr (record { ready = y; is_run = refl; number = run_number x.left r.outcome.state r.bytes r.outcome.stop x.stops (run_not_malformed (decoded u) y.unit.code (passed_in u (parts_of u) (sound_passed u (parts_of u) y.unit)) m s d 0 y.state) }))

  refused_is : (r : Ran) → IsRefused u d s r → r ≡ run_of u d s m
  refused_is r x =
      let e = r.outcome.stop in
      by_place (decoded u) 0 r (x.place ∙ refuses_place e 0 r.outcome.state.at x.why)
      ∙ rw (x.unchanged.state_kept, x.unchanged.count_zero, x.unchanged.data_kept) (sym (refuses_call e x.why))

  pub call_exactly : (r : Ran) → (r ≡ run_of u d s m) ↔ IsRefused u d s r ⊎ IsRun u d s m r
  call_exactly r = (λ e. subst (λ (x : Ran). IsRefused u d s x ⊎ IsRun u d s m x) (sym e) call_or, of)
    where
      of : IsRefused u d s r ⊎ IsRun u d s m r → r ≡ run_of u d s m
      of (inl x) = refused_is r x
      of (inr x) = x.is_run ∙ sym (ready_call x.ready)

  pub does_exactly : (r : Ran) → (r ≡ run_of u d s m) ↔ Does u d s m r
  does_exactly r = (λ e. to e ((call_exactly r).0 e), of)
    where
      to : r ≡ run_of u d s m → IsRefused u d s r ⊎ IsRun u d s m r → Does u d s m r
      to e (inl x) = inl x
      to e (inr x) = inr (x.ready, subst (RunSays (decoded u) m s d) (sym x.is_run) (run_says (decoded u) m s d))

      of : Does u d s m r → r ≡ run_of u d s m
      of (inl x) = refused_is r x
      of (inr (y, x)) = says_run (decoded u) m s d r x ∙ sym (ready_call y)

  -- An allowance of 0, and a state at N.
  pub call_spent : (r : Ran) → r ≡ run_of u d s m → Ready u d s → m ≡ 0 → s.at < (parts_of u).n → (stop_number r.outcome.stop ≡ 30) × Unchanged d s r
  call_spent r e y z h =
      let q = e ∙ ready_call y ∙ ap (λ (k : ℕ). run_from (decoded u) k s d 0) z ∙ run_spent (decoded u) s d 0 h in
      rw q (refl, record { data_kept = refl; state_kept = refl; count_zero = refl })

  pub call_ended : (r : Ran) → r ≡ run_of u d s m → Ready u d s → (parts_of u).n ≤ s.at → (stop_number r.outcome.stop ≡ 0) × Unchanged d s r
  call_ended r e y h =
      let q = e ∙ ready_call y ∙ run_ends (decoded u) s d 0 m h in rw q (refl, record { data_kept = refl; state_kept = refl; count_zero = refl })

  pub call_counts : (run_of u d s m).outcome.count ≤ m
  call_counts = every_answer (λ r. r.outcome.count ≤ m) (λ e h. omega arith) (λ y. let x = run_says (decoded u) m s d in omega (arith, x.allowed))

  -- A number from 1 to 7 refuses.
  pub refused_by_number : (r : Ran) → IsRefused u d s r ⊎ IsRun u d s m r → 1 ≤ stop_number r.outcome.stop → stop_number r.outcome.stop ≤ 7 → Unchanged d s r
  refused_by_number r (inl x) a b = x.unchanged
  refused_by_number r (inr x) a b = absurd (by x.number)
    where
      by : RunNumber (stop_number r.outcome.stop) → ⊥
      by (inl e) = omega (arith, a, e)
      by (inr (inl e)) = omega (arith, b, e.0)
      by (inr (inr e)) = omega (arith, b, e)

  -- One from 20 to 29 is a run error.
  pub erred_by_number : (r : Ran) → IsRefused u d s r ⊎ IsRun u d s m r → 20 ≤ stop_number r.outcome.stop → stop_number r.outcome.stop ≤ 29
      → Erred (decoded u) m s d (stop_number r.outcome.stop) r
  erred_by_number r (inl x) a b = absurd (omega (arith, a, x.most))
  erred_by_number r (inr x) a b =
      let y = subst (RunSays (decoded u) m s d) (sym x.is_run) (run_says (decoded u) m s d) in
      by r.outcome.stop refl y.left y.allowed y.reached y.stops y.place
    where
      by : (e : Stop) → r.outcome.stop ≡ e → (left : ℕ) → r.outcome.count + left ≡ m → Reaches (decoded u) r.outcome.count s d r.outcome.state r.bytes
          → StopsFor (decoded u) left r.outcome.state r.bytes e
          → r.outcome.place ≡ stop_place (parts_of u).n r.outcome.state.at e
          → Erred (decoded u) m s d (stop_number r.outcome.stop) r
      by stop.End q left l g h p = absurd (omega (arith, a, ap stop_number q))
      by (stop.Refused z) q left l g h p = absurd h
      by stop.WrongSize q left l g h p = absurd h
      by stop.Unsound q left l g h p = absurd h
      by (stop.Failed f) q left l g h p =
          record { fault = f; number = sym (ap stop_number q); reached = g; fewer = omega (arith, l, h.1); low = h.0; gives = h.2; place = p }
      by stop.Spent q left l g h p = absurd (omega (arith, b, ap stop_number q))

-- ---- the table

-- The number of a stop.
abbrev no_for : Stop → StopNo
no_for stop.End = no_0
no_for (stop.Refused refusal.NotFilled) = no_1
no_for (stop.Refused refusal.BadRange) = no_2
no_for (stop.Refused (refusal.BadField i)) = no_3
no_for (stop.Refused (refusal.BadExpression i)) = no_4
no_for (stop.Refused (refusal.BadStatement i)) = no_5
no_for stop.WrongSize = no_6
no_for stop.Unsound = no_7
no_for (stop.Failed fault.Malformed) = no_4
no_for (stop.Failed fault.TooLong) = no_20
no_for (stop.Failed fault.Outside) = no_21
no_for (stop.Failed fault.BadDigit) = no_22
no_for (stop.Failed fault.ZeroDivisor) = no_23
no_for (stop.Failed fault.CallsFull) = no_24
no_for (stop.Failed fault.NoCall) = no_25
no_for (stop.Failed fault.RoundCount) = no_26
no_for (stop.Failed fault.ZeroStep) = no_27
no_for (stop.Failed fault.LoopsFull) = no_28
no_for (stop.Failed fault.NoLoop) = no_29
no_for stop.Spent = no_30

no_number : (e : Stop) → no_of (no_for e) ≡ stop_number e
no_number stop.End = refl
no_number (stop.Refused refusal.NotFilled) = refl
no_number (stop.Refused refusal.BadRange) = refl
no_number (stop.Refused (refusal.BadField i)) = refl
no_number (stop.Refused (refusal.BadExpression i)) = refl
no_number (stop.Refused (refusal.BadStatement i)) = refl
no_number stop.WrongSize = refl
no_number stop.Unsound = refl
no_number (stop.Failed fault.Malformed) = refl
no_number (stop.Failed fault.TooLong) = refl
no_number (stop.Failed fault.Outside) = refl
no_number (stop.Failed fault.BadDigit) = refl
no_number (stop.Failed fault.ZeroDivisor) = refl
no_number (stop.Failed fault.CallsFull) = refl
no_number (stop.Failed fault.NoCall) = refl
no_number (stop.Failed fault.RoundCount) = refl
no_number (stop.Failed fault.ZeroStep) = refl
no_number (stop.Failed fault.LoopsFull) = refl
no_number (stop.Failed fault.NoLoop) = refl
no_number stop.Spent = refl

-- No two are the same.
abbrev no_at : ℕ → StopNo
no_at n =
    cond (eqb n 0) no_0
    (cond (eqb n 1) no_1
    (cond (eqb n 2) no_2
    (cond (eqb n 3) no_3
    (cond (eqb n 4) no_4
    (cond (eqb n 5) no_5
    (cond (eqb n 6) no_6
    (cond (eqb n 7) no_7
    (cond (eqb n 20) no_20
    (cond (eqb n 21) no_21
    (cond (eqb n 22) no_22
    (cond (eqb n 23) no_23
    (cond (eqb n 24) no_24
    (cond (eqb n 25) no_25
    (cond (eqb n 26) no_26
    (cond (eqb n 27) no_27
    (cond (eqb n 28) no_28
    (cond (eqb n 29) no_29
    no_30)))))))))))))))))

no_back : (x : StopNo) → no_at (no_of x) ≡ x
no_back no_0 = refl
no_back no_1 = refl
no_back no_2 = refl
no_back no_3 = refl
no_back no_4 = refl
no_back no_5 = refl
no_back no_6 = refl
no_back no_7 = refl
no_back no_20 = refl
no_back no_21 = refl
no_back no_22 = refl
no_back no_23 = refl
no_back no_24 = refl
no_back no_25 = refl
no_back no_26 = refl
no_back no_27 = refl
no_back no_28 = refl
no_back no_29 = refl
no_back no_30 = refl

module _ (u d : List ℕ) (s : State) (m : ℕ) where
  refused_given : (e : Stop) (at : ℕ) → Refuses u d s e → Given u d s m (no_for e) (stop_place 0 at e)
  refused_given stop.End at h = absurd h
  refused_given (stop.Refused refusal.NotFilled) at h = (h, refl)
  refused_given (stop.Refused refusal.BadRange) at h = (h, refl)
  refused_given (stop.Refused (refusal.BadField i)) at h = h
  refused_given (stop.Refused (refusal.BadExpression i)) at h = h
  refused_given (stop.Refused (refusal.BadStatement i)) at h = h
  refused_given stop.WrongSize at h = (h, refl)
  refused_given stop.Unsound at h = (h, refl)
  refused_given (stop.Failed f) at h = absurd h
  refused_given stop.Spent at h = absurd h

  stopped_given : (e : Stop) (place : ℕ) → (e ≡ stop.Failed fault.Malformed → ⊥) → (h : Stopped u d s m e) → place ≡ stop_place (parts_of u).n h.state.at e
      → Given u d s m (no_for e) place
  stopped_given stop.End place n h q = (h, q)
  stopped_given (stop.Refused x) place n h q = absurd h.stops
  stopped_given stop.WrongSize place n h q = absurd h.stops
  stopped_given stop.Unsound place n h q = absurd h.stops
  stopped_given (stop.Failed fault.Malformed) place n h q = absurd (n refl)
  stopped_given (stop.Failed fault.TooLong) place n h q = (h, q)
  stopped_given (stop.Failed fault.Outside) place n h q = (h, q)
  stopped_given (stop.Failed fault.BadDigit) place n h q = (h, q)
  stopped_given (stop.Failed fault.ZeroDivisor) place n h q = (h, q)
  stopped_given (stop.Failed fault.CallsFull) place n h q = (h, q)
  stopped_given (stop.Failed fault.NoCall) place n h q = (h, q)
  stopped_given (stop.Failed fault.RoundCount) place n h q = (h, q)
  stopped_given (stop.Failed fault.ZeroStep) place n h q = (h, q)
  stopped_given (stop.Failed fault.LoopsFull) place n h q = (h, q)
  stopped_given (stop.Failed fault.NoLoop) place n h q = (h, q)
  stopped_given stop.Spent place n h q = (h, q)

  -- What is given is in its row of the table.
  given : Given u d s m (no_for (run_of u d s m).outcome.stop) (run_of u d s m).outcome.place
  given =
      every_answer u d s m (λ r. Given u d s m (no_for r.outcome.stop) r.outcome.place) (λ e h. refused_given e s.at h)
      (λ y.
      let r = run_from (decoded u) m s d 0 in
      let x = run_says (decoded u) m s d in
      stopped_given r.outcome.stop r.outcome.place (run_not_malformed (decoded u) y.unit.code (passed_in u (parts_of u) (sound_passed u (parts_of u) y.unit)) m s d 0 y.state)
      (record {
        ready = y;
        done = r.outcome.count;
        left = x.left;
        allowed = x.allowed;
        state = r.outcome.state;
        bytes = r.bytes;
        reached = x.reached;
        stops = x.stops;
      }) x.place)

  abbrev Named : ℕ → ℕ → Type 0
  Named n place = (stop_number (run_of u d s m).outcome.stop ≡ n) × ((run_of u d s m).outcome.place ≡ place)

  refused_named : (e : Stop) → Refuses u d s e → Named (stop_number e) (stop_place 0 s.at e)
  refused_named e h =
      let q = refuses_call u d s m e h in (ap (λ (r : Ran). stop_number r.outcome.stop) q, ap (λ (r : Ran). r.outcome.place) q)

  stopped_named : (e : Stop) (place : ℕ) (h : Stopped u d s m e) → place ≡ stop_place (parts_of u).n h.state.at e → Named (stop_number e) place
  stopped_named e place h p =
      let q =
      ready_call u d s m h.ready
      ∙ ap (λ (n : ℕ). run_from (decoded u) n s d 0) (sym h.allowed)
      ∙ reaches_run (decoded u) h.done h.left s d 0 h.state h.bytes e h.reached h.stops in (
        ap (λ (r : Ran). stop_number r.outcome.stop) q,
        ap (λ (r : Ran). r.outcome.place) q ∙ sym p,
      )

  at_zero : (n place : ℕ) → Named n 0 → place ≡ 0 → Named n place
  at_zero n place h e = (h.0, h.1 ∙ sym e)

  given_named : (x : StopNo) (place : ℕ) → Given u d s m x place → Named (no_of x) place
  given_named no_0 place h = stopped_named stop.End place h.0 h.1
  given_named no_1 place h = at_zero 1 place (refused_named (stop.Refused refusal.NotFilled) h.0) h.1
  given_named no_2 place h = at_zero 2 place (refused_named (stop.Refused refusal.BadRange) h.0) h.1
  given_named no_3 place h = refused_named (stop.Refused (refusal.BadField place)) h
  given_named no_4 place h = refused_named (stop.Refused (refusal.BadExpression place)) h
  given_named no_5 place h = refused_named (stop.Refused (refusal.BadStatement place)) h
  given_named no_6 place h = at_zero 6 place (refused_named stop.WrongSize h.0) h.1
  given_named no_7 place h = at_zero 7 place (refused_named stop.Unsound h.0) h.1
  given_named no_20 place h = stopped_named (stop.Failed fault.TooLong) place h.0 h.1
  given_named no_21 place h = stopped_named (stop.Failed fault.Outside) place h.0 h.1
  given_named no_22 place h = stopped_named (stop.Failed fault.BadDigit) place h.0 h.1
  given_named no_23 place h = stopped_named (stop.Failed fault.ZeroDivisor) place h.0 h.1
  given_named no_24 place h = stopped_named (stop.Failed fault.CallsFull) place h.0 h.1
  given_named no_25 place h = stopped_named (stop.Failed fault.NoCall) place h.0 h.1
  given_named no_26 place h = stopped_named (stop.Failed fault.RoundCount) place h.0 h.1
  given_named no_27 place h = stopped_named (stop.Failed fault.ZeroStep) place h.0 h.1
  given_named no_28 place h = stopped_named (stop.Failed fault.LoopsFull) place h.0 h.1
  given_named no_29 place h = stopped_named (stop.Failed fault.NoLoop) place h.0 h.1
  given_named no_30 place h = stopped_named stop.Spent place h.0 h.1

  pub given_exactly : (x : StopNo) (place : ℕ) → Named (no_of x) place ↔ Given u d s m x place
  given_exactly x place = (to, given_named x place)
    where
      to : Named (no_of x) place → Given u d s m x place
      to h =
          let e = (run_of u d s m).outcome.stop in
          let q : no_for e ≡ x = sym (no_back (no_for e)) ∙ ap no_at (no_number e ∙ h.0) ∙ no_back x in
          subst (λ (y : StopNo). Given u d s m y place) q (subst (Given u d s m (no_for e)) h.1 given)
