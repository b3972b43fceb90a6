-- A run of a fenced unit over valid data (the owner's letter, demand 3): however it stops, no byte outside the destinations has changed, every
-- decimal element is valid, no 21 was given, trapped or not, and 22 only by a statement that moves alpha text to a decimal place.
-- Assumes nothing.
use Rattle.std.specs.Prelude.{Result, Err, Ok}
use Prim.Native.Nat.{ℕ, zero, suc, ◌<◌}
use native.Mathlib.Omega.{arith}
use mathlib.Core.Path.{◌≡◌, refl, sym, ap, ◌∙◌, subst}
use mathlib.Core.List.{List}
use lib.Dec.{ltb, eqb}
use lib.ListN.{length}
use Rattle.rules.specs.declared.Fault.{Fault}
use Rattle.rules.specs.declared.Fault.TheVariants as fault
use Rattle.rules.specs.Stops.{fault_number}
use Rattle.rules.specs.Values.{Limit, Letters, Top}
use Rattle.rules.proofs.Walk.{cond_either}
use Rattle.rules_unit.specs.Codes.{Code}
use Rattle.rules_unit.specs.Sound.{SoundCode}
use Rattle.rules_run.specs.declared.Flow.{Flow}
use Rattle.rules_run.specs.declared.Flow.TheVariants as flow
use Rattle.rules_run.specs.declared.State.{State}
use Rattle.rules_run.specs.declared.Stop.{Stop}
use Rattle.rules_run.specs.declared.Stop.TheVariants as stop
use Rattle.rules_run.specs.declared.Turn.{Turn}
use Rattle.rules_run.specs.States.{Sound, called, returned, unhandled, look_of}
use Rattle.rules_run.specs.Stops.{stop_number}
use Rattle.rules_run.specs.Turns.{turn_of}
use Rattle.rules_run.specs.Runs.{Moved, to, stuck, moved_by, led_by, data_after, Ran, ended, run_from}
use Rattle.rules_run.specs.Answers.{Reaches, Gives}
use Rattle.rules_run.proofs.Outside.{turn_length}
use Rattle.rules_run.proofs.Room.{TurnRoom, turn_room}
use Rattle.rules_run.proofs.SoundRuns.{In, step_sound}
use Rattle.rules_run.proofs.States.{look_sound}
use Rattle.rules_run.proofs.Steps.{every_run}
use Rattle.rules_run.proofs.Traps.{error_case}
use Rattle.rules_fence.specs.Fence.{Fenced}
use Rattle.rules_fence.specs.Destinations.{AllValid, BadText}
use Rattle.rules_fence.specs.Safety.{Safe}
use Rattle.rules_fence.proofs.Aims.{aim_destination, turn_valid, turn_outside}
use Rattle.rules_fence.proofs.Mild.{MildFault, MildAnswer}
use Rattle.rules_fence.proofs.Turns.{aim_of, TurnAims, turn_ok}

-- ---- faults

pub mild_21 : (M : Type 0) (x : Fault) → MildFault M x → fault_number x ≡ 21 → ⊥
mild_21 M fault.Malformed m q = omega arith
mild_21 M fault.TooLong m q = omega arith
mild_21 M fault.Outside m q = m
mild_21 M fault.BadDigit m q = omega arith
mild_21 M fault.ZeroDivisor m q = omega arith
mild_21 M fault.CallsFull m q = omega arith
mild_21 M fault.NoCall m q = omega arith
mild_21 M fault.RoundCount m q = omega arith
mild_21 M fault.ZeroStep m q = omega arith
mild_21 M fault.LoopsFull m q = omega arith
mild_21 M fault.NoLoop m q = omega arith

pub mild_22 : (M : Type 0) (x : Fault) → MildFault M x → fault_number x ≡ 22 → M
mild_22 M fault.Malformed m q = absurd (omega arith)
mild_22 M fault.TooLong m q = absurd (omega arith)
mild_22 M fault.Outside m q = absurd (omega arith)
mild_22 M fault.BadDigit m q = m
mild_22 M fault.ZeroDivisor m q = absurd (omega arith)
mild_22 M fault.CallsFull m q = absurd (omega arith)
mild_22 M fault.NoCall m q = absurd (omega arith)
mild_22 M fault.RoundCount m q = absurd (omega arith)
mild_22 M fault.ZeroStep m q = absurd (omega arith)
mild_22 M fault.LoopsFull m q = absurd (omega arith)
mild_22 M fault.NoLoop m q = absurd (omega arith)

-- Where a mild turn leads.
abbrev MovedOk : Type 0 → Moved → Type 0
MovedOk M (to s) = Unit {0}
MovedOk M (stuck x) = MildFault M x

moved_ok : (n : ℕ) (s : State) (M : Type 0) (f : Flow) → MovedOk M (moved_by n s f)
unfolding moved_by
moved_ok n s M flow.Next = tt
moved_ok n s M (flow.Goto i) = tt
moved_ok n s M (flow.Call i) = cond_either (MovedOk M) (ltb s.depth 50) (to (called s i)) (stuck fault.CallsFull) tt tt
moved_ok n s M flow.Return = cond_either (MovedOk M) (eqb s.depth 0) (stuck fault.NoCall) (to (returned s)) tt tt
moved_ok n s M flow.Stop = tt
moved_ok n s M (flow.Enter limit step) = tt
moved_ok n s M (flow.Leave i) = tt
moved_ok n s M (flow.Arm i) = tt
moved_ok n s M flow.Disarm = tt

led_ok : (n : ℕ) (s : State) (M : Type 0) (t : Result Turn Fault) → MildAnswer M t → MovedOk M (led_by n s t)
led_ok n s M (Ok t) m = moved_ok n s M t.flow
led_ok n s M (Err x) m = error_case (MovedOk M) s x (λ z. m) (λ i q r. tt)

-- ---- the run

module _ (c : Code) (o : In c) (s : SoundCode c) (limit : Limit c.dialect.limit) (letters : Letters c.dialect.sign) (bound : Top c.dialect.top) (r : Fenced c) where
  -- The data and all else stay where nothing is done.
  stays : (d : List ℕ) (x : Stop) (t : State) (k : ℕ) → AllValid c d → (stop_number x ≡ 21 → ⊥)
      → (stop_number x ≡ 22 → ((ended c.statements x t k d).outcome.place < c.statements) × BadText c d (c.statement (ended c.statements x t k d).outcome.place))
      → Safe c d (ended c.statements x t k d)
  stays d x t k v f g = record { length_kept = refl; outside = λ b o. refl; valid = v; no_21 = f; only_22 = g }

  -- What the statement at t does is done at its own place.
  aims : (d : List ℕ) (t : State) → length d ≡ c.size → AllValid c d → Sound c t → t.at < c.statements
      → TurnAims c d (BadText c d (c.statement t.at)) (turn_of c (look_of t) t.at d)
  aims d t e v y h = turn_ok c s letters d e v (look_of t) (look_sound y) r t.at h

  -- A completed statement leaves data of the same length, all valid.
  left_length : (d : List ℕ) (t : State) → length (data_after c t d) ≡ length d
  left_length d t = turn_length c d (turn_of c (look_of t) t.at d) (turn_room c d limit bound (look_of t) t.at)

  left_valid : (d : List ℕ) (t : State) → length d ≡ c.size → AllValid c d → Sound c t → t.at < c.statements → AllValid c (data_after c t d)
  left_valid d t e v y h =
      let ok = aims d t e v y h in
      turn_valid c s d e v (aim_of c (c.statement ok.at)) (turn_of c (look_of t) t.at d) (turn_room c d limit bound (look_of t) t.at) ok.ok.aimed

  -- After a completed statement, what is safe from there on is safe from here on.
  through : (d : List ℕ) (t : State) (x : Ran) → length d ≡ c.size → AllValid c d → Sound c t → t.at < c.statements
      → (length (data_after c t d) ≡ c.size → AllValid c (data_after c t d) → Safe c (data_after c t d) x) → Safe c d x
  through d t x e v y h more =
      record {
        length_kept = next.length_kept ∙ left_length d t;
        outside =
            λ b o. next.outside b o
            ∙ turn_outside c s d e v (aim_of c (c.statement ok.at)) (turn_of c (look_of t) t.at d) room ok.ok.aimed b (λ z. o (aim_destination c ok.at ok.low b z));
        valid = next.valid;
        no_21 = next.no_21;
        only_22 = next.only_22;
      }
    where
      room : TurnRoom c (length d) (turn_of c (look_of t) t.at d)
      room = turn_room c d limit bound (look_of t) t.at

      ok : TurnAims c d (BadText c d (c.statement t.at)) (turn_of c (look_of t) t.at d)
      ok = aims d t e v y h

      next : Safe c (data_after c t d) x
      next = more (left_length d t ∙ e) (left_valid d t e v y h)

  pub run_safe : (m : ℕ) (t : State) (d : List ℕ) (k : ℕ) → length d ≡ c.size → AllValid c d → Sound c t → Safe c d (run_from c m t d k)
  run_safe =
      every_run c (λ m t d k x. length d ≡ c.size → AllValid c d → Sound c t → Safe c d x)
      (λ m t d k h e v y. stays d stop.End t k v (λ q. omega arith) (λ q. absurd (omega arith)))
      (λ t d k h e v y. stays d stop.Spent t k v (λ q. omega arith) (λ q. absurd (omega arith)))
      (λ m t d k f h q e v y.
      let ok = aims d t e v y h in
      let M = BadText c d (c.statement t.at) in
      let mild : MildFault M f = subst (MovedOk M) q (led_ok c.statements t M (turn_of c (look_of t) t.at d) ok.ok.mild) in
      stays d (stop.Failed f) t k v (mild_21 M f mild) (λ z. (h, mild_22 M f mild z)))
      (λ m t t' d k x h q more e v y. through d t x e v y h (λ f w. more f w (step_sound c o s d y h q)))

  -- ---- every statement of it, whether its error is trapped or not

  reached_valid : (k : ℕ) (t : State) (d : List ℕ) → length d ≡ c.size → AllValid c d → Sound c t → (x : State) (w : List ℕ) → Reaches c k t d x w
      → (length w ≡ c.size) × (AllValid c w × Sound c x)
  reached_valid zero t d e v y x w (p, q) = (ap length (sym q) ∙ e, (subst (AllValid c) q v, subst (Sound c) p y))
  reached_valid (suc k) t d e v y x w (h, (z, (q, more))) =
      reached_valid k z (data_after c t d) (left_length d t ∙ e) (left_valid d t e v y h) (step_sound c o s d y h q) x w more

  pub gives_mild : (m : ℕ) (t : State) (d : List ℕ) (f : Fault) → length d ≡ c.size → AllValid c d → Sound c t → (g : Gives c m t d f)
      → MildFault (BadText c g.seen (c.statement g.at.at)) f
  gives_mild m t d f e v y g =
      let z = reached_valid g.done t d e v y g.at g.seen g.reached in
      let M = BadText c g.seen (c.statement g.at.at) in
      let ok = aims g.seen g.at z.0 z.1.0 z.1.1 g.low in
      subst (MovedOk M) g.here (led_ok c.statements (unhandled g.at) M (turn_of c (look_of g.at) g.at.at g.seen) ok.ok.mild)
