-- A unit that passes the check never lets Malformed arise: no statement answers it and no run stops with it, whatever the data and the sound
-- state are (document 01, "Stops and their numbers").
-- Assumes nothing.
use Rattle.std.specs.Prelude.{Result, Err, Ok}
use Prim.Native.Nat.{ℕ, ◌<◌}
use mathlib.Core.Path.{◌≡◌, refl, sym, ap, ◌∙◌, subst}
use mathlib.Core.Bool.{true, false, false≢true}
use mathlib.Core.List.{List}
use lib.Dec.{ltb, eqb}
use Rattle.rules.specs.declared.Fault.{Fault}
use Rattle.rules.specs.declared.Fault.TheVariants as fault
use Rattle.rules.proofs.Walk.{cond_either}
use Rattle.rules_unit.specs.declared.Parts.{Parts}
use Rattle.rules_unit.specs.Codes.{Code}
use Rattle.rules_unit.specs.Decode.{code_of}
use Rattle.rules_unit.specs.Checks.{check_of}
use Rattle.rules_unit.specs.Sound.{SoundCode}
use Rattle.rules_unit.proofs.Sound.{passed_sound}
use Rattle.rules_run.specs.declared.Flow.{Flow}
use Rattle.rules_run.specs.declared.Flow.TheVariants as flow
use Rattle.rules_run.specs.declared.Look.{Look}
use Rattle.rules_run.specs.declared.State.{State}
use Rattle.rules_run.specs.declared.Stop.TheVariants as stop
use Rattle.rules_run.specs.declared.Turn.{Turn}
use Rattle.rules_run.specs.Turns.{turn_of}
use Rattle.rules_run.specs.States.{Sound, called, returned, look_of, LookSound}
use Rattle.rules_run.specs.Runs.{Moved, to, stuck, moved_by, led_by, Ran, run_from, run_of}
use Rattle.rules_run.proofs.Formed.{formedb}
use Rattle.rules_run.proofs.Faults.{passes}
use Rattle.rules_run.proofs.FormedTurns.{turn_formed}
use Rattle.rules_run.proofs.Runs.{StopSays, stop_says}
use Rattle.rules_run.proofs.SoundRuns.{In, passed_in, run_sound}
use Rattle.rules_run.proofs.States.{look_sound}
use Rattle.rules_run.proofs.Traps.{error_case}
use Rattle.rules_run.proofs.Calls.{beforeb, every_call}

-- ---- one statement

abbrev MovedFormed : Moved → Type 0
MovedFormed (to s) = Unit {0}
MovedFormed (stuck f) = formedb f ≡ true

moved_formed : (n : ℕ) (s : State) (f : Flow) → MovedFormed (moved_by n s f)
unfolding moved_by
moved_formed n s flow.Next = tt
moved_formed n s (flow.Goto i) = tt
moved_formed n s (flow.Call i) = cond_either MovedFormed (ltb s.depth 50) (to (called s i)) (stuck fault.CallsFull) tt refl
moved_formed n s flow.Return = cond_either MovedFormed (eqb s.depth 0) (stuck fault.NoCall) (to (returned s)) refl tt
moved_formed n s flow.Stop = tt
moved_formed n s (flow.Enter limit step) = tt
moved_formed n s (flow.Leave i) = tt
moved_formed n s (flow.Arm i) = tt
moved_formed n s flow.Disarm = tt

led_formed : (n : ℕ) (s : State) (t : Result Turn Fault) → passes formedb t ≡ true → MovedFormed (led_by n s t)
led_formed n s (Ok t) h = moved_formed n s t.flow
led_formed n s (Err e) h = error_case MovedFormed s e (λ z. h) (λ i q r. tt)

module _ (c : Code) (u : SoundCode c) where
  pub turn_not_malformed : (l : Look) → LookSound c l → (i : ℕ) (d : List ℕ) → i < c.statements → turn_of c l i d ≡ Err fault.Malformed → ⊥
  turn_not_malformed l k i d h e = false≢true (ap (passes formedb) (sym e) ∙ turn_formed c d u l k i h)

  -- ---- a run

  pub run_not_malformed : In c → (m : ℕ) (s : State) (d : List ℕ) (k : ℕ) → Sound c s → (run_from c m s d k).outcome.stop ≡ stop.Failed fault.Malformed → ⊥
  run_not_malformed o m s d k t e =
      false≢true (by (run_from c m s d k) (run_sound c o u m s d k t) (subst (StopSays c m k (run_from c m s d k)) e (stop_says c m s d k)))
    where
      by : (r : Ran) → Sound c r.outcome.state → StopSays c m k r (stop.Failed fault.Malformed) → false ≡ true
      by r t q =
          let x = r.outcome.state in
          subst MovedFormed q.1
          (led_formed c.statements x (turn_of c (look_of x) x.at r.bytes) (turn_formed c r.bytes u (look_of x) (look_sound t) x.at q.0))

-- ---- the unit that passes

module _ (u : List ℕ) (p : Parts) (e : check_of u ≡ Ok p) where
  pub statement_never_malformed : (l : Look) → LookSound (code_of u p) l → (i : ℕ) (d : List ℕ) → i < p.n → turn_of (code_of u p) l i d ≡ Err fault.Malformed → ⊥
  statement_never_malformed = turn_not_malformed (code_of u p) (passed_sound u p e).code

  pub run_never_malformed : (m : ℕ) (s : State) (d : List ℕ) (k : ℕ) → Sound (code_of u p) s → (run_from (code_of u p) m s d k).outcome.stop ≡ stop.Failed fault.Malformed → ⊥
  run_never_malformed = run_not_malformed (code_of u p) (passed_sound u p e).code (passed_in u p e)

-- ---- every call

pub call_never_malformed : (u d : List ℕ) (s : State) (m : ℕ) → (run_of u d s m).outcome.stop ≡ stop.Failed fault.Malformed → ⊥
call_never_malformed u d s m =
    every_call (λ r. r.outcome.stop ≡ stop.Failed fault.Malformed → ⊥) u d s m (λ e b z. false≢true (sym (ap beforeb z) ∙ b))
    (λ p e l t. run_never_malformed u p e m s d 0 t)
