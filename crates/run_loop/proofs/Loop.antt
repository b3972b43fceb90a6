-- The turns of a stretch of a run, for its loop: one law for each way out of a turn and one for the way on, with what the code knows there as premises.
-- What is left of the run from here comes to what the whole run comes to, and a turn keeps it so.
-- Assumes nothing.
use Rattle.std.specs.Prelude.{Result, Err, Ok, Option}
use Prim.Native.Nat.{ℕ, suc, ◌+◌, ◌-◌, ◌<◌, ◌≤◌}
use native.Mathlib.Numerals.{add-one}
use native.Mathlib.Omega.{arith}
use mathlib.Core.Path.{◌≡◌, refl, sym, ap, ◌∙◌, subst}
use mathlib.Core.List.{List}
use lib.IntN.{ℤ}
use lib.ListN.{length}
use Rattle.rules.specs.declared.Fault.{Fault}
use Rattle.rules_unit.specs.declared.Parts.{Parts}
use Rattle.rules_unit.specs.Codes.{Code}
use Rattle.rules_unit.specs.Decode.{code_of}
use Rattle.rules_unit.specs.Checks.{check_of}
use Rattle.rules_unit.specs.Sound.{SoundCode}
use Rattle.rules_unit.proofs.Sound.{passed_sound, passed_fills}
use Rattle.rules_run.specs.declared.Flow.TheVariants as flow
use Rattle.rules_run.specs.declared.Look.{Look}
use Rattle.rules_run.specs.declared.State.{State}
use Rattle.rules_run.specs.declared.Turn.{Turn}
use Rattle.rules_run.specs.declared.Stop.{Stop}
use Rattle.rules_run.specs.declared.Stop.TheVariants as stop
use Rattle.rules_run.specs.declared.Outcome.{Outcome}
use Rattle.rules_run.specs.States.{Sound, gone, called, returned, entered, closed, armed, unhandled, look_of, LookSound}
use Rattle.rules_run.specs.Turns.{Room, applied, turn_of}
use Rattle.rules_run.specs.Stops.{stop_place}
use Rattle.rules_run.specs.Runs.{Ran, to, data_by, next_of, data_after, run_from}
use Rattle.rules_run.specs.Answers.{GivesHere}
use Rattle.rules_run.proofs.Lengths.{passed_dialect}
use Rattle.rules_run.proofs.Outside.{applied_length}
use Rattle.rules_run.proofs.Room.{TurnRoom, turn_room}
use Rattle.rules_run.proofs.SoundRuns.{FlowSound, TurnSound, flow_sound, step_sound, passed_in}
use Rattle.rules_run.proofs.States.{look_sound}
use Rattle.rules_run.proofs.Steps.{halted, run_goes}
use Rattle.rules_run.proofs.Traps.{error_stops}
use Rattle.run_loop.specs.Flows.{turn_under}
use Rattle.run_loop.specs.Stretches.{EndsFor, Stretched}
use Rattle.run_loop.proofs.Flows.{led, led_under, led_as, entered_as, under_moves, under_own, call_free, return_free}

-- ---- a unit that passed its check

module _ (u : List ℕ) (p : Parts) (e : check_of u ≡ Ok p) where
  pub passed_code : SoundCode (code_of u p)
  passed_code = (passed_sound u p e).code

  pub passed_place : (i : ℕ) → i < p.n → i < 65535
  passed_place i h = omega (arith, (passed_sound u p e).ranges.n_most)

  -- A turn's store has room, and keeps the data's length; r is what was answered, and t the turn that it is.
  module _ (l : Look) (i depth : ℕ) (d : List ℕ) (r : Result Turn Fault) (t : Turn) (w : r ≡ turn_under depth (turn_of (code_of u p) l i d)) (o : r ≡ Ok t) where
    pub passed_room : Room (code_of u p) (length d) t.write
    passed_room =
        subst (TurnRoom (code_of u p) (length d)) (under_own depth (turn_of (code_of u p) l i d) t (sym w ∙ o))
        (turn_room (code_of u p) d (passed_dialect u p e).limit (passed_dialect u p e).bound l i)

    pub passed_applied : (d' : List ℕ) (n : ℕ) → length d ≡ n → d' ≡ applied (code_of u p) d t.write → length d' ≡ n
    passed_applied d' n l f = rw f (applied_length (code_of u p) d t.write passed_room ∙ l)

-- What a statement sees of a sound state.
pub look_known : (c : Code) (s : State) (l : Look) → Sound c s → l ≡ look_of s → LookSound c l
look_known c s l t e = rw e (look_sound t)

-- What `run_statement::work` and `run_stores::store` ask of the unit and of the state.
pub ruleset passed_laws = (passed_fills, passed_dialect, passed_code, passed_room, look_known)

-- ---- a turn; l is what its statement saw, r what was answered, and t the turn that it is

module _ (u : List ℕ) (p : Parts) (s : State) (l : Look) (seen : l ≡ look_of s) (d : List ℕ) (r : Result Turn Fault) (t : Turn) (low : s.at < p.n)
    (worked : r ≡ turn_under s.depth (turn_of (code_of u p) l s.at d)) (is : r ≡ Ok t) where
  comes : turn_under s.depth (turn_of (code_of u p) (look_of s) s.at d) ≡ Ok t
  comes = rw (← seen) (sym worked ∙ is)

  own : turn_of (code_of u p) (look_of s) s.at d ≡ Ok t
  own = under_own s.depth (turn_of (code_of u p) (look_of s) s.at d) t comes

  moves : (s' : State) → s' ≡ led p.n s t.flow → next_of (code_of u p) s d ≡ to s'
  moves s' f = under_moves p.n s (turn_of (code_of u p) (look_of s) s.at d) ∙ ap (led_under p.n s) comes ∙ ap to (sym f)

  module _ (m k : ℕ) (z : Ran) (rest : run_from (code_of u p) m s d k ≡ z) (some : m ≡ 0 → ⊥) where
    one_less : m ≡ suc (m - 1)
    one_less = omega arith

    pub turn_goes : (s' : State) (d' : List ℕ) → s' ≡ led p.n s t.flow → d' ≡ applied (code_of u p) d t.write
        → run_from (code_of u p) (m - 1) s' d' (k + 1) ≡ z
    turn_goes s' d' f g =
        let w : data_after (code_of u p) s d ≡ d' = ap (data_by (code_of u p) d) own ∙ sym g in
        rw (add-one k, ← w) (sym (run_goes (code_of u p) s d k (m - 1) s' low (moves s' f)) ∙ (rw one_less at rest))

  -- ---- the state that it leads to

  -- A CALL that is followed finds room, and a RETURN an open call.
  pub turn_call : (i : ℕ) → t.flow ≡ flow.Call i → s.depth < 50
  turn_call i h = call_free s.depth (turn_of (code_of u p) l s.at d) t (sym worked ∙ is) i h

  pub turn_return : t.flow ≡ flow.Return → 0 < s.depth
  turn_return h = return_free s.depth (turn_of (code_of u p) l s.at d) t (sym worked ∙ is) h

  module _ (e : check_of u ≡ Ok p) (sound : Sound (code_of u p) s) where
    flows : FlowSound (code_of u p) (look_of s) s.at t.flow
    flows =
        subst (TurnSound (code_of u p) (look_of s) s.at) own
        (flow_sound (code_of u p) (passed_in u p e) (passed_code u p e) (look_of s) (look_sound sound) s.at low d)

    -- So does a FOR that opens a loop, and what closes one finds it open.
    pub turn_enter : (limit step : ℤ) → t.flow ≡ flow.Enter limit step → s.opened < 16
    turn_enter limit step h = (subst (FlowSound (code_of u p) (look_of s) s.at) h flows).0

    pub turn_leave : (i : ℕ) → t.flow ≡ flow.Leave i → 0 < s.opened
    turn_leave i h = (subst (FlowSound (code_of u p) (look_of s) s.at) h flows).0

    -- The next state is sound.
    pub turn_sound : (s' : State) → s' ≡ led p.n s t.flow → Sound (code_of u p) s'
    turn_sound s' f = step_sound (code_of u p) (passed_in u p e) (passed_code u p e) d sound low (moves s' f)

-- ---- the ways out: the whole began with j completed statements, in the state x, over the data y

module _ (u : List ℕ) (p : Parts) (s : State) (d : List ℕ) (m k a j : ℕ) (x : State) (y : List ℕ) (rest : run_from (code_of u p) m s d k ≡ run_from (code_of u p) a x y j)
    (more : j ≤ k) (allowed : k + m ≡ j + a) (sound : Sound (code_of u p) s) (size : length d ≡ length y) where
  out : (e : Stop) (place : ℕ) (r : Outcome) → r ≡ halted e place k s → EndsFor (code_of u p) m s d e → place ≡ stop_place p.n s.at e → Stretched (code_of u p) a j x y r d
  out e place r q h w =
      rw q (record { left = m; more = more; allowed = allowed; rest = rest; sound = sound; size = size; ends = h; place = w })

  pub turn_ends : (r : Outcome) → r ≡ halted stop.End p.n k s → p.n ≤ s.at → Stretched (code_of u p) a j x y r d
  turn_ends r e h = out stop.End p.n r e h refl

  pub turn_spent : (r : Outcome) → r ≡ halted stop.Spent s.at k s → s.at < p.n → m ≡ 0 → Stretched (code_of u p) a j x y r d
  turn_spent r q h e = out stop.Spent s.at r q (h, e) refl

  pub turn_fails : (r : Outcome) (f : Fault) (l : Look) (t : Result Turn Fault) → r ≡ halted (stop.Failed f) s.at k s → s.at < p.n → (m ≡ 0 → ⊥) → l ≡ look_of s
      → t ≡ turn_under s.depth (turn_of (code_of u p) l s.at d)
      → t ≡ Err f
      → Stretched (code_of u p) a j x y r d
  turn_fails r f l t q h some seen worked e =
      let v = turn_of (code_of u p) (look_of s) s.at d in
      let w : turn_under s.depth v ≡ Err f = rw (← seen) (sym worked ∙ e) in
      let g : GivesHere (code_of u p) s d f = under_moves p.n (unhandled s) v ∙ ap (led_under p.n (unhandled s)) w ∙ error_stops s f in
      out (stop.Failed f) s.at r q (h, omega arith, g) refl

-- The three ways out.
pub ruleset turn_ways = (turn_ends, turn_spent, turn_fails)

-- The way on.
pub ruleset turn_on = (turn_goes, led_as, entered_as)

-- The state there.
pub ruleset turn_sounds = (turn_sound, led_as, entered_as)

-- ---- what the next statement sees

module _ (s s' : State) (l : Look) (seen : l ≡ look_of s) where
  pub gone_seen : (i : ℕ) → s' ≡ gone s i → l ≡ look_of s'
  gone_seen i e = rw e seen

  pub called_seen : (i : ℕ) → s' ≡ called s i → l ≡ look_of s'
  called_seen i e = rw e seen

  pub returned_seen : s' ≡ returned s → l ≡ look_of s'
  returned_seen e = rw e seen

  pub armed_seen : (h : Option ℕ) → s' ≡ armed s h → l ≡ look_of s'
  armed_seen h e = rw e seen

pub ruleset still_seen = (gone_seen, called_seen, returned_seen, armed_seen)

-- ---- a sound state

module _ (c : Code) (s : State) (t : Sound c s) where
  pub sound_calls : s.depth ≤ 50
  sound_calls = t.calls

  pub sound_loops : s.opened ≤ 16
  sound_loops = t.nested

module _ (s s' : State) where
  pub entered_loops : (limit step : ℤ) → s.opened < 16 → s' ≡ entered s limit step → s'.opened ≤ 16
  entered_loops limit step h e = rw e (omega arith)

  pub closed_loops : (i : ℕ) → s.opened ≤ 16 → s' ≡ closed s i → s'.opened ≤ 16
  closed_loops i h e = rw e (omega arith)
