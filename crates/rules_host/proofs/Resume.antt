-- A resume state over several calls: what is written is read back, what is no state is 7, and a run goes on from the state that it left.
-- Assumes nothing.
use Rattle.std.specs.Prelude.{Result, Err, Ok, Option, None, Some}
use Prim.Native.Nat.{ℕ, ◌^◌, ◌<◌, ◌≤◌}
use native.Mathlib.Omega.{arith}
use mathlib.Core.Path.{◌≡◌, refl, sym, ap, subst, ◌∙◌}
use mathlib.Core.Bool.{Bool, true, false, false≢true}
use mathlib.Core.List.{List}
use mathlib.Core.Logic.{◌↔◌, inl, inr}
use lib.Dec.{ltb, eqb}
use lib.ListN.{length, get_or, replicate, length-set}
use borrow.Author.Tests.{le-leb, lt-leb, eqb-true, ltb-true, ltb-false}
use Rattle.rules.specs.declared.Fault.{Fault}
use Rattle.rules.specs.Stops.{Trappable}
use Rattle.rules.specs.Tests.{◌and◌}
use Rattle.rules.specs.Values.{Val}
use Rattle.rules.proofs.Tests.{both}
use Rattle.rules.proofs.Walk.{cond_either}
use Rattle.rules_unit.specs.declared.Parts.{Parts}
use Rattle.rules_unit.specs.declared.Refusal.{Refusal}
use Rattle.rules_unit.specs.declared.Refusal.TheVariants as refusal
use Rattle.rules_unit.specs.Codes.{Code}
use Rattle.rules_unit.specs.Decode.{code_of, decoded}
use Rattle.rules_unit.specs.Checks.{refusal_number, refusal_place, check_of}
use Rattle.rules_unit.proofs.Sound.{passed_sound}
use Rattle.rules_run.specs.declared.Caught.{Caught}
use Rattle.rules_run.specs.declared.Flow.{Flow}
use Rattle.rules_run.specs.declared.Flow.TheVariants as flow
use Rattle.rules_run.specs.declared.State.{State}
use Rattle.rules_run.specs.declared.Stop.{Stop}
use Rattle.rules_run.specs.declared.Stop.TheVariants as stop
use Rattle.rules_run.specs.declared.Turn.{Turn}
use Rattle.rules_run.specs.Turns.{turn_of}
use Rattle.rules_run.specs.States.{no_loop, HandlerSound, CaughtSound, Sound, started, look_of}
use Rattle.rules_run.specs.Stops.{stop_number}
use Rattle.rules_run.specs.Answers.{RunNumber, Erred, StopNo, no_of, Given}
use Rattle.rules_run.specs.Runs.{Moved, to, stuck, moved_by, led_by, Ran, run_from, run_of}
use Rattle.rules_run.proofs.Calls.{beforeb, call_refused, call_wrong_size, call_unsound, every_call}
use Rattle.rules_run.proofs.Steps.{every_run}
use Rattle.rules_run.proofs.Answers.{call_exactly, does_exactly, refused_by_number, erred_by_number, given_exactly}
use Rattle.rules_run.proofs.Lengths.{passed_dialect}
use Rattle.rules_run.proofs.SoundRuns.{passed_in, run_sound}
use Rattle.rules_run.proofs.Traps.{error_case}
use Rattle.rules_host.proofs.Laid.{laid_same}
use Rattle.rules_host.proofs.Listed.{length_listed, read_written}
use Rattle.rules_host.specs.Numbers.{listed, number_at, numbers_of, HandlerFits, CaughtFits, Fits, goodb, good_from, pairb, stateb, no_state, return_at, state_of}
use Rattle.rules_host.specs.Calls.{Handed, refusedb, handed_of, untouched, HostReads}

-- ---- a sound state

-- An error that is trapped has a number from 1 to 255.
five_range : (n : ℕ) → Trappable n → (0 < n) × (n ≤ 255)
five_range n (inl h) = (omega (arith, h.0), omega (arith, h.1))
five_range n (inr e) = (omega (arith, e), omega (arith, e))

-- It fits the numbers.
sound_fits : (u : List ℕ) (p : Parts) (s : State) → check_of u ≡ Ok p → Sound (code_of u p) s → length s.returns ≡ 50 → Fits s
sound_fits u p s e t l =
    record {
      at = omega (arith, t.place, most);
      depth = omega (arith, t.calls);
      count = l;
      each = λ i h. returns i h (ltb i s.depth) refl;
      opened = omega (arith, t.nested);
      slots = t.slots;
      entries = λ k h. entries k h (ltb k s.opened) refl;
      limits = λ k h. limits k h (ltb k s.opened) refl;
      steps = λ k h. steps k h (ltb k s.opened) refl;
      handled = handled s.trap.handler t.handled;
      told = told s.trap.caught t.told;
    }
  where
    most : p.n ≤ 2048
    most = (passed_sound u p e).ranges.n_most

    top : p.dialect.top ≤ 10 ^ 18
    top = (passed_dialect u p e).bound.most

    returns : (i : ℕ) → i < 50 → (b : Bool) → ltb i s.depth ≡ b → get_or s.returns i 0 ≤ 65535
    returns i h true f = omega (arith, t.used i (ltb-true i s.depth f) (omega (arith, l)), most)
    returns i h false f = omega (arith, t.unused i (ltb-false i s.depth f) (omega (arith, l)))

    entries : (k : ℕ) → k < 16 → (b : Bool) → ltb k s.opened ≡ b → (get_or s.loops k no_loop).entry ≤ 65535
    entries k h true f = omega (arith, (t.running k (ltb-true k s.opened f)).low, most)
    entries k h false f = rw (t.vacant k (ltb-false k s.opened f) h) (omega arith)

    limits : (k : ℕ) → k < 16 → (b : Bool) → ltb k s.opened ≡ b → Val (10 ^ 18) (get_or s.loops k no_loop).limit
    limits k h true f = record { small = omega (arith, (t.running k (ltb-true k s.opened f)).limit.small, top) }
    limits k h false f = rw (t.vacant k (ltb-false k s.opened f) h) (record { small = omega arith })

    handled : (h : Option ℕ) → HandlerSound p.n h → HandlerFits h
    handled None x = tt
    handled (Some i) x = omega (arith, x, most)

    told : (z : Option Caught) → CaughtSound p.n z → CaughtFits z
    told None x = tt
    told (Some e) x = let m = five_range e.number x.0 in (m.0, m.1, omega (arith, x.1, most))

    steps : (k : ℕ) → k < 16 → (b : Bool) → ltb k s.opened ≡ b → Val (10 ^ 18) (get_or s.loops k no_loop).step
    steps k h true f = record { small = omega (arith, (t.running k (ltb-true k s.opened f)).step.small, top) }
    steps k h false f = rw (t.vacant k (ltb-false k s.opened f) h) (record { small = omega arith })

-- ---- what is no state

pub none_unsound : (u : List ℕ) (p : Parts) → check_of u ≡ Ok p → Sound (code_of u p) no_state → ⊥
none_unsound u p e t = omega (arith, t.place, (passed_sound u p e).ranges.n_most)

pub none_state : (w : List ℕ) → stateb w ≡ false → state_of w ≡ no_state
unfolding state_of
none_state w e = rw e

-- Where the state read is sound for a unit, its numbers are a state's.
sound_state : (u w : List ℕ) (p : Parts) → check_of u ≡ Ok p → Sound (code_of u p) (state_of w) → stateb w ≡ true
sound_state u w p e t = by (stateb w) refl
  where
    by : (b : Bool) → stateb w ≡ b → stateb w ≡ true
    by true f = f
    by false f = absurd (none_unsound u p e (subst (Sound (code_of u p)) (none_state w f) t))

state_104 : (w : List ℕ) → stateb w ≡ true → length w ≡ 104
unfolding stateb
state_104 w e = eqb-true (length w) 104 ((both (eqb (length w) 104) (good_from 0 w and pairb (get_or w 102 0) (get_or w 103 0))).0 e).0

state_returns : (w : List ℕ) → stateb w ≡ true → length (state_of w).returns ≡ 50
unfolding state_of
state_returns w e = rw e (length_listed 50 (return_at w))

-- ---- the return numbers stay 50

abbrev Kept : ℕ → Moved → Type 0
Kept n (to s) = length s.returns ≡ n
Kept n (stuck f) = Unit {0}

moved_kept : (n : ℕ) (s : State) (f : Flow) → Kept (length s.returns) (moved_by n s f)
unfolding moved_by
moved_kept n s flow.Next = refl
moved_kept n s (flow.Goto i) = refl
moved_kept n s (flow.Call i) = cond_either (Kept (length s.returns)) (ltb s.depth 50) _ _ (length-set s.returns s.depth _) tt
moved_kept n s flow.Return = cond_either (Kept (length s.returns)) (eqb s.depth 0) _ _ tt (length-set s.returns _ 0)
moved_kept n s flow.Stop = refl
moved_kept n s (flow.Enter limit step) = refl
moved_kept n s (flow.Leave i) = refl
moved_kept n s (flow.Arm i) = refl
moved_kept n s flow.Disarm = refl

led_kept : (n : ℕ) (s : State) (t : Result Turn Fault) → Kept (length s.returns) (led_by n s t)
led_kept n s (Ok t) = moved_kept n s t.flow
led_kept n s (Err e) = error_case (Kept (length s.returns)) s e (λ z. tt) (λ i q r. refl)

run_kept : (c : Code) (m : ℕ) (s : State) (d : List ℕ) (k : ℕ) → length (run_from c m s d k).outcome.state.returns ≡ length s.returns
run_kept c =
    every_run c (λ m s d k r. length r.outcome.state.returns ≡ length s.returns) (λ m s d k h. refl) (λ s d k h. refl) (λ m s d k f h q. refl)
    (λ m s s' d k r h q x. x ∙ subst (Kept (length s.returns)) q (led_kept c.statements s (turn_of c (look_of s) s.at d)))

-- ---- what a call leaves

refusal_refuses : (r : Refusal) → refusedb (refusal_number r) ≡ true
unfolding refusedb
refusal_refuses refusal.NotFilled = refl
refusal_refuses refusal.BadRange = refl
refusal_refuses (refusal.BadField i) = refl
refusal_refuses (refusal.BadExpression i) = refl
refusal_refuses (refusal.BadStatement i) = refl

before_refuses : (e : Stop) → beforeb e ≡ true → refusedb (stop_number e) ≡ true
unfolding refusedb
before_refuses stop.End b = absurd (false≢true b)
before_refuses (stop.Refused r) b = refusal_refuses r
before_refuses stop.WrongSize b = refl
before_refuses stop.Unsound b = refl
before_refuses (stop.Failed f) b = absurd (false≢true b)
before_refuses stop.Spent b = absurd (false≢true b)

module _ (u d w : List ℕ) (m : ℕ) (a : List ℕ) where
  pub left_refused : (r : Refusal) → check_of u ≡ Err r → handed_of u d w m a ≡ untouched (refusal_number r) (refusal_place r) d w a
  unfolding handed_of
  left_refused r e = rw (call_refused u d (state_of w) m r e, refusal_refuses r)

  module _ (p : Parts) (e : check_of u ≡ Ok p) where
    pub left_wrong_size : (length d ≡ p.d → ⊥) → handed_of u d w m a ≡ untouched 6 0 d w a
    unfolding handed_of refusedb
    left_wrong_size n = rw (call_wrong_size u d (state_of w) m p e n)

    pub left_unsound : length d ≡ p.d → (Sound (code_of u p) (state_of w) → ⊥) → handed_of u d w m a ≡ untouched 7 0 d w a
    unfolding handed_of refusedb
    left_unsound l n = rw (call_unsound u d (state_of w) m p e l n)

    pub left_none : length d ≡ p.d → stateb w ≡ false → handed_of u d w m a ≡ untouched 7 0 d w a
    left_none l n = left_unsound l (λ t. none_unsound u p e (subst (Sound (code_of u p)) (none_state w n) t))

  -- Any other stop: the numbers are a state's, and so are those of the next state.
  ran_fits : refusedb (stop_number (run_of u d (state_of w) m).outcome.stop) ≡ false → (length w ≡ 104) × Fits (run_of u d (state_of w) m).outcome.state
  ran_fits =
      every_call (λ r. refusedb (stop_number r.outcome.stop) ≡ false → (length w ≡ 104) × Fits r.outcome.state) u d (state_of w) m
      (λ e b f. absurd (false≢true (sym f ∙ before_refuses e b)))
      (λ p e l t f.
      let s : stateb w ≡ true = sound_state u w p e t in
      let c = code_of u p in (
        state_104 w s,
        sound_fits u p (run_from c m (state_of w) d 0).outcome.state e (run_sound c (passed_in u p e) (passed_sound u p e).code m (state_of w) d 0 t)
            (run_kept c m (state_of w) d 0 ∙ state_returns w s),
      ))

  pub left_state : refusedb (handed_of u d w m a).stop ≡ false → (handed_of u d w m a).state ≡ numbers_of (run_of u d (state_of w) m).outcome.state
  unfolding handed_of
  left_state f =
      let h = ran_fits f in
      let l : length (numbers_of (run_of u d (state_of w) m).outcome.state) ≡ length w = length_listed 104 (number_at (run_of u d (state_of w) m).outcome.state) ∙ sym h.0 in
      rw (f, laid_same (numbers_of (run_of u d (state_of w) m).outcome.state) w l)

  pub goes_on : refusedb (handed_of u d w m a).stop ≡ false → state_of (handed_of u d w m a).state ≡ (run_of u d (state_of w) m).outcome.state
  unfolding handed_of
  goes_on f = ap state_of (left_state f) ∙ read_written (run_of u d (state_of w) m).outcome.state (ran_fits f).1

-- ---- what a host reads

run_refuses : (n : ℕ) → RunNumber n → refusedb n ≡ false
unfolding refusedb
run_refuses n (inl e) = rw e
run_refuses n (inr (inl h)) = rw (le-leb 1 n (omega (arith, h.0)), lt-leb n 7 (omega (arith, h.0)))
run_refuses n (inr (inr e)) = rw e

range_refuses : (n : ℕ) → 1 ≤ n → n ≤ 7 → refusedb n ≡ true
unfolding refusedb
range_refuses n x y = rw (le-leb 1 n x, le-leb n 7 y)

pub host_reads : (u d w : List ℕ) (m : ℕ) (a : List ℕ) → HostReads u d w m a (handed_of u d w m a)
unfolding handed_of
host_reads u d w m a =
    let ran = run_of u d (state_of w) m in
    record {
      ran = ran;
      does = (does_exactly u d (state_of w) m ran).0 refl;
      stop = refl;
      bytes = refl;
      kept = λ x y. rw (range_refuses (stop_number ran.outcome.stop) x y);
      next = λ n. left_state u d w m a (run_refuses (stop_number ran.outcome.stop) n);
      answer = refl;
    }

module _ (u d w : List ℕ) (m : ℕ) (a : List ℕ) (h : Handed) (r : HostReads u d w m a h) where
  host_ran : r.ran ≡ run_of u d (state_of w) m
  host_ran = (does_exactly u d (state_of w) m r.ran).1 r.does

  pub host_kept : 1 ≤ h.stop → h.stop ≤ 7 → (h.bytes ≡ d) × (h.state ≡ w)
  host_kept x y =
      let n : h.stop ≡ stop_number r.ran.outcome.stop = r.stop in
      let e = (call_exactly u d (state_of w) m r.ran).0 host_ran in
      (r.bytes ∙ (refused_by_number u d (state_of w) m r.ran e (omega (arith, x, n)) (omega (arith, y, n))).data_kept, r.kept x y)

  pub host_erred : 20 ≤ h.stop → h.stop ≤ 29 → Erred (decoded u) m (state_of w) d h.stop r.ran
  host_erred x y =
      let n : h.stop ≡ stop_number r.ran.outcome.stop = r.stop in
      let e = (call_exactly u d (state_of w) m r.ran).0 host_ran in
      subst (λ (k : ℕ). Erred (decoded u) m (state_of w) d k r.ran) (sym n) (erred_by_number u d (state_of w) m r.ran e (omega (arith, x, n)) (omega (arith, y, n)))

  pub host_given : (x : StopNo) (place : ℕ) → (h.stop ≡ no_of x) × (r.ran.outcome.place ≡ place) ↔ Given u d (state_of w) m x place
  host_given x place =
      let g = given_exactly u d (state_of w) m x place in
      let n : h.stop ≡ stop_number (run_of u d (state_of w) m).outcome.stop = r.stop ∙ ap (λ (y : Ran). stop_number y.outcome.stop) host_ran in
      let p : r.ran.outcome.place ≡ (run_of u d (state_of w) m).outcome.place = ap (λ (y : Ran). y.outcome.place) host_ran in
      (λ e. g.0 (sym n ∙ e.0, sym p ∙ e.1), λ e. (n ∙ (g.1 e).0, p ∙ (g.1 e).1))

pub zeros_start : state_of (replicate 104 0) ≡ started
unfolding state_of stateb good_from goodb listed
zeros_start = refl
