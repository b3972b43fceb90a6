-- Stretch after stretch of a run: what ends one stops the run, or is an error that is trapped; one law for each way out of the code.
-- Assumes nothing.
use Rattle.std.specs.Prelude.{Option, None, Some}
use Prim.Native.Nat.{ℕ, suc, ◌+◌, ◌-◌, ◌<◌, ◌≤◌}
use native.Mathlib.Numerals.{add-one}
use native.Mathlib.Omega.{arith}
use mathlib.Core.Path.{◌≡◌, refl, sym, ap, ◌∙◌, subst}
use mathlib.Core.Bool.{Bool, true, false, cond}
use mathlib.Core.List.{List}
use lib.ListN.{length}
use Rattle.rules.specs.declared.Fault.{Fault}
use Rattle.rules.specs.Stops.{fault_number, trappedb, Trappable}
use Rattle.rules.proofs.Five.{trapped_to, trapped_of}
use Rattle.rules_unit.specs.Codes.{Code}
use Rattle.rules_run.specs.declared.Outcome.{Outcome}
use Rattle.rules_run.specs.declared.State.{State}
use Rattle.rules_run.specs.declared.Stop.{Stop}
use Rattle.rules_run.specs.declared.Stop.TheVariants as stop
use Rattle.rules_run.specs.States.{HandlerSound, Sound, caught_by}
use Rattle.rules_run.specs.Stops.{stop_place}
use Rattle.rules_run.specs.Runs.{to, stuck, next_of, data_after, Ran, run_from}
use Rattle.rules_run.proofs.Handlers.{stops_exactly, traps_exactly, given_keeps_data}
use Rattle.rules_run.proofs.States.{caught_sound}
use Rattle.rules_run.proofs.Steps.{ran, halted, run_ends, run_spent, run_fails, run_goes}
use Rattle.run_loop.specs.declared.After.{After}
use Rattle.run_loop.specs.declared.After.TheVariants as after
use Rattle.run_loop.specs.Stretches.{after_error, after_stop, EndsFor, Stretched}

-- ---- what comes after an error

stops_not : {n i : ℕ} → after.Stops ≡ after.Goes n i → ⊥
stops_not q = let z : ◌≡◌ {A = ℕ} 0 1 = cc in omega arith

same_way : {n i m j : ℕ} → after.Goes n i ≡ after.Goes m j → (n ≡ m) × (i ≡ j)
same_way q = (cc, cc)

-- Where the run stops, an error that could be trapped has found no handler.
none_stops : (h : Option ℕ) (e : Fault) → after_error h e ≡ after.Stops → Trappable (fault_number e) → h ≡ None
none_stops None e q t = refl
none_stops (Some i) e q t =
    let w : after_error (Some i) e ≡ after.Goes (fault_number e) i = rw (trapped_of (fault_number e) t) in
    absurd (stops_not (sym q ∙ w))

abbrev Goes : Option ℕ → Fault → ℕ → ℕ → Type 0
Goes h e n i = Trappable (fault_number e) × (h ≡ Some i) × (n ≡ fault_number e)

one_goes : (h : Option ℕ) (e : Fault) (n i : ℕ) → after_error h e ≡ after.Goes n i → Goes h e n i
one_goes None e n i q = absurd (stops_not q)
one_goes (Some j) e n i q = by (trappedb (fault_number e)) refl q
  where
    by : (b : Bool) → trappedb (fault_number e) ≡ b → cond b (after.Goes (fault_number e) j) after.Stops ≡ after.Goes n i → Goes (Some j) e n i
    by true t w = let v = same_way w in (trapped_to (fault_number e) t, ap Some v.1, sym v.0)
    by false t w = absurd (stops_not w)

-- ---- the code's tests

module _ (h : Option ℕ) (e : Fault) where
  pub error_none : h ≡ None → after.Stops ≡ after_error h e
  error_none q = rw q

  module _ (i n : ℕ) (b : Bool) (q : h ≡ Some i) (k : n ≡ fault_number e) (t : b ≡ trappedb n) where
    pub error_goes : b ≡ true → after.Goes n i ≡ after_error h e
    error_goes u = rw (q, ← k, ← t, u)

    pub error_stops_here : b ≡ false → after.Stops ≡ after_error h e
    error_stops_here u = rw (q, ← k, ← t, u)

pub after_failed : (h : Option ℕ) (s : Stop) (e : Fault) (r : After) → s ≡ stop.Failed e → r ≡ after_error h e → r ≡ after_stop h s
after_failed h s e r q w = rw q w

-- ---- a stretch that is over

module _ (c : Code) (m k : ℕ) (s : State) (d : List ℕ) (r : Outcome) (b : List ℕ) (x : Stretched c m k s d r b) where
  -- The run stops there.
  pub stretch_stops : (z : Ran) (a : After) → run_from c m s d k ≡ z → a ≡ after_stop r.state.trap.handler r.stop → a ≡ after.Stops → ran r b ≡ z
  stretch_stops z a w g q = by r.stop refl x.ends (sym g ∙ q) ∙ x.rest ∙ w
    where
      whole : (e : Stop) → r.stop ≡ e → ran r b ≡ ran (halted e (stop_place c.statements r.state.at e) r.count r.state) b
      whole e p =
          ap (λ (y : ℕ). ran (halted r.stop y r.count r.state) b) x.place
          ∙ ap (λ (y : Stop). ran (halted y (stop_place c.statements r.state.at y) r.count r.state) b) p

      by : (e : Stop) → r.stop ≡ e → EndsFor c x.left r.state b e → after_stop r.state.trap.handler e ≡ after.Stops
          → ran r b ≡ run_from c x.left r.state b r.count
      by stop.End p h o = whole stop.End p ∙ sym (run_ends c r.state b r.count x.left h)
      by (stop.Refused y) p h o = absurd h
      by stop.WrongSize p h o = absurd h
      by stop.Unsound p h o = absurd h
      by (stop.Failed e) p h o =
          let l : x.left ≡ suc (x.left - 1) = omega (arith, h.1) in
          let f : next_of c r.state b ≡ stuck e = (stops_exactly c r.state b e).1 (h.2, none_stops r.state.trap.handler e o) in
          whole (stop.Failed e) p ∙ sym (run_fails c r.state b r.count (x.left - 1) e h.0 f) ∙ ap (λ (y : ℕ). run_from c y r.state b r.count) (sym l)
      by stop.Spent p h o =
          whole stop.Spent p ∙ sym (run_spent c r.state b r.count h.0) ∙ ap (λ (y : ℕ). run_from c y r.state b r.count) (sym h.1)

  -- Its error is trapped: there is a statement left for it, and the run goes on at the handler.
  pub record OnTo (n i : ℕ) : Type 0 where
    pub some : r.count < k + m
    pub on : run_from c (k + m - (r.count + 1)) (caught_by r.state n i) b (r.count + 1) ≡ run_from c m s d k
    pub sound : Sound c (caught_by r.state n i)

  pub stretch_goes : (a : After) (n i : ℕ) → a ≡ after_stop r.state.trap.handler r.stop → a ≡ after.Goes n i → OnTo n i
  stretch_goes a n i g q = by r.stop x.ends (sym g ∙ q)
    where
      by : (e : Stop) → EndsFor c x.left r.state b e → after_stop r.state.trap.handler e ≡ after.Goes n i → OnTo n i
      by stop.End h o = absurd (stops_not o)
      by (stop.Refused y) h o = absurd h
      by stop.WrongSize h o = absurd h
      by stop.Unsound h o = absurd h
      by stop.Spent h o = absurd (stops_not o)
      by (stop.Failed e) h o =
          let w = one_goes r.state.trap.handler e n i o in
          let t = caught_by r.state n i in
          let l : x.left ≡ suc (k + m - (r.count + 1)) = omega (arith, h.1, x.allowed) in
          let f : next_of c r.state b ≡ to t = (traps_exactly c r.state b e h.2 t).1 (w.0, i, w.1, ap (λ (y : ℕ). caught_by r.state y i) w.2) in
          let v : data_after c r.state b ≡ b = given_keeps_data c r.state b e h.2 in
          let u : run_from c (suc (k + m - (r.count + 1))) r.state b r.count ≡ run_from c (k + m - (r.count + 1)) t b (suc r.count) =
          run_goes c r.state b r.count (k + m - (r.count + 1)) t h.0 f ∙ ap (λ (y : List ℕ). run_from c (k + m - (r.count + 1)) t y (suc r.count)) v in
          record {
            some = omega (arith, h.1, x.allowed);
            on =
                ap (λ (y : ℕ). run_from c (k + m - (r.count + 1)) t b y) (add-one r.count) ∙ sym u ∙ ap (λ (y : ℕ). run_from c y r.state b r.count) (sym l) ∙ x.rest;
            sound = caught_sound x.sound (subst Trappable (sym w.2) w.0) h.0 (subst (HandlerSound c.statements) w.1 x.sound.handled);
          }

-- ---- the loop over stretches: a is the allowance of the whole, of which k statements are completed before the stretch

module _ (c : Code) (a k : ℕ) (s : State) (d : List ℕ) (r : Outcome) (b : List ℕ) (x : Stretched c (a - k) k s d r b) (h : k ≤ a) where
  pub next_length : (l : ℕ) → length d ≡ l → length b ≡ l
  next_length l e = x.size ∙ e

  pub last_stops : (z : Ran) (t : After) → run_from c (a - k) s d k ≡ z → t ≡ after_stop r.state.trap.handler r.stop → t ≡ after.Stops → ran r b ≡ z
  last_stops z t = stretch_stops c (a - k) k s d r b x z t

  module _ (t : After) (n i : ℕ) (g : t ≡ after_stop r.state.trap.handler r.stop) (q : t ≡ after.Goes n i) where
    on_to : OnTo c (a - k) k s d r b x n i
    on_to = stretch_goes c (a - k) k s d r b x t n i g q

    pub next_count : r.count + 1 ≤ a
    next_count = omega (arith, on_to.some)

    pub next_fits : a < 18446744073709551616 → r.count + 1 < 18446744073709551616
    next_fits f = omega (arith, on_to.some)

    pub next_less : a - (r.count + 1) < a - k
    next_less = omega (arith, on_to.some, x.more)

    pub next_run : (z : Ran) (s' : State) → run_from c (a - k) s d k ≡ z → s' ≡ caught_by r.state n i → run_from c (a - (r.count + 1)) s' b (r.count + 1) ≡ z
    next_run z s' w e =
        let l : a - (r.count + 1) ≡ k + (a - k) - (r.count + 1) = omega arith in
        rw (e, l) (on_to.on ∙ w)

    pub next_sound : (s' : State) → s' ≡ caught_by r.state n i → Sound c s'
    next_sound s' e = rw e on_to.sound

-- The way on.
pub ruleset stretch_on = (next_run, next_sound)

-- ---- the first stretch, which is most often the last

pub first_length : {c : Code} {a : ℕ} {s : State} {d : List ℕ} {r : Outcome} {b : List ℕ} → Stretched c a 0 s d r b → {l : ℕ} → length d ≡ l → length b ≡ l
first_length x e = x.size ∙ e

module _ {c : Code} {a : ℕ} {s : State} {d : List ℕ} {r : Outcome} {b : List ℕ} (x : Stretched c a 0 s d r b) {t : After}
    (g : t ≡ after_stop r.state.trap.handler r.stop) where
  pub first_stops : t ≡ after.Stops → ran r b ≡ run_from c a s d 0
  first_stops = stretch_stops c a 0 s d r b x (run_from c a s d 0) t refl g

  module _ {n i : ℕ} (q : t ≡ after.Goes n i) where
    first_to : OnTo c a 0 s d r b x n i
    first_to = stretch_goes c a 0 s d r b x t n i g q

    pub first_count : r.count + 1 ≤ a
    first_count = omega (arith, first_to.some)

    pub first_fits : a < 18446744073709551616 → r.count + 1 < 18446744073709551616
    first_fits f = omega (arith, first_to.some)

    module _ {s' : State} (e : s' ≡ caught_by r.state n i) where
      pub first_sound : Sound c s'
      first_sound = rw e first_to.sound

      pub first_run : {z : Ran} → z ≡ run_from c (a - (r.count + 1)) s' b (r.count + 1) → z ≡ run_from c a s d 0
      first_run w =
          let l : a - (r.count + 1) ≡ 0 + a - (r.count + 1) = omega arith in
          let o : run_from c (a - (r.count + 1)) s' b (r.count + 1) ≡ run_from c a s d 0 = rw (e, l) first_to.on in
          w ∙ o
