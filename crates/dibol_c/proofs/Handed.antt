-- What a run leaves, one law for each way out of the code: s is the state read, q the outcome, d' the data after the run, n the stop's number,
-- b what the test of it answered.
-- Assumes nothing.
use Prim.Native.Nat.{ℕ}
use mathlib.Core.Path.{◌≡◌, sym, ap, ◌∙◌}
use mathlib.Core.Bool.{Bool, true, false, cond}
use mathlib.Core.List.{List, [], ◌∷◌}
use Rattle.rules_run.specs.declared.State.{State}
use Rattle.rules_run.specs.declared.Outcome.{Outcome}
use Rattle.rules_run.specs.Runs.{Ran, run_of}
use Rattle.rules_run.specs.Stops.{stop_number}
use Rattle.rules_host.specs.Laid.{laid}
use Rattle.rules_host.specs.Numbers.{numbers_of, state_of}
use Rattle.rules_host.specs.Calls.{Handed, refusedb, handed_of}

module _ (u d w : List ℕ) (k : ℕ) (a : List ℕ) (s : State) (is : s ≡ state_of w) where
  module _ (q : Outcome) (d' : List ℕ) (ran : ◌≡◌ {A = Ran} (record { outcome = q; bytes = d' }) (run_of u d s k)) where
    module _ (n : ℕ) (number : n ≡ stop_number q.stop) (a' : List ℕ) (put : a' ≡ laid (n ∷ (q.place ∷ (q.count ∷ []))) a) where
      -- The outcome handed over.
      whole : (b : Bool) → b ≡ refusedb n
          → ◌≡◌ {A = Handed} (record { stop = n; bytes = d'; state = cond b w (laid (numbers_of q.state) w); answer = a' }) (handed_of u d w k a)
      unfolding handed_of
      whole b e =
          let f : run_of u d (state_of w) k ≡ record { outcome = q; bytes = d' } = ap (λ (x : State). run_of u d x k) (sym is) ∙ sym ran in
          rw (f, e, put, number)

      -- 1 to 7
      pub handed_refused : (b : Bool) → b ≡ refusedb n → b ≡ true → ◌≡◌ {A = Handed} (record { stop = n; bytes = d'; state = w; answer = a' }) (handed_of u d w k a)
      handed_refused b e t = rw t at (whole b e)

      -- Any other stop.
      pub handed_on : (b : Bool) (w' : List ℕ) → b ≡ refusedb n → b ≡ false → w' ≡ laid (numbers_of q.state) w
          → ◌≡◌ {A = Handed} (record { stop = n; bytes = d'; state = w'; answer = a' }) (handed_of u d w k a)
      handed_on b w' e t f = rw f (rw t at (whole b e))

pub ruleset hands = (handed_refused, handed_on)
