-- A run, one statement at a time (document 01, "Stops and their numbers"), and how to prove a fact of every run.
-- Assumes nothing.
use Prim.Native.Nat.{ℕ, zero, suc, ◌<◌, ◌≤◌}
use mathlib.Core.Path.{◌≡◌, refl}
use mathlib.Core.Bool.{Bool, true, false}
use mathlib.Core.List.{List}
use lib.Dec.{ltb}
use borrow.Author.Tests.{ltb-true, ltb-false, lt-ltb, le-ltb}
use Rattle.rules.specs.declared.Fault.{Fault}
use Rattle.rules_unit.specs.Codes.{Code}
use Rattle.rules_run.specs.declared.State.{State}
use Rattle.rules_run.specs.declared.Stop.{Stop}
use Rattle.rules_run.specs.declared.Stop.TheVariants as stop
use Rattle.rules_run.specs.declared.Outcome.{Outcome}
use Rattle.rules_run.specs.Runs.{Moved, to, stuck, next_of, data_after, Ran, ended, run_from}

-- ---- what a call leaves, part by part

abbrev pub halted : Stop → ℕ → ℕ → State → Outcome
halted e place k s = record { stop = e; place = place; count = k; state = s }

abbrev pub ran : Outcome → List ℕ → Ran
ran r d = record { outcome = r; bytes = d }

-- ---- the four ways of a step

module _ (c : Code) (s : State) (d : List ℕ) (k : ℕ) where
  -- "Reaching N is the end."
  pub run_ends : (m : ℕ) → c.statements ≤ s.at → run_from c m s d k ≡ ended c.statements stop.End s k d
  unfolding run_from
  run_ends zero h = rw (le-ltb s.at c.statements h)
  run_ends (suc m) h = rw (le-ltb s.at c.statements h)

  -- "30 | allowance spent before the end | next statement"
  pub run_spent : s.at < c.statements → run_from c zero s d k ≡ ended c.statements stop.Spent s k d
  unfolding run_from
  run_spent h = rw (lt-ltb s.at c.statements h)

  -- "A run error leaves the state at its statement, which isn't counted."
  pub run_fails : (m : ℕ) (f : Fault) → s.at < c.statements → next_of c s d ≡ stuck f → run_from c (suc m) s d k ≡ ended c.statements (stop.Failed f) s k d
  unfolding run_from
  run_fails m f h e = rw (lt-ltb s.at c.statements h, e)

  -- A completed statement is counted, and the run goes on with what it left.
  pub run_goes : (m : ℕ) (s' : State) → s.at < c.statements → next_of c s d ≡ to s' → run_from c (suc m) s d k ≡ run_from c m s' (data_after c s d) (suc k)
  unfolding run_from
  run_goes m s' h e = rw (lt-ltb s.at c.statements h, e)

-- ---- every run

-- A fact of every run of c: it holds at the end, where the allowance is spent and at an error, and a completed statement hands it on.
module _ (c : Code) (P : ℕ → State → List ℕ → ℕ → Ran → Type 0)
    (at_end : (m : ℕ) (s : State) (d : List ℕ) (k : ℕ) → c.statements ≤ s.at → P m s d k (ended c.statements stop.End s k d))
    (at-spent : (s : State) (d : List ℕ) (k : ℕ) → s.at < c.statements → P zero s d k (ended c.statements stop.Spent s k d))
    (at-fault : (m : ℕ) (s : State) (d : List ℕ) (k : ℕ) (f : Fault) → s.at < c.statements → next_of c s d ≡ stuck f
    → P (suc m) s d k (ended c.statements (stop.Failed f) s k d))
    (onward : (m : ℕ) (s s' : State) (d : List ℕ) (k : ℕ) (r : Ran) → s.at < c.statements → next_of c s d ≡ to s'
    → P m s' (data_after c s d) (suc k) r → P (suc m) s d k r) where
  pub every_run : (m : ℕ) (s : State) (d : List ℕ) (k : ℕ) → P m s d k (run_from c m s d k)
  every_run zero s d k = by (ltb s.at c.statements) refl
    where
      by : (t : Bool) → ltb s.at c.statements ≡ t → P zero s d k (run_from c zero s d k)
      by true e = let h = ltb-true s.at c.statements e in rw (run_spent c s d k h) (at-spent s d k h)
      by false e = let h = ltb-false s.at c.statements e in rw (run_ends c s d k zero h) (at_end zero s d k h)
  every_run (suc m) s d k = by (λ s'. every_run m s' (data_after c s d) (suc k)) (ltb s.at c.statements) refl (next_of c s d) refl
    where
      by : ((s' : State) → P m s' (data_after c s d) (suc k) (run_from c m s' (data_after c s d) (suc k))) → (t : Bool) → ltb s.at c.statements ≡ t
          → (x : Moved) → next_of c s d ≡ x → P (suc m) s d k (run_from c (suc m) s d k)
      by more true e (to s') q =
          let h = ltb-true s.at c.statements e in
          rw (run_goes c s d k m s' h q) (onward m s s' d k (run_from c m s' (data_after c s d) (suc k)) h q (more s'))
      by more true e (stuck f) q = let h = ltb-true s.at c.statements e in rw (run_fails c s d k m f h q) (at-fault m s d k f h q)
      by more false e x q = let h = ltb-false s.at c.statements e in rw (run_ends c s d k (suc m) h) (at_end (suc m) s d k h)
