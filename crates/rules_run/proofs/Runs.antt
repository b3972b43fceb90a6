-- Runs (document 01, "Stops and their numbers"): what each stop says, how statements are counted, and that a run which is gone on with comes
-- to what one run with both allowances comes to.
--   StopSays c m k r e    what the stop e says of the run r, with the allowance m after k completed statements
--   Counts m k r          how many statements r has completed
-- Assumes nothing.
use Prim.Native.Nat.{ℕ, suc, ◌+◌, ◌<◌, ◌≤◌}
use native.Mathlib.Nat.{zero-add, suc-add}
use native.Mathlib.Omega.{arith}
use mathlib.Core.Path.{◌≡◌, ◌∙◌}
use mathlib.Core.List.{List}
use Rattle.rules_unit.specs.Codes.{Code}
use Rattle.rules_run.specs.declared.State.{State}
use Rattle.rules_run.specs.declared.Stop.{Stop}
use Rattle.rules_run.specs.declared.Stop.TheVariants as stop
use Rattle.rules_run.specs.Runs.{stuck, next_of, Ran, counting, run_from}
use Rattle.rules_run.proofs.Steps.{run_ends, run_spent, run_fails, run_goes, every_run}

-- ---- what each stop says

-- The end is reached; all that was allowed is completed and the end is not reached; the statement where the state is gives the fault. The
-- other stops are given before a run.
abbrev pub StopSays : Code → ℕ → ℕ → Ran → Stop → Type 0
StopSays c m k r stop.End = c.statements ≤ r.outcome.state.at
StopSays c m k r (stop.Refused x) = ⊥
StopSays c m k r stop.WrongSize = ⊥
StopSays c m k r stop.Unsound = ⊥
StopSays c m k r (stop.Failed f) = (r.outcome.state.at < c.statements) × (next_of c r.outcome.state r.bytes ≡ stuck f)
StopSays c m k r stop.Spent = (r.outcome.state.at < c.statements) × (r.outcome.count ≡ k + m)

says_more : (c : Code) (m k : ℕ) (r : Ran) (e : Stop) → StopSays c m (suc k) r e → StopSays c (suc m) k r e
says_more c m k r stop.End h = h
says_more c m k r (stop.Refused x) h = h
says_more c m k r stop.WrongSize h = h
says_more c m k r stop.Unsound h = h
says_more c m k r (stop.Failed f) h = h
says_more c m k r stop.Spent h = (h.0, omega (arith, h.1))

pub stop_says : (c : Code) (m : ℕ) (s : State) (d : List ℕ) (k : ℕ) → StopSays c m k (run_from c m s d k) (run_from c m s d k).outcome.stop
stop_says c =
    every_run c (λ m s d k r. StopSays c m k r r.outcome.stop) (λ m s d k h. h) (λ s d k h. (h, omega arith)) (λ m s d k f h q. (h, q))
    (λ m s s' d k r h q x. says_more c m k r r.outcome.stop x)

-- ---- the count

pub record Counts (m k : ℕ) (r : Ran) : Type 0 where
  pub least : k ≤ r.outcome.count
  pub most : r.outcome.count ≤ k + m

pub run_counts : (c : Code) (m : ℕ) (s : State) (d : List ℕ) (k : ℕ) → Counts m k (run_from c m s d k)
run_counts c =
    every_run c (λ m s d k r. Counts m k r) (λ m s d k h. record { least = omega arith; most = omega arith })
    (λ s d k h. record { least = omega arith; most = omega arith }) (λ m s d k f h q. record { least = omega arith; most = omega arith })
    (λ m s s' d k r h q x. record { least = omega arith; most = omega arith })

-- A run that starts with j more completed ends with j more, and else as it would.
pub run_counted : (c : Code) (j m : ℕ) (s : State) (d : List ℕ) (k : ℕ) → run_from c m s d (j + k) ≡ counting j (run_from c m s d k)
run_counted c j =
    every_run c (λ m s d k r. run_from c m s d (j + k) ≡ counting j r) (λ m s d k h. run_ends c s d (j + k) m h) (λ s d k h. run_spent c s d (j + k) h)
    (λ m s d k f h q. run_fails c s d (j + k) m f h q)
    (λ m s s' d k r h q x. let e : suc (j + k) ≡ j + suc k = omega arith in run_goes c s d (j + k) m s' h q ∙ rw e x)

-- ---- going on

-- A run that was spent, gone on with for n statements more.
pub resumed : (c : Code) (n m : ℕ) (s : State) (d : List ℕ) (k : ℕ) → (run_from c m s d k).outcome.stop ≡ stop.Spent
    → run_from c (m + n) s d k ≡ run_from c n (run_from c m s d k).outcome.state (run_from c m s d k).bytes (run_from c m s d k).outcome.count
resumed c n =
    every_run c (λ m s d k r. r.outcome.stop ≡ stop.Spent → run_from c (m + n) s d k ≡ run_from c n r.outcome.state r.bytes r.outcome.count)
    (λ m s d k h y. let z : ◌≡◌ {A = ℕ} 0 1 = cc in absurd (omega arith)) (λ s d k h z. rw (zero-add n))
    (λ m s d k f h q y. let z : ◌≡◌ {A = ℕ} 0 1 = cc in absurd (omega arith))
    (λ m s s' d k r h q x z. rw (suc-add m n) (run_goes c s d k (m + n) s' h q ∙ x z))
