-- Demand 3 of a call of the run (the owner's letter): a unit with a yes, data of its size whose decimal elements are all valid, a sound resume
-- state and any allowance.
-- Assumes nothing.
use Prim.Native.Nat.{ℕ}
use mathlib.Core.Path.{◌≡◌, sym, subst}
use mathlib.Core.List.{List}
use lib.ListN.{length}
use Rattle.rules.specs.declared.Fault.{Fault}
use Rattle.rules_unit.specs.Decode.{parts_of, code_of}
use Rattle.rules_unit.proofs.Sound.{sound_passed}
use Rattle.rules_run.specs.declared.State.{State}
use Rattle.rules_run.specs.States.{Sound}
use Rattle.rules_run.specs.Runs.{Ran, run_of}
use Rattle.rules_run.specs.Answers.{Gives}
use Rattle.rules_run.proofs.Calls.{call_runs}
use Rattle.rules_run.proofs.Lengths.{passed_dialect}
use Rattle.rules_run.proofs.SoundRuns.{passed_in}
use Rattle.rules_fence.specs.declared.Verdict.TheVariants as verdict
use Rattle.rules_fence.specs.Breaches.{fence_of}
use Rattle.rules_fence.specs.Destinations.{AllValid, BadText}
use Rattle.rules_fence.specs.Safety.{Safe, ErrorsSafe}
use Rattle.rules_fence.proofs.Mild.{MildFault}
use Rattle.rules_fence.proofs.Safe.{mild_21, mild_22, run_safe, gives_mild}
use Rattle.rules_fence.proofs.Verdicts.{fence_exactly}

pub call_safe : (u : List ℕ) → fence_of u ≡ verdict.Yes → (d : List ℕ) → length d ≡ (parts_of u).d → AllValid (code_of u (parts_of u)) d
    → (s : State) → Sound (code_of u (parts_of u)) s → (m : ℕ) → Safe (code_of u (parts_of u)) d (run_of u d s m)
call_safe u y d l v s t m =
    let p = parts_of u in
    let f = (fence_exactly u verdict.Yes).0 y in
    let e = sound_passed u p f.0 in
    let dialect = passed_dialect u p e in
    subst (λ (r : Ran). Safe (code_of u p) d r) (sym (call_runs u d s m p e l t))
    (run_safe (code_of u p) (passed_in u p e) f.0.code dialect.limit dialect.letters dialect.bound f.1 m s d 0 l v t)

pub call_errors : (u : List ℕ) → fence_of u ≡ verdict.Yes → (d : List ℕ) → length d ≡ (parts_of u).d → AllValid (code_of u (parts_of u)) d
    → (s : State) → Sound (code_of u (parts_of u)) s → (m : ℕ) → ErrorsSafe (code_of u (parts_of u)) m s d
call_errors u y d l v s t m =
    let p = parts_of u in
    let f = (fence_exactly u verdict.Yes).0 y in
    let e = sound_passed u p f.0 in
    let dialect = passed_dialect u p e in
    let mild : (x : Fault) (g : Gives (code_of u p) m s d x) → MildFault (BadText (code_of u p) g.seen ((code_of u p).statement g.at.at)) x =
    λ x g. gives_mild (code_of u p) (passed_in u p e) f.0.code dialect.limit dialect.letters dialect.bound f.1 m s d x l v t g in
    record { never_21 = λ x q g. mild_21 _ x (mild x g) q; always_text = λ x q g. mild_22 _ x (mild x g) q }
