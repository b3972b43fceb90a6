-- A call of the run (document 01, "Stops and their numbers"): one law for each way out of it, with what the code knows there as premises. In each,
-- v is the answer of the check.
-- Assumes nothing.
use Rattle.std.specs.Prelude.{Result, Err, Ok, None}
use Prim.Native.Nat.{ℕ}
use mathlib.Core.Path.{◌≡◌, sym, ap, ◌∙◌}
use mathlib.Core.Bool.{Bool, true, false, not, false≢true}
use mathlib.Core.List.{List}
use lib.ListN.{length, replicate}
use borrow.Author.Tests.{not-true, not-false}
use Rattle.rules_unit.specs.declared.Parts.{Parts}
use Rattle.rules_unit.specs.declared.Refusal.{Refusal}
use Rattle.rules_unit.specs.Codes.{Code}
use Rattle.rules_unit.specs.Decode.{Fills, SoundDialect, code_of}
use Rattle.rules_unit.specs.Checks.{refusal_place, check_of}
use Rattle.rules_unit.proofs.Sound.{passed_fills, passed_by}
use Rattle.rules_run.specs.declared.Loop.{Loop}
use Rattle.rules_run.specs.declared.State.{State}
use Rattle.rules_run.specs.declared.Stop.TheVariants as stop
use Rattle.rules_run.specs.declared.Outcome.{Outcome}
use Rattle.rules_run.specs.States.{no_loop, Sound, soundb, started}
use Rattle.rules_run.specs.Runs.{run_from, run_of}
use Rattle.rules_run.proofs.Lengths.{passed_dialect}
use Rattle.rules_run.proofs.States.{sound_of, sound_to}
use Rattle.rules_run.proofs.Steps.{halted, ran}
use Rattle.rules_run.proofs.Calls.{call_refused, call_wrong_size, call_unsound, call_runs}

-- The state before the first statement, with what the code made of an empty slot.
pub start_by : (x : Loop) (z : State) → x ≡ no_loop → z ≡ record { at = 0; depth = 0; returns = replicate 50 0; opened = 0; loops = replicate 16 x; trap = record { handler = None; caught = None } } → z ≡ started
start_by x z e q = q ∙ rw e

-- What `run_state::sound` asks of the unit.
module _ (u : List ℕ) (v : Result Parts Refusal) (is : v ≡ check_of u) (p : Parts) (e : v ≡ Ok p) where
  pub unit_dialect : SoundDialect p.dialect
  unit_dialect = passed_dialect u p (passed_by u v is p e)

-- What it answered.
module _ (c : Code) (s : State) (b : Bool) (says : b ≡ soundb c s) where
  pub sound_by : not b ≡ false → Sound c s
  sound_by h = sound_to c s (sym says ∙ not-false b h)

  unsound_by : not b ≡ true → Sound c s → ⊥
  unsound_by h t = false≢true (sym (not-true b h) ∙ says ∙ sound_of c s t)

module _ (u : List ℕ) (v : Result Parts Refusal) (is : v ≡ check_of u) where
  module _ (d : List ℕ) (s : State) (m : ℕ) (r : Outcome) where
    -- 1 to 5
    pub refused_way : (q : Refusal) (place : ℕ) → v ≡ Err q → place ≡ refusal_place q → r ≡ halted (stop.Refused q) place 0 s → ran r d ≡ run_of u d s m
    refused_way q place e f g =
        ap (λ (x : Outcome). ran x d) (g ∙ ap (λ (x : ℕ). halted (stop.Refused q) x 0 s) f) ∙ sym (call_refused u d s m q (sym is ∙ e))

    module _ (p : Parts) (e : v ≡ Ok p) where
      -- 6
      pub size_way : (length d ≡ p.d → ⊥) → r ≡ halted stop.WrongSize 0 0 s → ran r d ≡ run_of u d s m
      size_way n g = ap (λ (x : Outcome). ran x d) g ∙ sym (call_wrong_size u d s m p (passed_by u v is p e) n)

      module _ (l : length d ≡ p.d) (b : Bool) (says : b ≡ soundb (code_of u p) s) where
        -- 7
        pub state_way : not b ≡ true → r ≡ halted stop.Unsound 0 0 s → ran r d ≡ run_of u d s m
        state_way h g = ap (λ (x : Outcome). ran x d) g ∙ sym (call_unsound u d s m p (passed_by u v is p e) l (unsound_by (code_of u p) s b says h))

        pub run_way : (d' : List ℕ) → not b ≡ false → ran r d' ≡ run_from (code_of u p) m s d 0 → ran r d' ≡ run_of u d s m
        run_way d' h g = g ∙ sym (call_runs u d s m p (passed_by u v is p e) l (sound_by (code_of u p) s b says h))

pub ruleset call_ways = (refused_way, size_way, state_way, run_way)
