-- A call of the run (document 01, "Stops and their numbers"): the first check that is not passed refuses it, and it runs where all are.
--   beforeb e    e is given before a run: 1 to 7
-- Assumes nothing.
use Rattle.std.specs.Prelude.{Result, Err, Ok}
use Prim.Native.Nat.{ℕ}
use mathlib.Core.Path.{◌≡◌, refl}
use mathlib.Core.Bool.{Bool, true, false, cond}
use mathlib.Core.List.{List}
use lib.Dec.{eqb}
use lib.ListN.{length}
use borrow.Author.Tests.{eqb-true, eq-eqb, ne_eqb}
use Rattle.rules_unit.specs.declared.Parts.{Parts}
use Rattle.rules_unit.specs.declared.Refusal.{Refusal}
use Rattle.rules_unit.specs.Decode.{code_of}
use Rattle.rules_unit.specs.Checks.{check_of}
use Rattle.rules_unit.proofs.Tells.{tells_no}
use Rattle.rules_run.specs.declared.State.{State}
use Rattle.rules_run.specs.declared.Stop.{Stop}
use Rattle.rules_run.specs.declared.Stop.TheVariants as stop
use Rattle.rules_run.specs.States.{soundb, Sound}
use Rattle.rules_run.specs.Runs.{Ran, refused, run_from, run_checked, run_by, run_of}
use Rattle.rules_run.proofs.States.{sound_tells, sound_of, sound_to}

-- The stops 1 to 7.
abbrev pub beforeb : Stop → Bool
beforeb stop.End = false
beforeb (stop.Refused r) = true
beforeb stop.WrongSize = true
beforeb stop.Unsound = true
beforeb (stop.Failed f) = false
beforeb stop.Spent = false

module _ (u d : List ℕ) (s : State) (m : ℕ) where
  -- "Checks 1, 2, 3 run in order; then each statement in turn"
  pub call_refused : (r : Refusal) → check_of u ≡ Err r → run_of u d s m ≡ refused (stop.Refused r) s d
  unfolding run_of
  call_refused r e = rw e

  module _ (p : Parts) (e : check_of u ≡ Ok p) where
    -- "6 | data buffer isn't D bytes"
    pub call_wrong_size : (length d ≡ p.d → ⊥) → run_of u d s m ≡ refused stop.WrongSize s d
    unfolding run_of run_checked
    call_wrong_size n = rw (e, ne_eqb (length d) p.d n)

    -- "7 | resume state unsound"
    pub call_unsound : length d ≡ p.d → (Sound (code_of u p) s → ⊥) → run_of u d s m ≡ refused stop.Unsound s d
    unfolding run_of run_checked
    call_unsound l n = rw (e, eq-eqb (length d) p.d l, tells_no (sound_tells (code_of u p) s) n)

    pub call_runs : length d ≡ p.d → Sound (code_of u p) s → run_of u d s m ≡ run_from (code_of u p) m s d 0
    unfolding run_of run_checked
    call_runs l t = rw (e, eq-eqb (length d) p.d l, sound_of (code_of u p) s t)

-- A fact of every call: it holds where the call is refused, and of the run where it is not.
pub every_call : (P : Ran → Type 0) (u d : List ℕ) (s : State) (m : ℕ) → ((e : Stop) → beforeb e ≡ true → P (refused e s d))
    → ((p : Parts) → check_of u ≡ Ok p → length d ≡ p.d → Sound (code_of u p) s → P (run_from (code_of u p) m s d 0)) → P (run_of u d s m)
unfolding run_of run_checked
every_call P u d s m before runs = by (check_of u) refl
  where
    tested : (p : Parts) → check_of u ≡ Ok p → (t v : Bool) → eqb (length d) p.d ≡ t → soundb (code_of u p) s ≡ v
        → P (cond t (cond v (run_from (code_of u p) m s d 0) (refused stop.Unsound s d)) (refused stop.WrongSize s d))
    tested p e true true f g = runs p e (eqb-true (length d) p.d f) (sound_to (code_of u p) s g)
    tested p e true false f g = before stop.Unsound refl
    tested p e false v f g = before stop.WrongSize refl

    by : (x : Result Parts Refusal) → check_of u ≡ x → P (run_by u d s m x)
    by (Ok p) e = tested p e (eqb (length d) p.d) (soundb (code_of u p) s) refl refl
    by (Err r) e = before (stop.Refused r) refl
