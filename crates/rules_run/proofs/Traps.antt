-- An error that a statement gives (request 6 of document 02, "ONERROR and OFFERROR"): it is trapped, or it stops the run.
-- Assumes nothing.
use Rattle.std.specs.Prelude.{Option, None, Some, Err}
use Prim.Native.Nat.{ℕ}
use mathlib.Core.Path.{◌≡◌, refl, sym, ap, ◌∙◌}
use mathlib.Core.Bool.{false≢true}
use mathlib.Core.List.{List}
use Rattle.rules.specs.declared.Fault.{Fault}
use Rattle.rules.specs.Stops.{fault_number, trappedb, Trappable}
use Rattle.rules.proofs.Five.{trapped_to, trapped_of}
use Rattle.rules.proofs.Walk.{cond_case, cond_either}
use Rattle.rules_unit.specs.Codes.{Code}
use Rattle.rules_run.specs.declared.State.{State}
use Rattle.rules_run.specs.States.{caught_by, unhandled, look_of}
use Rattle.rules_run.specs.Turns.{turn_of}
use Rattle.rules_run.specs.Runs.{Moved, to, stuck, trap_by, on_error, led_by}
use Rattle.rules_run.specs.Answers.{GivesHere}

-- What holds where it stops the run, and where it is trapped, holds of where it leads.
pub error_case : (P : Moved → Type 0) (s : State) (e : Fault) → ((Trappable (fault_number e) → s.trap.handler ≡ None) → P (stuck e))
    → ((i : ℕ) → s.trap.handler ≡ Some i → Trappable (fault_number e) → P (to (caught_by s (fault_number e) i))) → P (on_error s e)
error_case P s e x f =
    cond_case P (trappedb (fault_number e)) (trap_by s e s.trap.handler) (stuck e) (λ q. by (trapped_to (fault_number e) q) s.trap.handler refl)
    (λ q. x (λ z. absurd (false≢true (sym q ∙ trapped_of (fault_number e) z))))
  where
    by : Trappable (fault_number e) → (h : Option ℕ) → s.trap.handler ≡ h → P (trap_by s e h)
    by q None r = x (λ z. r)
    by q (Some i) r = f i r q

-- Without a handler every error stops the run.
pub error_stops : (s : State) (e : Fault) → on_error (unhandled s) e ≡ stuck e
error_stops s e = cond_either (λ m. m ≡ stuck e) (trappedb (fault_number e)) (stuck e) (stuck e) refl refl

-- A turn that fails gives its error.
pub fails_here : (c : Code) (s : State) (d : List ℕ) (e : Fault) → turn_of c (look_of s) s.at d ≡ Err e → GivesHere c s d e
fails_here c s d e q = ap (led_by c.statements (unhandled s)) q ∙ error_stops s e
