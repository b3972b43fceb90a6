-- A call that was spent, and gone on with from its state and data, comes to what one call with both allowances comes to (ticket 13).
-- Assumes nothing.
use Rattle.std.specs.Prelude.{Ok}
use Prim.Native.Nat.{ℕ, ◌+◌}
use native.Mathlib.Nat.{add-zero}
use mathlib.Core.Path.{◌≡◌, sym, ap, ◌∙◌}
use mathlib.Core.Bool.{false≢true}
use mathlib.Core.List.{List}
use lib.ListN.{length}
use Rattle.rules_unit.specs.declared.Parts.{Parts}
use Rattle.rules_unit.specs.Decode.{code_of}
use Rattle.rules_unit.specs.Checks.{check_of}
use Rattle.rules_unit.proofs.Sound.{passed_sound}
use Rattle.rules_run.specs.declared.State.{State}
use Rattle.rules_run.specs.declared.Stop.TheVariants as stop
use Rattle.rules_run.specs.States.{Sound}
use Rattle.rules_run.specs.Runs.{counting, run_from, run_of}
use Rattle.rules_run.proofs.Runs.{run_counted, resumed}
use Rattle.rules_run.proofs.SoundRuns.{passed_in, run_sound}
use Rattle.rules_run.proofs.Calls.{beforeb, call_runs, every_call}
use Rattle.rules_run.proofs.Lengths.{passed_length}

-- "if a run with allowance m ends in 30, and it is resumed from its state and data with allowance n, then the stop, state and data equal those of
-- one run with allowance m + n, and the two counts add up to that run's count."
pub call_resumed : (u d : List ℕ) (s : State) (m n : ℕ) → (run_of u d s m).outcome.stop ≡ stop.Spent
    → run_of u d s (m + n) ≡ counting (run_of u d s m).outcome.count (run_of u (run_of u d s m).bytes (run_of u d s m).outcome.state n)
call_resumed u d s m n =
    every_call (λ r. r.outcome.stop ≡ stop.Spent → run_of u d s (m + n) ≡ counting r.outcome.count (run_of u r.bytes r.outcome.state n)) u d s m
    (λ e b z. absurd (false≢true (sym (ap beforeb z) ∙ b))) again
  where
    again : (p : Parts) → check_of u ≡ Ok p → length d ≡ p.d → Sound (code_of u p) s → (run_from (code_of u p) m s d 0).outcome.stop ≡ stop.Spent
        → run_of u d s (m + n)
        ≡ counting (run_from (code_of u p) m s d 0).outcome.count (run_of u (run_from (code_of u p) m s d 0).bytes (run_from (code_of u p) m s d 0).outcome.state n)
    again p e l t z =
        let r = run_from (code_of u p) m s d 0 in
        let k = r.outcome.count in
        let l' : length r.bytes ≡ p.d = passed_length u p e m s d 0 ∙ l in
        let t' : Sound (code_of u p) r.outcome.state = run_sound (code_of u p) (passed_in u p e) (passed_sound u p e).code m s d 0 t in
        call_runs u d s (m + n) p e l t
        ∙ resumed (code_of u p) n m s d 0 z
        ∙ ap (run_from (code_of u p) n r.outcome.state r.bytes) (sym (add-zero k))
        ∙ run_counted (code_of u p) k n r.outcome.state r.bytes 0
        ∙ ap (counting k) (sym (call_runs u r.bytes r.outcome.state n p e l' t'))
