-- Where a flow leads (document 01, "Stops and their numbers"): what a turn comes to under the open calls, and where its flow leads, make the rule `led_by`.
--   led n s f            the state that f leads to from s, in a unit of n statements, whatever calls are open
--   led_under n s t      where a turn leads that was held against the open calls
-- Assumes nothing.
use Rattle.std.specs.Prelude.{None, Some, Result, Err, Ok}
use Prim.Native.Nat.{ℕ, ◌+◌, ◌<◌}
use native.Mathlib.Omega.{arith}
use mathlib.Core.Path.{◌≡◌, refl, sym, ap, ◌∙◌}
use mathlib.Core.Bool.{Bool, true, false, cond}
use lib.Dec.{ltb, eqb}
use lib.IntN.{ℤ}
use mir.Syntax.{w64}
use mir.Val.{SFits, to_z, of_z}
use borrow.Author.Tests.{ltb-true, eqb-false}
use Rattle.rules.specs.declared.Fault.{Fault}
use Rattle.rules.specs.declared.Fault.TheVariants as fault
use Rattle.rules.proofs.Walk.{cond_either}
use Rattle.rules.proofs.Signed.{back}
use Rattle.rules_run.specs.declared.Flow.{Flow}
use Rattle.rules_run.specs.declared.Flow.TheVariants as flow
use Rattle.rules_run.specs.declared.State.{State}
use Rattle.rules_run.specs.declared.Turn.{Turn}
use Rattle.rules_run.specs.States.{gone, called, returned, entered, closed, armed}
use Rattle.rules_run.specs.Runs.{Moved, to, stuck, on_error, moved_by, led_by}
use Rattle.run_loop.specs.Flows.{under_by, turn_under}

-- ---- where a flow leads

abbrev pub led : ℕ → State → Flow → State
led n s flow.Next = gone s (s.at + 1)
led n s (flow.Goto i) = gone s i
led n s (flow.Call i) = called s i
led n s flow.Return = returned s
led n s flow.Stop = gone s n
led n s (flow.Enter limit step) = entered s limit step
led n s (flow.Leave i) = closed s i
led n s (flow.Arm i) = armed s (Some i)
led n s flow.Disarm = armed s None

abbrev pub led_under : ℕ → State → Result Turn Fault → Moved
led_under n s (Ok t) = to (led n s t.flow)
led_under n s (Err e) = on_error s e

module _ (n : ℕ) (s : State) where
  -- The turn or the error, by the test of the open calls.
  call_moves : (t : Turn) (i : ℕ) (b : Bool) → t.flow ≡ flow.Call i → cond b (to (called s i)) (stuck fault.CallsFull) ≡ led_under n s (cond b (Ok t) (Err fault.CallsFull))
  call_moves t i true e = rw e
  call_moves t i false e = refl

  return_moves : (t : Turn) (b : Bool) → t.flow ≡ flow.Return → cond b (stuck fault.NoCall) (to (returned s)) ≡ led_under n s (cond b (Err fault.NoCall) (Ok t))
  return_moves t true e = refl
  return_moves t false e = rw e

  by_moves : (t : Turn) (f : Flow) → t.flow ≡ f → moved_by n s f ≡ led_under n s (under_by s.depth t f)
  unfolding moved_by
  by_moves t flow.Next e = rw e
  by_moves t (flow.Goto i) e = rw e
  by_moves t (flow.Call i) e = call_moves t i (ltb s.depth 50) e
  by_moves t flow.Return e = return_moves t (eqb s.depth 0) e
  by_moves t flow.Stop e = rw e
  by_moves t (flow.Enter limit step) e = rw e
  by_moves t (flow.Leave i) e = rw e
  by_moves t (flow.Arm i) e = rw e
  by_moves t flow.Disarm e = rw e

  -- A turn leads where the rule says.
  pub under_moves : (t : Result Turn Fault) → led_by n s t ≡ led_under n s (turn_under s.depth t)
  unfolding turn_under
  under_moves (Ok t) = by_moves t t.flow refl
  under_moves (Err e) = refl

-- ---- a turn that is followed

-- What holds of a turn and of every error holds of what the turn comes to.
module _ (P : Result Turn Fault → Type 0) (depth : ℕ) (fails : (e : Fault) → P (Err e)) where
  by_either : (t : Turn) → P (Ok t) → (f : Flow) → P (under_by depth t f)
  by_either t own flow.Next = own
  by_either t own (flow.Goto i) = own
  by_either t own (flow.Call i) = cond_either P (ltb depth 50) (Ok t) (Err fault.CallsFull) own (fails fault.CallsFull)
  by_either t own flow.Return = cond_either P (eqb depth 0) (Err fault.NoCall) (Ok t) (fails fault.NoCall) own
  by_either t own flow.Stop = own
  by_either t own (flow.Enter limit step) = own
  by_either t own (flow.Leave i) = own
  by_either t own (flow.Arm i) = own
  by_either t own flow.Disarm = own

  pub under_either : (t : Result Turn Fault) → P t → P (turn_under depth t)
  unfolding turn_under
  under_either (Ok t) own = by_either t own t.flow
  under_either (Err e) own = fails e

module _ (depth : ℕ) (t : Result Turn Fault) (x : Turn) (q : turn_under depth t ≡ Ok x) where
  -- It is what the statement answers.
  pub under_own : t ≡ Ok x
  under_own = under_either (λ r. r ≡ Ok x → t ≡ Ok x) depth (λ e z. let y : ◌≡◌ {A = ℕ} 0 1 = cc in absurd (omega arith)) t (λ z. z) q

  own_passes : under_by depth x x.flow ≡ Ok x
  unfolding turn_under
  own_passes = ap (turn_under depth) (sym under_own) ∙ q

  -- A CALL finds room, and a RETURN an open call.
  pub call_free : (i : ℕ) → x.flow ≡ flow.Call i → depth < 50
  call_free i h = by (ltb depth 50) refl (ap (under_by depth x) (sym h) ∙ own_passes)
    where
      by : (b : Bool) → ltb depth 50 ≡ b → cond b (Ok x) (Err fault.CallsFull) ≡ Ok x → depth < 50
      by true e z = ltb-true depth 50 e
      by false e z = let y : ◌≡◌ {A = ℕ} 0 1 = cc in absurd (omega arith)

  pub return_free : x.flow ≡ flow.Return → 0 < depth
  return_free h = by (eqb depth 0) refl (ap (under_by depth x) (sym h) ∙ own_passes)
    where
      by : (b : Bool) → eqb depth 0 ≡ b → cond b (Err fault.NoCall) (Ok x) ≡ Ok x → 0 < depth
      by true e z = let y : ◌≡◌ {A = ℕ} 0 1 = cc in absurd (omega arith)
      by false e z = omega (arith, eqb-false depth 0 e)

-- ---- what the code knows

-- What the statement answers is t: it is the turn x, or the error e.
pub under_worked : (depth : ℕ) (t r : Result Turn Fault) (x : Turn) → Ok x ≡ t → r ≡ turn_under depth (Ok x) → r ≡ turn_under depth t
under_worked depth t r x e h = rw (← e) h

pub under_failed : (depth : ℕ) (t : Result Turn Fault) (e : Fault) → Err e ≡ t → Err e ≡ turn_under depth t
unfolding turn_under
under_failed depth t e q = rw (← q) refl

-- In the arm of a flow g.
pub under_as : (depth : ℕ) (t : Turn) (g : Flow) (z : Result Turn Fault) → t.flow ≡ g → z ≡ under_by depth t g → z ≡ turn_under depth (Ok t)
unfolding turn_under
under_as depth t g z e h = h ∙ ap (under_by depth t) (sym e)

pub led_as : (n : ℕ) (s : State) (f g : Flow) (z : State) → f ≡ g → z ≡ led n s g → z ≡ led n s f
led_as n s f g z e h = rw e h

-- s' is what the code made of its own copies of the limit and the step.
pub entered_as : (s s' : State) {limit step : ℤ} → SFits w64 limit → SFits w64 step → s' ≡ entered s (to_z w64 (of_z w64 limit)) (to_z w64 (of_z w64 step)) → s' ≡ entered s limit step
entered_as s s' f g e = rw (back f, back g) at e
