-- What keeps a statement from being completed (document 01, "Stops and their numbers").
--   turn_under depth t    what the turn t comes to where depth calls are open
-- The rule itself is `led_by` of rules_run; proofs/Flows.antt has the law that a turn leads where the rule says.
-- Assumes nothing.
use Rattle.std.specs.Prelude.{ℕ, cond, ltb, eqb, Result, Err, Ok}
use Rattle.rules.specs.declared.Fault.{Fault}
use Rattle.rules.specs.declared.Fault.TheVariants as fault
use Rattle.rules_run.specs.declared.Flow.{Flow}
use Rattle.rules_run.specs.declared.Flow.TheVariants as flow
use Rattle.rules_run.specs.declared.Turn.{Turn}

-- "24 | CALL with 50 calls open", "25 | RETURN with none open"
abbrev pub under_by : ℕ → Turn → Flow → Result Turn Fault
under_by depth t flow.Next = Ok t
under_by depth t (flow.Goto i) = Ok t
under_by depth t (flow.Call i) = cond (ltb depth 50) (Ok t) (Err fault.CallsFull)
under_by depth t flow.Return = cond (eqb depth 0) (Err fault.NoCall) (Ok t)
under_by depth t flow.Stop = Ok t
under_by depth t (flow.Enter limit step) = Ok t
under_by depth t (flow.Leave i) = Ok t
under_by depth t (flow.Arm i) = Ok t
under_by depth t flow.Disarm = Ok t

unfoldable pub turn_under : ℕ → Result Turn Fault → Result Turn Fault
turn_under depth (Ok t) = under_by depth t t.flow
turn_under depth (Err e) = Err e
