-- The run (document 01, "Stops and their numbers"; requests 4 and 6 of document 02, "FOR loops", "ONERROR and OFFERROR").
--   on_error s e             where a statement that gives the error e leads from the state s: to the handler, or nowhere
--   moved_by n s f           where a statement's flow leads from the state s, or the fault that stops it there
--   led_by n s t, data_by c d t    where a statement that answers t leads from the state s, and what it makes of the data d
--   next_of c s d, data_after c s d    the same of the statement at s
--   run_from c m s d k       at most m statements from the state s and the data d, after k completed ones
--   run_of u d s m           the checks 1 to 7, then the run
-- Assumes nothing.
use Rattle.rules_unit.specs.declared.Refusal.{Refusal}
use Rattle.std.specs.Prelude.{ℕ, zero, suc, ◌+◌, cond, List, ltb, eqb, length, Result, Err, Ok, Option, None, Some}
use Rattle.rules.specs.declared.Fault.{Fault}
use Rattle.rules.specs.declared.Fault.TheVariants as fault
use Rattle.rules.specs.Stops.{fault_number, trappedb}
use Rattle.rules_unit.specs.declared.Parts.{Parts}
use Rattle.rules_unit.specs.Codes.{Code}
use Rattle.rules_unit.specs.Decode.{code_of}
use Rattle.rules_unit.specs.Checks.{check_of}
use Rattle.rules_run.specs.declared.Flow.{Flow}
use Rattle.rules_run.specs.declared.Flow.TheVariants as flow
use Rattle.rules_run.specs.declared.State.{State}
use Rattle.rules_run.specs.declared.Stop.{Stop}
use Rattle.rules_run.specs.declared.Stop.TheVariants as stop
use Rattle.rules_run.specs.declared.Outcome.{Outcome}
use Rattle.rules_run.specs.declared.Turn.{Turn}
use Rattle.rules_run.specs.Turns.{applied, turn_of}
use Rattle.rules_run.specs.States.{soundb, gone, called, returned, entered, closed, armed, caught_by, look_of}
use Rattle.rules_run.specs.Stops.{stop_place}

-- ---- one step

pub data Moved : Type 0 where
  to : State → Moved
  stuck : Fault → Moved

-- "After ONERROR c, one of the errors 20, 21, 22, 23 or 26 .. goes on at c"
abbrev pub trap_by : State → Fault → Option ℕ → Moved
trap_by s e None = stuck e
trap_by s e (Some i) = to (caught_by s (fault_number e) i)

abbrev pub on_error : State → Fault → Moved
on_error s e = cond (trappedb (fault_number e)) (trap_by s e s.trap.handler) (stuck e)

-- "24 | CALL with 50 calls open", "25 | RETURN with none open"; "STOP sets the statement number to N and keeps the open calls."
unfoldable pub moved_by : ℕ → State → Flow → Moved
moved_by n s flow.Next = to (gone s (s.at + 1))
moved_by n s (flow.Goto i) = to (gone s i)
moved_by n s (flow.Call i) = cond (ltb s.depth 50) (to (called s i)) (stuck fault.CallsFull)
moved_by n s flow.Return = cond (eqb s.depth 0) (stuck fault.NoCall) (to (returned s))
moved_by n s flow.Stop = to (gone s n)
moved_by n s (flow.Enter limit step) = to (entered s limit step)
moved_by n s (flow.Leave i) = to (closed s i)
moved_by n s (flow.Arm i) = to (armed s (Some i))
moved_by n s flow.Disarm = to (armed s None)

abbrev pub led_by : ℕ → State → Result Turn Fault → Moved
led_by n s (Ok t) = moved_by n s t.flow
led_by n s (Err e) = on_error s e

-- "A statement that ends in a run error has changed nothing."
abbrev pub data_by : Code → List ℕ → Result Turn Fault → List ℕ
data_by c d (Ok t) = applied c d t.write
data_by c d (Err e) = d

-- Where the statement at s leads over the data d, or the fault that stops it there; and what it makes of the data.
abbrev pub next_of : Code → State → List ℕ → Moved
next_of c s d = led_by c.statements s (turn_of c (look_of s) s.at d)

abbrev pub data_after : Code → State → List ℕ → List ℕ
data_after c s d = data_by c d (turn_of c (look_of s) s.at d)

-- ---- the run

-- What a call leaves: its outcome, and the data.
pub record Ran : Type 0 where
  pub outcome : Outcome
  pub bytes : List ℕ

-- A call of a unit of n statements that ends in the state s, with k statements completed.
abbrev pub ended : ℕ → Stop → State → ℕ → List ℕ → Ran
ended n e s k d = record { outcome = record { stop = e; place = stop_place n s.at e; count = k; state = s }; bytes = d }

-- The same call, where j more statements are counted.
abbrev pub counting : ℕ → Ran → Ran
counting j r =
    record { outcome = record { stop = r.outcome.stop; place = r.outcome.place; count = j + r.outcome.count; state = r.outcome.state }; bytes = r.bytes }

abbrev pub on_moved : Moved → (State → Ran) → (Fault → Ran) → Ran
on_moved (to s) k e = k s
on_moved (stuck f) k e = e f

-- "Reaching N is the end"; "An allowance of 0 gives 30, or 0 where the state is already at N."; "A run error leaves the state at its statement,
-- which isn't counted."; one that is trapped "counts the statement as completed". The data changes with a completed statement alone.
unfoldable pub run_from : Code → ℕ → State → List ℕ → ℕ → Ran
run_from c zero s d k = cond (ltb s.at c.statements) (ended c.statements stop.Spent s k d) (ended c.statements stop.End s k d)
run_from c (suc m) s d k =
    let t = turn_of c (look_of s) s.at d in
    let more = on_moved (led_by c.statements s t) (λ s'. run_from c m s' (data_by c d t) (suc k)) (λ f. ended c.statements (stop.Failed f) s k d) in
    cond (ltb s.at c.statements) more (ended c.statements stop.End s k d)

-- ---- the checks before it

-- "After 1 to 7 nothing is changed and the count is 0."
abbrev pub refused : Stop → State → List ℕ → Ran
refused e s d = ended 0 e s 0 d

-- "then 6, 7"
unfoldable pub run_checked : List ℕ → Parts → List ℕ → State → ℕ → Ran
run_checked u p d s m =
    let ran = run_from (code_of u p) m s d 0 in
    cond (eqb (length d) p.d) (cond (soundb (code_of u p) s) ran (refused stop.Unsound s d)) (refused stop.WrongSize s d)

abbrev pub run_by : List ℕ → List ℕ → State → ℕ → Result Parts Refusal → Ran
run_by u d s m (Ok p) = run_checked u p d s m
run_by u d s m (Err r) = refused (stop.Refused r) s d

unfoldable pub run_of : List ℕ → List ℕ → State → ℕ → Ran
run_of u d s m = run_by u d s m (check_of u)
