-- What a call of the run says (document 01, "Stops and their numbers"): when it is refused, what a run does, and of each number when it is given. Request 6 of
-- document 02, "ONERROR and OFFERROR": an error is given also where it is trapped.
--   Reaches c k s d s' d'    k statements, one after the other, lead from the state s and the data d to s' and d'
--   GivesHere c s d f        the statement where the state s is gives the error f over the data d, trapped or not
--   Gives c m s d f          within m statements from s and d one gives the error f, trapped or not
--   StopsFor c left s d e    the run goes no further than s and d, by e, with left statements still allowed
--   RunSays c m s d r        what a run r of at most m statements from s and d has done
--   Unchanged d s r          nothing is changed
--   Refuses u d s e          when a call is refused by e
--   IsRefused, IsRun         the call r is refused, or run
--   Does u d s m r           what the call r does
--   Erred c m s d n r        the run r was ended by the run error n
--   StopNo, no_of             the numbers of the table
--   Given u d s m x place    when the number x is given with the place named: the rows of the table
-- Assumes nothing.
use Rattle.std.specs.Prelude.{ℕ, zero, suc, ◌+◌, ◌<◌, ◌≤◌, ◌≡◌, ◌⊎◌, List, length, Err}
use Rattle.rules.specs.declared.Fault.{Fault}
use Rattle.rules.specs.declared.Fault.TheVariants as fault
use Rattle.rules.specs.Stops.{fault_number}
use Rattle.rules_unit.specs.Codes.{Code}
use Rattle.rules_unit.specs.Decode.{parts_of, decoded}
use Rattle.rules_unit.specs.Sound.{Filled, Ranges, SoundUnit}
use Rattle.rules_unit.specs.Answers.{FirstField, FirstStatement, FirstExpression, FirstThree, Says}
use Rattle.rules_run.specs.declared.State.{State}
use Rattle.rules_run.specs.declared.Stop.{Stop}
use Rattle.rules_run.specs.declared.Stop.TheVariants as stop
use Rattle.rules_run.specs.States.{Sound, unhandled}
use Rattle.rules_run.specs.Stops.{stop_number, stop_place}
use Rattle.rules_run.specs.Runs.{to, stuck, next_of, data_after, Ran, run_from}

-- ---- statement by statement

-- Each completed statement is one of the unit; it leads to a next state, and leaves the data for the one after it.
abbrev pub Reaches : Code → ℕ → State → List ℕ → State → List ℕ → Type 0
Reaches c zero s d s' d' = (s ≡ s') × (d ≡ d')
Reaches c (suc k) s d s' d' = (s.at < c.statements) × ((t : State) × ((next_of c s d ≡ to t) × Reaches c k t (data_after c s d) s' d'))

-- "given": without a handler the run would stop there with that error.
abbrev pub GivesHere : Code → State → List ℕ → Fault → Type 0
GivesHere c s d f = next_of c (unhandled s) d ≡ stuck f

-- "demand 3 says "given" also of a trapped error": fewer than m statements lead to a statement that gives it, in the state at, over the data seen.
pub record Gives (c : Code) (m : ℕ) (s : State) (d : List ℕ) (f : Fault) : Type 0 where
  pub done : ℕ
  pub fewer : done < m
  pub at : State
  pub seen : List ℕ
  pub reached : Reaches c done s d at seen
  pub low : at.at < c.statements
  pub here : GivesHere c at seen f

-- "0 | end reached"; "30 | allowance spent before the end"; a run error is what the statement there gives, where one more is allowed. The other
-- stops are given before a run.
abbrev pub StopsFor : Code → ℕ → State → List ℕ → Stop → Type 0
StopsFor c left s d stop.End = c.statements ≤ s.at
StopsFor c left s d (stop.Refused x) = ⊥
StopsFor c left s d stop.WrongSize = ⊥
StopsFor c left s d stop.Unsound = ⊥
StopsFor c left s d (stop.Failed f) = (s.at < c.statements) × (0 < left) × (next_of c s d ≡ stuck f)
StopsFor c left s d stop.Spent = (s.at < c.statements) × (left ≡ 0)

-- "the data bytes, the place reached, the calls still open and the number of statements completed"
pub record RunSays (c : Code) (m : ℕ) (s : State) (d : List ℕ) (r : Ran) : Type 0 where
  pub left : ℕ
  pub allowed : r.outcome.count + left ≡ m
  pub reached : Reaches c r.outcome.count s d r.outcome.state r.bytes
  pub stops : StopsFor c left r.outcome.state r.bytes r.outcome.stop
  pub place : r.outcome.place ≡ stop_place c.statements r.outcome.state.at r.outcome.stop

-- ---- run or refused

-- "After 1 to 7 nothing is changed and the count is 0."
pub record Unchanged (d : List ℕ) (s : State) (r : Ran) : Type 0 where
  pub data_kept : r.bytes ≡ d
  pub state_kept : r.outcome.state ≡ s
  pub count_zero : r.outcome.count ≡ 0

-- "Checks 1, 2, 3 run in order; then each statement in turn ..; then 6, 7."
abbrev pub Refuses : List ℕ → List ℕ → State → Stop → Type 0
Refuses u d s stop.End = ⊥
Refuses u d s (stop.Refused x) = Says u (Err x)
Refuses u d s stop.WrongSize = SoundUnit u (parts_of u) × (length d ≡ (parts_of u).d → ⊥)
Refuses u d s stop.Unsound = SoundUnit u (parts_of u) × (length d ≡ (parts_of u).d) × (Sound (decoded u) s → ⊥)
Refuses u d s (stop.Failed f) = ⊥
Refuses u d s stop.Spent = ⊥

pub record IsRefused (u d : List ℕ) (s : State) (r : Ran) : Type 0 where
  -- a number from 1 to 7
  pub least : 1 ≤ stop_number r.outcome.stop
  pub most : stop_number r.outcome.stop ≤ 7
  pub why : Refuses u d s r.outcome.stop
  pub place : r.outcome.place ≡ stop_place 0 0 r.outcome.stop
  pub unchanged : Unchanged d s r

-- What is run passed every check.
pub record Ready (u d : List ℕ) (s : State) : Type 0 where
  pub unit : SoundUnit u (parts_of u)
  pub size : length d ≡ (parts_of u).d
  pub state : Sound (decoded u) s

-- What a call does: it is refused, or it is a run.
abbrev pub Does : List ℕ → List ℕ → State → ℕ → Ran → Type 0
Does u d s m r = IsRefused u d s r ⊎ (Ready u d s × RunSays (decoded u) m s d r)

-- The numbers of a run: 0, 20 to 29, 30.
abbrev pub RunNumber : ℕ → Type 0
RunNumber n = (n ≡ 0) ⊎ (((20 ≤ n) × (n ≤ 29)) ⊎ (n ≡ 30))

pub record IsRun (u d : List ℕ) (s : State) (m : ℕ) (r : Ran) : Type 0 where
  pub ready : Ready u d s
  pub is_run : r ≡ run_from (decoded u) m s d 0
  pub number : RunNumber (stop_number r.outcome.stop)

-- "A statement that ends in a run error has changed nothing.": the error n is given by the statement where the state is, and the state and the data
-- are those that the completed statements led to.
pub record Erred (c : Code) (m : ℕ) (s : State) (d : List ℕ) (n : ℕ) (r : Ran) : Type 0 where
  pub fault : Fault
  pub number : fault_number fault ≡ n
  pub reached : Reaches c r.outcome.count s d r.outcome.state r.bytes
  pub fewer : r.outcome.count < m
  pub low : r.outcome.state.at < c.statements
  pub gives : next_of c r.outcome.state r.bytes ≡ stuck fault
  pub place : r.outcome.place ≡ r.outcome.state.at

-- ---- the table

-- A run of at most m statements stops with e.
pub record Stopped (u d : List ℕ) (s : State) (m : ℕ) (e : Stop) : Type 0 where
  pub ready : Ready u d s
  pub done : ℕ
  pub left : ℕ
  pub allowed : done + left ≡ m
  pub state : State
  pub bytes : List ℕ
  pub reached : Reaches (decoded u) done s d state bytes
  pub stops : StopsFor (decoded u) left state bytes e

pub data StopNo : Type 0 where
  no_0 : StopNo
  no_1 : StopNo
  no_2 : StopNo
  no_3 : StopNo
  no_4 : StopNo
  no_5 : StopNo
  no_6 : StopNo
  no_7 : StopNo
  no_20 : StopNo
  no_21 : StopNo
  no_22 : StopNo
  no_23 : StopNo
  no_24 : StopNo
  no_25 : StopNo
  no_26 : StopNo
  no_27 : StopNo
  no_28 : StopNo
  no_29 : StopNo
  no_30 : StopNo

abbrev pub no_of : StopNo → ℕ
no_of no_0 = 0
no_of no_1 = 1
no_of no_2 = 2
no_of no_3 = 3
no_of no_4 = 4
no_of no_5 = 5
no_of no_6 = 6
no_of no_7 = 7
no_of no_20 = 20
no_of no_21 = 21
no_of no_22 = 22
no_of no_23 = 23
no_of no_24 = 24
no_of no_25 = 25
no_of no_26 = 26
no_of no_27 = 27
no_of no_28 = 28
no_of no_29 = 29
no_of no_30 = 30

-- "No. | Given when | Place named"
abbrev pub Given : List ℕ → List ℕ → State → ℕ → StopNo → ℕ → Type 0
-- "0 | end reached | N"
Given u d s m no_0 place = Stopped u d s m stop.End × (place ≡ (parts_of u).n)
-- "1 | length under 12 or over 57,353, wrong mark, or parts don't fill the unit | 0"
Given u d s m no_1 place = (Filled u → ⊥) × (place ≡ 0)
-- "2 | D, F, E, P or N outside its range | 0"
Given u d s m no_2 place = (Filled u × (Ranges (parts_of u) → ⊥)) × (place ≡ 0)
-- "3 | a field entry breaks its rule | first such entry"
Given u d s m no_3 place = Filled u × Ranges (parts_of u) × FirstField (decoded u) place
-- "4 | an expression is badly formed, or the wrong sort for its use | statement"
Given u d s m no_4 place = FirstThree u × FirstExpression (decoded u) place
-- "5 | statement code, zero part, count or target wrong | statement"
Given u d s m no_5 place = FirstThree u × FirstStatement (decoded u) place
-- "6 | data buffer isn't D bytes | 0"
Given u d s m no_6 place = (SoundUnit u (parts_of u) × (length d ≡ (parts_of u).d → ⊥)) × (place ≡ 0)
-- "7 | resume state unsound | 0"
Given u d s m no_7 place = (SoundUnit u (parts_of u) × (length d ≡ (parts_of u).d) × (Sound (decoded u) s → ⊥)) × (place ≡ 0)
-- "20 | more than 18 digits | statement"
Given u d s m no_20 place = (x : Stopped u d s m (stop.Failed fault.TooLong)) × (place ≡ x.state.at)
-- "21 | subscript or substring | statement"
Given u d s m no_21 place = (x : Stopped u d s m (stop.Failed fault.Outside)) × (place ≡ x.state.at)
-- "22 | bad digit | statement"
Given u d s m no_22 place = (x : Stopped u d s m (stop.Failed fault.BadDigit)) × (place ≡ x.state.at)
-- "23 | zero divisor | statement"
Given u d s m no_23 place = (x : Stopped u d s m (stop.Failed fault.ZeroDivisor)) × (place ≡ x.state.at)
-- "24 | CALL with 50 calls open | statement"
Given u d s m no_24 place = (x : Stopped u d s m (stop.Failed fault.CallsFull)) × (place ≡ x.state.at)
-- "25 | RETURN with none open | statement"
Given u d s m no_25 place = (x : Stopped u d s m (stop.Failed fault.NoCall)) × (place ≡ x.state.at)
-- "26 | rounding count | statement"
Given u d s m no_26 place = (x : Stopped u d s m (stop.Failed fault.RoundCount)) × (place ≡ x.state.at)
-- "27 zero step"
Given u d s m no_27 place = (x : Stopped u d s m (stop.Failed fault.ZeroStep)) × (place ≡ x.state.at)
-- "28 more than 16 open loops"
Given u d s m no_28 place = (x : Stopped u d s m (stop.Failed fault.LoopsFull)) × (place ≡ x.state.at)
-- "29 loop end, EXITLOOP or NEXTLOOP with no loop open"
Given u d s m no_29 place = (x : Stopped u d s m (stop.Failed fault.NoLoop)) × (place ≡ x.state.at)
-- "30 | allowance spent before the end | next statement"
Given u d s m no_30 place = (x : Stopped u d s m stop.Spent) × (place ≡ x.state.at)
