-- A stretch of a run: statements one after the other up to an error, trapped or not (request 6 of document 02, "ONERROR and OFFERROR").
--   after_error h e, after_stop h e    what comes after an error, and after a stop, where h is the handler: the run stops, or the error is trapped and it goes on
--   Stretched c m k s d r b        what a stretch of at most m statements from the state s and the data d, after k completed ones, has done: r and the data b
-- The rule itself is `on_error` of rules_run.
-- Assumes nothing.
use Rattle.std.specs.Prelude.{ℕ, ◌+◌, ◌<◌, ◌≤◌, ◌≡◌, cond, List, length, Option, None, Some}
use Rattle.rules.specs.declared.Fault.{Fault}
use Rattle.rules.specs.Stops.{fault_number, trappedb}
use Rattle.rules_unit.specs.Codes.{Code}
use Rattle.rules_run.specs.declared.Outcome.{Outcome}
use Rattle.rules_run.specs.declared.State.{State}
use Rattle.rules_run.specs.declared.Stop.{Stop}
use Rattle.rules_run.specs.declared.Stop.TheVariants as stop
use Rattle.rules_run.specs.States.{Sound}
use Rattle.rules_run.specs.Stops.{stop_place}
use Rattle.rules_run.specs.Runs.{run_from}
use Rattle.rules_run.specs.Answers.{GivesHere}
use Rattle.run_loop.specs.declared.After.{After}
use Rattle.run_loop.specs.declared.After.TheVariants as after

-- "one of the errors 20, 21, 22, 23 or 26 .. goes on at c"
abbrev pub after_error : Option ℕ → Fault → After
after_error None e = after.Stops
after_error (Some i) e = cond (trappedb (fault_number e)) (after.Goes (fault_number e) i) after.Stops

abbrev pub after_stop : Option ℕ → Stop → After
after_stop h stop.End = after.Stops
after_stop h (stop.Refused x) = after.Stops
after_stop h stop.WrongSize = after.Stops
after_stop h stop.Unsound = after.Stops
after_stop h (stop.Failed e) = after_error h e
after_stop h stop.Spent = after.Stops

-- Why it goes no further: the end is reached, the statement where the state is gives an error, or nothing is left of the allowance.
abbrev pub EndsFor : Code → ℕ → State → List ℕ → Stop → Type 0
EndsFor c left s d stop.End = c.statements ≤ s.at
EndsFor c left s d (stop.Refused x) = ⊥
EndsFor c left s d stop.WrongSize = ⊥
EndsFor c left s d stop.Unsound = ⊥
EndsFor c left s d (stop.Failed e) = (s.at < c.statements) × (0 < left) × GivesHere c s d e
EndsFor c left s d stop.Spent = (s.at < c.statements) × (left ≡ 0)

-- What is left of the run from there comes to what the whole run comes to.
pub record Stretched (c : Code) (m k : ℕ) (s : State) (d : List ℕ) (r : Outcome) (b : List ℕ) : Type 0 where
  pub left : ℕ
  pub more : k ≤ r.count
  pub allowed : r.count + left ≡ k + m
  pub rest : run_from c left r.state b r.count ≡ run_from c m s d k
  pub sound : Sound c r.state
  pub size : length b ≡ length d
  pub ends : EndsFor c left r.state b r.stop
  pub place : r.place ≡ stop_place c.statements r.state.at r.stop
