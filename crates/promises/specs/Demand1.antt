-- Demand 1 of the owner's letter.
--
-- "Every coded unit, data buffer and resume state, of whatever length and content, is either run or refused by a number from the list. A refused
-- call changes no byte and no state. A statement that ends in a run error has changed nothing."
--
-- Request 6 of document 02, "ONERROR and OFFERROR": "one of the errors 20, 21, 22, 23 or 26 leaves the data as that statement found it, counts the statement as
-- completed and goes on at c"; "Demand 1 reads "changed nothing" of the data bytes there".
--
-- The claims of a call are about the contract of `dibol::run`: `Post` is what its `ensures` says of its arguments a, its result r and what it leaves, s. Numbers
-- are document 01's. Hosts has the same of `dibol_run`. Those of one statement are about `next_of`, where it leads, and `data_after`, what it makes of the data;
-- `GivesHere` says that it gives an error, with which the run would stop there if there were no handler.
--
--   run_or_refused            a call is refused by a number from 1 to 7, or is a run, and ends with 0, 20 to 29 or 30
--   refused_changes_nothing   after 1 to 7 the data and the state are as given, and the count is 0
--   error_changes_nothing     a run error leaves the data as its statement found it and the state at that statement, which isn't counted
--   error_changes_no_byte     a statement that gives an error leaves the data as it found it, also where the error is trapped
--   trapped_goes_on           of the state a trapped error changes the place, which is the handler's, and the last error, and nothing else
--   nothing_allowed, nothing_left   an allowance of 0 gives 30, or 0 where the state is already at N
-- Assumes nothing.
use Rattle.rules_run.specs.States.{error_at}
use Rattle.std.specs.Prelude.{ℕ, ◌≤◌, ◌<◌, ◌≡◌, refl, ◌⊎◌, List, Some}
use contract.Lifetimes
use Rattle.rules.specs.declared.Fault.{Fault}
use Rattle.rules.specs.Stops.{fault_number, Trappable}
use Rattle.rules_unit.specs.Codes.{Code}
use Rattle.rules_unit.specs.Decode.{parts_of, decoded}
use Rattle.rules_run.specs.declared.State.{State}
use Rattle.rules_run.specs.declared.Outcome.{Outcome}
use Rattle.rules_run.specs.Stops.{stop_number}
use Rattle.rules_run.specs.Runs.{to, next_of, data_after, Ran}
use Rattle.rules_run.specs.Answers.{GivesHere, Unchanged, IsRefused, Ready, IsRun, Erred}
use Rattle.rules_run.proofs.Answers.{call_exactly, refused_by_number, erred_by_number, call_spent, call_ended}
use Rattle.rules_run.proofs.Handlers as handlers
use Rattle.dibol.proofs.run.Reads as run

-- ---- a call

module _ (κs : Lifetimes.Lfts 2) (a : _) (r : Outcome) (s : _) (post : run.Post κs a r s) where
  -- What the call is given, and what it answers and leaves.
  abbrev unit : List ℕ
  unit = a.0.now

  abbrev bytes : List ℕ
  bytes = a.1.0.now

  abbrev state : State
  state = a.1.1.0

  abbrev allowance : ℕ
  allowance = a.1.1.1.0

  abbrev ran : Ran
  ran = record { outcome = r; bytes = s.1.0.now }

  -- "either run or refused by a number from the list"
  pub run_or_refused : IsRefused unit bytes state ran ⊎ IsRun unit bytes state allowance ran
  run_or_refused = (call_exactly unit bytes state allowance ran).0 post

  -- "A refused call changes no byte and no state."
  pub refused_changes_nothing : 1 ≤ stop_number r.stop → stop_number r.stop ≤ 7 → Unchanged bytes state ran
  refused_changes_nothing = refused_by_number unit bytes state allowance ran run_or_refused

  -- "A statement that ends in a run error has changed nothing."
  pub error_changes_nothing : 20 ≤ stop_number r.stop → stop_number r.stop ≤ 29 → Erred (decoded unit) allowance state bytes (stop_number r.stop) ran
  error_changes_nothing = erred_by_number unit bytes state allowance ran run_or_refused

  -- "An allowance of 0 gives 30, or 0 where the state is already at N."
  pub nothing_allowed : Ready unit bytes state → allowance ≡ 0 → state.at < (parts_of unit).n → (stop_number r.stop ≡ 30) × Unchanged bytes state ran
  nothing_allowed = call_spent unit bytes state allowance ran post

  pub nothing_left : Ready unit bytes state → (parts_of unit).n ≤ state.at → (stop_number r.stop ≡ 0) × Unchanged bytes state ran
  nothing_left = call_ended unit bytes state allowance ran post

-- ---- an error that is given: the statement where the state s is, over the data d

module _ (c : Code) (s : State) (d : List ℕ) (e : Fault) (given : GivesHere c s d e) where
  -- "leaves the data as that statement found it", trapped or not
  pub error_changes_no_byte : data_after c s d ≡ d
  error_changes_no_byte = handlers.given_keeps_data c s d e given

  -- "goes on at c; the handler stays until OFFERROR or another ONERROR. The state keeps the handler and the last error's number and statement. Open calls and
  -- loops stay open."
  pub trapped_goes_on : Trappable (fault_number e) → (i : ℕ) → s.trap.handler ≡ Some i
      → next_of c s d
      ≡ to
      (record {
        at = i;
        depth = s.depth;
        returns = s.returns;
        opened = s.opened;
        loops = s.loops;
        trap = record { handler = s.trap.handler; caught = error_at (fault_number e) s.at };
      })
  trapped_goes_on five i h = (handlers.traps_exactly c s d e given _).1 (five, i, h, refl)
