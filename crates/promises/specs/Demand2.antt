-- Demand 2 of the owner's letter.
--
-- "A run does exactly what the written rules of DIBOL in the papers say, statement by statement: the data bytes, the place reached, the calls still
-- open and the number of statements completed. Each run error is given exactly when the rules give it."
--
-- Request 6 of document 02, "ONERROR and OFFERROR": "After ONERROR c, one of the errors 20, 21, 22, 23 or 26 leaves the data as that statement found it, counts the
-- statement as completed and goes on at c; the handler stays until OFFERROR or another ONERROR. The state keeps the handler and the last error's number and statement.
-- Open calls and loops stay open."; "Errors 24, 25, 27, 28 and 29 are not trapped."
--
-- The rule of one statement is `next_of`, where it leads or the fault that stops it there, and `data_after`, what it makes of the data. `GivesHere` says that it gives
-- an error, with which the run would stop there if there were no handler, and `Gives` that one of the statements of a run does. `Post` is what the `ensures` of
-- `dibol::run` says of its arguments a, its result r and what it leaves, s.
--
--   does_exactly        a call is permitted exactly when it is refused as demand 1 says, or passes all checks, as many statements as are counted, one
--                       after the other, lead to its state and its data, and the run goes no further for the reason that its stop gives
--   given_exactly       each number, 0 to 7, 20 to 29 and 30, is given and its place named exactly when the table says so
--   kept_20, read_20, read_22, div_23, round_26, span_exactly, outside_21    of the run errors in an expression the cause of each, both ways
--   call_opens, call_full, return_closes, return_none, stop_keeps_calls, others_keep_calls    what each statement does to the open calls
--   stores_next, jumps_keep_data    codes 1 to 6 and 13 go on at the next statement, where no error is given; those that neither write a place nor go on with
--                       a loop leave the data
--   goto_goes, zero_goes, other_falls, computed_goes, computed_falls    where the jumps lead
--   full_exactly, none_exactly    24 and 25 stop a statement exactly when the table says so, with a handler and without
--   stops_exactly, traps_exactly    an error that is given stops the run exactly where it is not of the five or there is no handler, and is trapped everywhere else
--   on_error_sets, off_error_takes_away, others_keep_handler    what each statement does to the handler
--   last_error_kept     a statement that gives no error keeps the last error
--   ends, spent, errs, goes, traps    the rule of a run, one step of it: the end, the allowance spent, a run error, a completed statement, a trapped error
--   error_given         a run that ends with 20 to 29 has given that error, by the statement where it ends
--   last_error_given    the last error of the state that is handed back is the one of the state given, or it was given in this run
--   handler_within, last_error_within    the handler that is handed back and the last error's statement are of the unit, and the error is one of the five
--   counts_within       no more statements are completed than are allowed
--   start_is_sound      the state before the first statement is sound for every unit, so a run from it is never refused 7
--   state_stays_sound   a call hands back a sound state where it was given one
--   run_numbers         a call that passes all checks ends with 0, 20 to 29 or 30: a passed check never lets 4 arise in a run
-- Assumes nothing.
use Rattle.std.specs.Prelude.{ℕ, zero, suc, ◌+◌, ◌≤◌, ◌<◌, ◌≡◌, refl, ◌↔◌, ◌⊎◌, List, ℤ, pos, nat_abs, length, get_or, set, Err, Ok, None, Some}
use Rattle.std.proofs.Common.{sym, ap, ◌∙◌, subst}
use contract.Lifetimes
use Rattle.rules.specs.declared.Fault.{Fault}
use Rattle.rules.specs.declared.Fault.TheVariants as fault
use Rattle.rules.specs.Stops.{fault_number, Trappable}
use Rattle.rules.specs.Values.{Valid, read_of}
use Rattle.rules.specs.Arithmetic.{kept, div_of, round_of}
use Rattle.rules.proofs.Causes as causes
use Rattle.rules_unit.specs.declared.Field.{Field}
use Rattle.rules_unit.specs.declared.Form.{Form}
use Rattle.rules_unit.specs.Codes.{Code}
use Rattle.rules_unit.specs.Decode.{parts_of, decoded}
use Rattle.rules_unit.specs.Table.{WritesA, Repeats}
use Rattle.rules_unit.specs.Sound.{SoundUnit}
use Rattle.rules_unit.proofs.Sound.{sound_passed}
use Rattle.rules_run.specs.declared.State.{State}
use Rattle.rules_run.specs.declared.Outcome.{Outcome}
use Rattle.rules_run.specs.declared.Stop.TheVariants as stop
use Rattle.rules_run.specs.Stops.{stop_number}
use Rattle.rules_run.specs.States.{HandlerSound, CaughtSound, Sound, started, gone, caught_by, error_at}
use Rattle.rules_run.specs.Spans.{span_of, Located, span_at}
use Rattle.rules_run.specs.Evaluation.{worked_of, number_of}
use Rattle.rules_run.specs.Runs.{to, stuck, next_of, data_after, Ran, ended, run_from}
use Rattle.rules_run.specs.Answers.{GivesHere, Gives, Ready, Does, RunNumber, StopNo, no_of, Given}
use Rattle.rules_run.proofs.States.{started_sound}
use Rattle.rules_run.proofs.Steps.{run_ends, run_spent, run_fails, run_goes}
use Rattle.rules_run.proofs.SoundRuns.{call_sound}
use Rattle.rules_run.proofs.Answers as answers
use Rattle.rules_run.proofs.Handlers as handlers
use Rattle.rules_run.proofs.OpenCalls as calls
use Rattle.rules_run.proofs.Jumps as jumps
use Rattle.rules_run.proofs.Located as located
use Rattle.dibol.proofs.run.Reads as run

-- ---- a call

-- "A run does exactly what the written rules of DIBOL in the papers say, statement by statement"
pub does_exactly : (κs : Lifetimes.Lfts 2) (a : _) (r : Outcome) (s : _)
    → run.Post κs a r s
    ↔ Does a.0.now a.1.0.now a.1.1.0 a.1.1.1.0 (record { outcome = r; bytes = s.1.0.now })
does_exactly κs a r s = answers.does_exactly a.0.now a.1.0.now a.1.1.0 a.1.1.1.0 (record { outcome = r; bytes = s.1.0.now })

module _ (κs : Lifetimes.Lfts 2) (a : _) (r : Outcome) (s : _) (post : run.Post κs a r s) where
  -- What the call is given, and what it answers and leaves.
  abbrev unit : List ℕ
  unit = a.0.now

  abbrev bytes : List ℕ
  bytes = a.1.0.now

  abbrev state : State
  state = a.1.1.0

  abbrev allowance : ℕ
  allowance = a.1.1.1.0

  abbrev ran : Ran
  ran = record { outcome = r; bytes = s.1.0.now }

  -- "Each run error is given exactly when the rules give it", and so is every other number.
  pub given_exactly : (x : StopNo) (place : ℕ) → (stop_number r.stop ≡ no_of x) × (r.place ≡ place) ↔ Given unit bytes state allowance x place
  given_exactly x place =
      subst (λ (y : Ran). (stop_number y.outcome.stop ≡ no_of x) × (y.outcome.place ≡ place) ↔ Given unit bytes state allowance x place) (sym post)
      (answers.given_exactly unit bytes state allowance x place)

  -- ---- what a call hands back

  pub counts_within : r.count ≤ allowance
  counts_within = subst (λ (y : Ran). y.outcome.count ≤ allowance) (sym post) (answers.call_counts unit bytes state allowance)

  pub state_stays_sound : SoundUnit unit (parts_of unit) → Sound (decoded unit) state → Sound (decoded unit) r.state
  state_stays_sound x t =
      subst (λ (y : Ran). Sound (decoded unit) y.outcome.state) (sym post) (call_sound unit (parts_of unit) (sound_passed unit (parts_of unit) x) bytes state allowance t)

  pub run_numbers : Ready unit bytes state → RunNumber (stop_number r.stop)
  run_numbers y = subst (λ (x : Ran). RunNumber (stop_number x.outcome.stop)) (sym post) (answers.ready_number unit bytes state allowance y)

  -- "7 for a handler or error statement not below N, or an error not of the five": the state that is handed back has none such.
  module _ (sound : SoundUnit unit (parts_of unit)) (given : Sound (decoded unit) state) where
    pub handler_within : (i : ℕ) → r.state.trap.handler ≡ Some i → i < (parts_of unit).n
    handler_within i e = subst (HandlerSound (parts_of unit).n) e (state_stays_sound sound given).handled

    pub last_error_within : (n i : ℕ) → r.state.trap.caught ≡ error_at n i → Trappable n × (i < (parts_of unit).n)
    last_error_within n i e = subst (CaughtSound (parts_of unit).n) e (state_stays_sound sound given).told

  -- ---- the errors that a run gives, trapped or not

  -- The number that a run ends with was given by the statement where the state is, over the data that are left.
  pub error_given : 20 ≤ stop_number r.stop → stop_number r.stop ≤ 29
      → (e : Fault) × (g : Gives (decoded unit) allowance state bytes e) × (fault_number e ≡ stop_number r.stop) × (g.at ≡ r.state) × (g.seen ≡ s.1.0.now)
  error_given x y =
      let e = answers.erred_by_number unit bytes state allowance ran ((answers.call_exactly unit bytes state allowance ran).0 post) x y in
      handlers.erred_gives (decoded unit) allowance state bytes (stop_number r.stop) ran e

  -- "The state keeps .. the last error's number and statement.": it is the one of the state given, or a statement of this run gave it.
  pub last_error_given : (r.state.trap.caught ≡ state.trap.caught)
      ⊎ ((e : Fault) × (g : Gives (decoded unit) allowance state bytes e) × (r.state.trap.caught ≡ error_at (fault_number e) g.at.at))
  last_error_given = handlers.call_tells unit bytes state allowance ran ((answers.does_exactly unit bytes state allowance ran).0 post)

pub start_is_sound : (c : Code) → Sound c started
start_is_sound = started_sound

-- ---- why a number is not to be had

-- "20 | more than 18 digits": a result of which the magnitude has too many, top being 10 to the limit
pub kept_20 : (top : ℕ) (z : ℤ) → (kept top z ≡ Err fault.TooLong) ↔ top ≤ nat_abs z
kept_20 = causes.kept_20

-- "A decimal span of more than 18 characters then gives 20, and on reading, an invalid character 22."
pub read_20 : (limit sign : ℕ) (s : List ℕ) → (read_of limit sign s ≡ Err fault.TooLong) ↔ limit < length s
read_20 = causes.read_20

pub read_22 : (limit sign : ℕ) (s : List ℕ) → (read_of limit sign s ≡ Err fault.BadDigit) ↔ (length s ≤ limit) × (Valid limit sign s → ⊥)
read_22 = causes.read_22

-- "23 | zero divisor"
pub div_23 : (a b : ℤ) → (div_of a b ≡ Err fault.ZeroDivisor) ↔ (nat_abs b ≡ 0)
div_23 = causes.div_23

-- "k outside 0 to 18 is 26"
pub round_26 : (v k : ℤ) → (round_of v k ≡ Err fault.RoundCount) ↔ ((n : ℕ) → k ≡ pos n → n ≤ 18 → ⊥)
round_26 = causes.round_26

-- "A span may leave its field in either direction; it must stay inside the D bytes. Otherwise 21.": the size is D. Of a strict field Strict has the rule.
pub span_exactly : (size : ℕ) (f : Field) (a n : ℕ) (h : Form) (x y : ℤ) → (span_of size f h x y ≡ span_at a n) ↔ Located f h x y a n × (a + n ≤ size)
span_exactly = located.span_exactly

pub outside_21 : (size : ℕ) (f : Field) (h : Form) (x y : ℤ) → (span_of size f h x y ≡ None) ↔ ((a n : ℕ) → Located f h x y a n → a + n ≤ size → ⊥)
outside_21 = located.outside_exactly

-- ---- the open calls: the statement where the state s is, over the data d

module _ (c : Code) (s : State) (d : List ℕ) where
  -- "9 CALL c"; "A CALL at i stores i+1"
  pub call_opens : (c.statement s.at).code ≡ 9 → s.depth < 50
      → next_of c s d ≡ to (record { at = (c.statement s.at).c; depth = s.depth + 1; returns = set s.returns s.depth (s.at + 1); opened = s.opened; loops = s.loops; trap = s.trap })
  call_opens = calls.call_opens c s d

  -- "24 | CALL with 50 calls open"
  pub call_full : (c.statement s.at).code ≡ 9 → 50 ≤ s.depth → next_of c s d ≡ stuck fault.CallsFull
  call_full = calls.call_full c s d

  pub full_exactly : (next_of c s d ≡ stuck fault.CallsFull) ↔ ((c.statement s.at).code ≡ 9) × (50 ≤ s.depth)
  full_exactly = calls.full_exactly c s d

  -- "10 RETURN"; "a RETURN goes on there and its entry becomes zero"
  pub return_closes : (c.statement s.at).code ≡ 10 → (k : ℕ) → s.depth ≡ k + 1
      → next_of c s d ≡ to (record { at = get_or s.returns k 0; depth = k; returns = set s.returns k 0; opened = s.opened; loops = s.loops; trap = s.trap })
  return_closes = calls.return_closes c s d

  -- "25 | RETURN with none open"
  pub return_none : (c.statement s.at).code ≡ 10 → s.depth ≡ 0 → next_of c s d ≡ stuck fault.NoCall
  return_none = calls.return_none c s d

  pub none_exactly : (next_of c s d ≡ stuck fault.NoCall) ↔ ((c.statement s.at).code ≡ 10) × (s.depth ≡ 0)
  none_exactly = calls.none_exactly c s d

  -- "11 STOP"; "STOP sets the statement number to N and keeps the open calls.", and the open loops, the handler and the last error
  pub stop_keeps_calls : (c.statement s.at).code ≡ 11
      → next_of c s d ≡ to (record { at = c.statements; depth = s.depth; returns = s.returns; opened = s.opened; loops = s.loops; trap = s.trap })
  stop_keeps_calls = calls.stop_keeps c s d

  pub others_keep_calls : ((c.statement s.at).code ≡ 9 → ⊥) → ((c.statement s.at).code ≡ 10 → ⊥) → (t : State) → next_of c s d ≡ to t
      → (t.depth ≡ s.depth) × (t.returns ≡ s.returns)
  others_keep_calls = calls.calls_kept c s d

-- ---- the handler and the last error: the statement where the state s is, over the data d

module _ (c : Code) (s : State) (d : List ℕ) where
  -- "one of the errors 20, 21, 22, 23 or 26 .. goes on at c"; "Errors 24, 25, 27, 28 and 29 are not trapped."
  pub stops_exactly : (e : Fault) → (next_of c s d ≡ stuck e) ↔ GivesHere c s d e × (Trappable (fault_number e) → s.trap.handler ≡ None)
  stops_exactly = handlers.stops_exactly c s d

  pub traps_exactly : (e : Fault) → GivesHere c s d e → (t : State)
      → (next_of c s d ≡ to t) ↔ Trappable (fault_number e) × (i : ℕ) × (s.trap.handler ≡ Some i) × (t ≡ caught_by s (fault_number e) i)
  traps_exactly = handlers.traps_exactly c s d

  -- "18 ONERROR c"
  pub on_error_sets : (c.statement s.at).code ≡ 18
      → next_of c s d
      ≡ to
      (record {
        at = s.at + 1;
        depth = s.depth;
        returns = s.returns;
        opened = s.opened;
        loops = s.loops;
        trap = record { handler = Some (c.statement s.at).c; caught = s.trap.caught };
      })
  on_error_sets = handlers.on_error_arms c s d

  -- "19 OFFERROR"
  pub off_error_takes_away : (c.statement s.at).code ≡ 19
      → next_of c s d
      ≡ to
      (record {
        at = s.at + 1;
        depth = s.depth;
        returns = s.returns;
        opened = s.opened;
        loops = s.loops;
        trap = record { handler = None; caught = s.trap.caught };
      })
  off_error_takes_away = handlers.off_error_disarms c s d

  -- "the handler stays until OFFERROR or another ONERROR"
  pub others_keep_handler : ((c.statement s.at).code ≡ 18 → ⊥) → ((c.statement s.at).code ≡ 19 → ⊥) → (t : State) → next_of c s d ≡ to t
      → t.trap.handler ≡ s.trap.handler
  others_keep_handler = handlers.handler_kept c s d

  -- Nothing but a trapped error changes the last error.
  pub last_error_kept : ((e : Fault) → GivesHere c s d e → ⊥) → (t : State) → next_of c s d ≡ to t → t.trap.caught ≡ s.trap.caught
  last_error_kept = handlers.completed_keeps c s d

-- ---- stores and jumps

module _ (c : Code) (s : State) (d : List ℕ) where
  pub stores_next : WritesA (c.statement s.at).code → ((c.statement s.at).code ≡ 14 → ⊥) → ((e : Fault) → GivesHere c s d e → ⊥) → (t : State) → next_of c s d ≡ to t
      → t ≡ gone s (s.at + 1)
  stores_next = jumps.stores_next c s d

  pub jumps_keep_data : (WritesA (c.statement s.at).code → ⊥) → (Repeats (c.statement s.at).code → ⊥) → data_after c s d ≡ d
  jumps_keep_data = jumps.jumps_keep_data c s d

  -- "7 GOTO c"
  pub goto_goes : (c.statement s.at).code ≡ 7 → next_of c s d ≡ to (gone s (c.statement s.at).c)
  goto_goes = jumps.goto_goes c s d

  -- Where number b comes to v.
  module _ (v : ℤ) (b : number_of c d (worked_of c d (c.items (c.statement s.at).b)) ≡ Ok v) where
    -- "8 go to c if number b is zero"
    pub zero_goes : (c.statement s.at).code ≡ 8 → nat_abs v ≡ 0 → next_of c s d ≡ to (gone s (c.statement s.at).c)
    zero_goes = jumps.zero_goes c s d v b

    pub other_falls : (c.statement s.at).code ≡ 8 → (nat_abs v ≡ 0 → ⊥) → next_of c s d ≡ to (gone s (s.at + 1))
    other_falls = jumps.other_falls c s d v b

    -- "a value v from 1 to n goes on at i+v, any other at i+n+1"
    pub computed_goes : (c.statement s.at).code ≡ 12 → (k : ℕ) → v ≡ pos k → 1 ≤ k → k ≤ (c.statement s.at).a → next_of c s d ≡ to (gone s (s.at + k))
    computed_goes = jumps.computed_goes c s d v b

    pub computed_falls : (c.statement s.at).code ≡ 12 → ((k : ℕ) → v ≡ pos k → 1 ≤ k → k ≤ (c.statement s.at).a → ⊥)
        → next_of c s d ≡ to (gone s (s.at + (c.statement s.at).a + 1))
    computed_falls = jumps.computed_falls c s d v b

-- ---- one step of a run: after k completed statements, in the state s, over the data d

module _ (c : Code) (s : State) (d : List ℕ) (k : ℕ) where
  pub ends : (m : ℕ) → c.statements ≤ s.at → run_from c m s d k ≡ ended c.statements stop.End s k d
  ends = run_ends c s d k

  pub spent : s.at < c.statements → run_from c zero s d k ≡ ended c.statements stop.Spent s k d
  spent = run_spent c s d k

  pub errs : (m : ℕ) (f : Fault) → s.at < c.statements → next_of c s d ≡ stuck f → run_from c (suc m) s d k ≡ ended c.statements (stop.Failed f) s k d
  errs = run_fails c s d k

  pub goes : (m : ℕ) (s' : State) → s.at < c.statements → next_of c s d ≡ to s' → run_from c (suc m) s d k ≡ run_from c m s' (data_after c s d) (suc k)
  goes = run_goes c s d k

  -- "leaves the data as that statement found it, counts the statement as completed and goes on at c"
  pub traps : (m : ℕ) (e : Fault) (i : ℕ) → s.at < c.statements → GivesHere c s d e → Trappable (fault_number e) → s.trap.handler ≡ Some i
      → run_from c (suc m) s d k ≡ run_from c m (caught_by s (fault_number e) i) d (suc k)
  traps m e i low given five h =
      run_goes c s d k m (caught_by s (fault_number e) i) low ((handlers.traps_exactly c s d e given (caught_by s (fault_number e) i)).1 (five, i, h, refl))
      ∙ ap (λ (x : List ℕ). run_from c m (caught_by s (fault_number e) i) x (suc k)) (handlers.given_keeps_data c s d e given)
