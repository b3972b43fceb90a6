-- FOR loops (request 4 of document 02), in the owner's words: what the four statements do to the data, to the open loops and to the place reached.
--
-- The statement where the state s is, over the data d, is one of the unit c. `next_of` says where it leads, or the fault that stops it there, and `data_after` what it
-- makes of the data; `GivesHere` says that it gives an error, which a handler may trap (Demand2). A statement that gives one changes no byte, and opens and closes
-- no loop (Demand1). `(look_of s).last` is the loop opened last, `entry_of c (look_of s)` its entry statement. `Entry` is what a FOR
-- works out where nothing fails, and `Pass` what a loop end or NEXTLOOP does: each names the n characters at a of the control place.
--
--   full_first, place_fails, start_fails, limit_fails, step_fails, step_zero, start_too_long    the errors of a FOR, in their order
--   entry_stores, entry_opens, entry_passes_over    what a FOR without an error leaves: the data, the open loops and the place
--   found_no_more, unreadable, sum_too_great, value_too_long    the errors of a pass, in their order
--   pass_stores, pass_goes_on, pass_closes          what a pass without an error leaves
--   exit_closes, exit_keeps_data                    EXITLOOP
--   zero_exactly, loops_full_exactly, no_loop_exactly    27, 28 and 29 stop a statement exactly when the request says so, with a handler and without
--   zero_step, loops_full, no_loop_lem                  .. and are their numbers
--   others_keep_loops                               every other statement keeps the open loops
--   opened_last                                     the loop opened last is the one in the last slot that is used
--   not_above, not_below                            the test
--   start_held, value_held                          in a sound unit the control field then holds the value that was stored
--   every_dialect                                   .. where the dialect is sound, as that of every unit is
--   loops_within, open_loop_sound, unused_slot_zero    of the state that a call hands back
-- Assumes nothing.
use Rattle.std.specs.Prelude.{ℕ, ◌+◌, ◌-◌, ◌^◌, ◌<◌, ◌≤◌, ◌≡◌, refl, ◌↔◌, true, false, List, ℤ, pos, negsuc, nat_abs, ◌+ℤ◌, get_or, set, Err, Ok}
use Rattle.std.proofs.Common.{arith, ap, ◌∙◌, inl, inr}
use contract.Lifetimes
use Rattle.rules.specs.declared.Fault.{Fault}
use Rattle.rules.specs.declared.Fault.TheVariants as fault
use Rattle.rules.specs.Stops.{fault_number}
use Rattle.rules.specs.Arithmetic.{add_of}
use Rattle.rules.specs.Moves.{written}
use Rattle.rules_unit.specs.declared.Statement.{Statement}
use Rattle.rules_unit.specs.Codes.{Code}
use Rattle.rules_unit.specs.Decode.{SoundDialect, parts_of, decoded}
use Rattle.rules_unit.specs.Expressions.{next_at}
use Rattle.rules_unit.specs.Table.{WritesA, Repeats, OnLoop}
use Rattle.rules_unit.specs.Sound.{SoundCode, SoundUnit}
use Rattle.rules_run.specs.declared.State.{State}
use Rattle.rules_run.specs.declared.Outcome.{Outcome}
use Rattle.rules_run.specs.declared.Worked.TheVariants as worked
use Rattle.rules_run.specs.Evaluation.{read_at, worked_of, value_at}
use Rattle.rules_run.specs.States.{no_loop, LoopSound, Sound, gone, look_of}
use Rattle.rules_run.specs.Turns.{stored, testb, Entry, entry_of, Pass}
use Rattle.rules_run.specs.Runs.{to, stuck, next_of, data_after}
use Rattle.rules_run.specs.Answers.{GivesHere}
use Rattle.rules_run.proofs.Controls as controls
use Rattle.rules_run.proofs.Jumps.{jumps_keep_data}
use Rattle.rules_run.proofs.Lengths.{parts_dialect}
use Rattle.rules_run.proofs.OpenLoops as loops
use Rattle.dibol.proofs.run.Reads as run
use Rattle.promises.specs.Demand2.{state_stays_sound}

module _ (c : Code) (s : State) (d : List ℕ) where
  abbrev here : Statement
  here = c.statement s.at

  -- ---- FOR: code 14

  -- "28 more than 16 open loops, before anything is evaluated"
  pub full_first : here.code ≡ 14 → 16 ≤ s.opened → next_of c s d ≡ stuck fault.LoopsFull
  full_first = loops.for_full c s d

  -- "On entry the control place is found, then start, limit and step are worked out once, in that order.": the first error is given.
  module _ (for : here.code ≡ 14) (room : s.opened < 16) (f : Fault) where
    pub place_fails : worked_of c d (c.items here.a) ≡ Err f → GivesHere c s d f
    place_fails = loops.for_place_fails c s d for room f

    module _ (a n : ℕ) (found : worked_of c d (c.items here.a) ≡ Ok (worked.Place true a n)) where
      pub start_fails : value_at c d here.b ≡ Err f → GivesHere c s d f
      start_fails = loops.for_start_fails c s d for room f a n found

      pub limit_fails : (start : ℤ) → value_at c d here.b ≡ Ok start → value_at c d (next_at c here.b) ≡ Err f → GivesHere c s d f
      limit_fails = loops.for_limit_fails c s d for room f a n found

      pub step_fails : (start limit : ℤ) → value_at c d here.b ≡ Ok start → value_at c d (next_at c here.b) ≡ Ok limit
          → value_at c d (next_at c (next_at c here.b)) ≡ Err f
          → GivesHere c s d f
      step_fails = loops.for_step_fails c s d for room f a n found

  -- Where the place is found, and start, limit and step are to be had.
  module _ (for : here.code ≡ 14) (room : s.opened < 16) (e : Entry c d here) where
    -- "27 zero step, after the step's own errors and before that 20"
    pub step_zero : nat_abs e.step ≡ 0 → next_of c s d ≡ stuck fault.ZeroStep
    step_zero = loops.for_zero c s d for room e

    module _ (moves : nat_abs e.step ≡ 0 → ⊥) where
      -- "20 for a control value that doesn't fit"
      pub start_too_long : 10 ^ e.n ≤ nat_abs e.start → GivesHere c s d fault.TooLong
      start_too_long = loops.for_long c s d for room e moves

      module _ (fits : nat_abs e.start < 10 ^ e.n) where
        -- The start is stored, also where the loop never runs.
        pub entry_stores : data_after c s d ≡ stored d e.a (written c.dialect.sign e.n e.start)
        entry_stores = loops.for_stores c s d for room e moves fits

        -- "The test comes before each pass": it is passed, the loop is open, and the run goes on at the next statement.
        pub entry_opens : testb e.start e.limit e.step ≡ true
            → next_of c s d
            ≡ to (record { at = s.at + 1; depth = s.depth; returns = s.returns; opened = s.opened + 1; loops = set s.loops s.opened (record { entry = s.at; limit = e.limit; step = e.step }); trap = s.trap })
        entry_opens = loops.for_opens c s d for room e moves fits

        -- It is not passed: no loop is opened, and the run goes on behind the loop end.
        pub entry_passes_over : testb e.start e.limit e.step ≡ false → next_of c s d ≡ to (gone s (here.c + 1))
        entry_passes_over = loops.for_skips c s d for room e moves fits

        -- "a loop that never runs holds the start value", and so does one that runs, before its first pass
        pub start_held : SoundCode c → SoundDialect c.dialect → read_at c (data_after c s d) e.a e.n ≡ Ok e.start
        start_held unit dialect =
            ap (λ (x : List ℕ). read_at c x e.a e.n) entry_stores ∙ controls.place_holds c unit dialect d (c.items here.a) e.a e.n e.found e.start fits

  -- ---- a pass: loop end and NEXTLOOP, codes 15 and 17

  -- "the control place is found again from that statement at each pass": then it is read, and the step is added. The first error is given.
  module _ (pass : Repeats here.code) (some-open : s.opened ≡ 0 → ⊥) (f : Fault) where
    pub found_no_more : worked_of c d (c.items (entry_of c (look_of s)).a) ≡ Err f → GivesHere c s d f
    found_no_more = loops.pass_place_fails c s d pass some-open f

    module _ (a n : ℕ) (found : worked_of c d (c.items (entry_of c (look_of s)).a) ≡ Ok (worked.Place true a n)) where
      pub unreadable : read_at c d a n ≡ Err f → GivesHere c s d f
      unreadable = loops.pass_read_fails c s d pass some-open f a n found

      pub sum_too_great : (x : ℤ) → read_at c d a n ≡ Ok x → add_of c.dialect.top x (look_of s).last.step ≡ Err f → GivesHere c s d f
      sum_too_great = loops.pass_sum_fails c s d pass some-open f a n found

  -- Where the sum is to be had.
  module _ (pass : Repeats here.code) (some-open : s.opened ≡ 0 → ⊥) (p : Pass c (look_of s) d) where
    -- "A value that doesn't fit the control field is reported before it is stored."
    pub value_too_long : 10 ^ p.n ≤ nat_abs p.v → GivesHere c s d fault.TooLong
    value_too_long = loops.pass_long c s d pass some-open p

    module _ (fits : nat_abs p.v < 10 ^ p.n) where
      pub pass_stores : data_after c s d ≡ stored d p.a (written c.dialect.sign p.n p.v)
      pass_stores = loops.pass_stores c s d pass some-open p fits

      -- The loop stays open, and the run goes on behind its entry.
      pub pass_goes_on : testb p.v (look_of s).last.limit (look_of s).last.step ≡ true → next_of c s d ≡ to (gone s ((look_of s).last.entry + 1))
      pass_goes_on = loops.pass_again c s d pass some-open p fits

      -- The loop is closed, its slot becomes zero, and the run goes on behind the loop end that its entry names.
      pub pass_closes : testb p.v (look_of s).last.limit (look_of s).last.step ≡ false
          → next_of c s d
          ≡ to (record { at = (entry_of c (look_of s)).c + 1; depth = s.depth; returns = s.returns; opened = s.opened - 1; loops = set s.loops (s.opened - 1) no_loop; trap = s.trap })
      pass_closes = loops.pass_leaves c s d pass some-open p fits

      -- "At exit the control field holds the first value that failed the test"
      pub value_held : SoundCode c → SoundDialect c.dialect → read_at c (data_after c s d) p.a p.n ≡ Ok p.v
      value_held unit dialect =
          ap (λ (x : List ℕ). read_at c x p.a p.n) pass_stores
          ∙ controls.place_holds c unit dialect d (c.items (entry_of c (look_of s)).a) p.a p.n p.found p.v fits

  -- ---- EXITLOOP: code 16

  pub exit_closes : here.code ≡ 16 → (s.opened ≡ 0 → ⊥)
      → next_of c s d
      ≡ to (record { at = (entry_of c (look_of s)).c + 1; depth = s.depth; returns = s.returns; opened = s.opened - 1; loops = set s.loops (s.opened - 1) no_loop; trap = s.trap })
  exit_closes = loops.exit_leaves c s d

  pub exit_keeps_data : here.code ≡ 16 → data_after c s d ≡ d
  exit_keeps_data e = jumps_keep_data c s d (no_place here.code e) (no_pass here.code e)
    where
      no_place : (code : ℕ) → code ≡ 16 → WritesA code → ⊥
      no_place code e (inl h) = omega (arith, e, h.1)
      no_place code e (inr (inl h)) = omega (arith, e, h)
      no_place code e (inr (inr h)) = omega (arith, e, h)

      no_pass : (code : ℕ) → code ≡ 16 → Repeats code → ⊥
      no_pass code e (inl h) = omega (arith, e, h)
      no_pass code e (inr h) = omega (arith, e, h)

  -- ---- 27, 28 and 29, and every other statement

  pub zero_exactly : (next_of c s d ≡ stuck fault.ZeroStep) ↔ (here.code ≡ 14) × (s.opened < 16) × (e : Entry c d here) × (nat_abs e.step ≡ 0)
  zero_exactly = loops.zero_exactly c s d

  pub loops_full_exactly : (next_of c s d ≡ stuck fault.LoopsFull) ↔ (here.code ≡ 14) × (16 ≤ s.opened)
  loops_full_exactly = loops.loops_exactly c s d

  -- "29 loop end, EXITLOOP or NEXTLOOP with no loop open"
  pub no_loop_exactly : (next_of c s d ≡ stuck fault.NoLoop) ↔ OnLoop here.code × (s.opened ≡ 0)
  no_loop_exactly = loops.no_loop_exactly c s d

  pub others_keep_loops : (here.code ≡ 14 → ⊥) → (OnLoop here.code → ⊥) → (t : State) → next_of c s d ≡ to t → (t.opened ≡ s.opened) × (t.loops ≡ s.loops)
  others_keep_loops = loops.loops_kept c s d

-- So `start_held` and `value_held` ask for a sound unit alone: `SoundUnit` has `SoundCode` as its code.
pub every_dialect : (u : List ℕ) → SoundDialect (decoded u).dialect
every_dialect = parts_dialect

-- "27 zero step"
pub zero_step : fault_number fault.ZeroStep ≡ 27
zero_step = refl

-- "28 more than 16 open loops"
pub loops_full : fault_number fault.LoopsFull ≡ 28
loops_full = refl

-- "29 loop end, EXITLOOP or NEXTLOOP with no loop open"
pub no_loop_lem : fault_number fault.NoLoop ≡ 29
no_loop_lem = refl

-- "they and a loop end act on the loop opened last"
pub opened_last : (s : State) (k : ℕ) → s.opened ≡ k + 1 → (look_of s).last ≡ get_or s.loops k no_loop
opened_last = loops.last_loop

-- ---- the test

-- "with a positive step the loop goes on while the control value is not above the limit": something that is not below zero leads from the one to the other
pub not_above : (v limit : ℤ) (step : ℕ) → (testb v limit (pos step) ≡ true) ↔ (k : ℕ) × (v +ℤ pos k ≡ limit)
not_above = controls.test_up

-- "with a negative step while it is not below"
pub not_below : (v limit : ℤ) (step : ℕ) → (testb v limit (negsuc step) ≡ true) ↔ (k : ℕ) × (limit +ℤ pos k ≡ v)
not_below = controls.test_down

-- ---- the state that a call hands back

-- `Post` is what the `ensures` of `dibol::run` says of its arguments a, its result r and what it leaves, t: the unit is sound, and so is the state that is given.
module _ (κs : Lifetimes.Lfts 2) (a : _) (r : Outcome) (t : _) (post : run.Post κs a r t) (unit : SoundUnit a.0.now (parts_of a.0.now))
    (state : Sound (decoded a.0.now) a.1.1.0) where
  -- "28 more than 16 open loops"
  pub loops_within : r.state.opened ≤ 16
  loops_within = (state_stays_sound κs a r t post unit state).nested

  -- "an open loop names an entry statement of the unit beside its limit and nonzero step, both in the value range"
  pub open_loop_sound : (k : ℕ) → k < r.state.opened → LoopSound (decoded a.0.now) (get_or r.state.loops k no_loop)
  open_loop_sound = (state_stays_sound κs a r t post unit state).running

  pub unused_slot_zero : (k : ℕ) → r.state.opened ≤ k → k < 16 → get_or r.state.loops k no_loop ≡ no_loop
  unused_slot_zero = (state_stays_sound κs a r t post unit state).vacant
