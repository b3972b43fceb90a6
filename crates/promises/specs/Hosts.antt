-- Demands 1 and 2 as a host in C reads them, and what it holds from one call to the next: the resume state as numbers.
--
-- `Post` is what the `ensures` of `dibol_run` says of its arguments a, its result r and what it leaves, s. It says that a call on the unit u, the data
-- d, the state's numbers w, the allowance m and the answer a leaves `handed_of u d w m a`, over `run_of`, which is what `dibol::run` answers and leaves.
--
--   reads_the_same           a call is what demand 2 says, refused or run, and the host reads its stop, place, count, data and state
--   c_refused_changes_nothing   after 1 to 7 each byte of the data and each number of the state is as given
--   c_error_changes_nothing  a run error leaves the data as its statement found it and the state at that statement, which isn't counted
--   c_given_exactly          each number is given, and its place named, exactly when the table says so
--   refused_by_the_check     1 to 5: nothing is changed
--   refused_for_its_size     6: nothing is changed
--   refused_for_its_state    7, after 1 to 6: nothing is changed, where the state is unsound
--   refused_for_its_numbers  .. and where the numbers are no state's: there are not 104, one is outside its range, or the last two are no error's
--   read_after_write         the numbers of a state are read as that state
--   first_is_the_place, then_the_calls, then_the_returns, then_the_loops    which number of a state stands where
--   slot_entry, slot_limit, slot_step    .. of an open loop
--   no_handler, handler_plus_one, no_error, error_and_statement    .. of the handler and the last error
--   not_below_zero, below_zero    how a limit or a step is held
--   error_without_number     a statement of an error without the error's number makes the numbers no state's
--   left_with_the_next       after any other stop the numbers are those of the next state
--   goes_on_from_there       so that a further call goes on from that state
--   begins_at_zeros          104 zeros are the state before the first statement
--   goes_on_as_one           a run that is paused and gone on with comes to what one run comes to
--   words_fit, breach_words_fit    63 bytes have room for the words of every stop and of every fence rule
--   c_valid_exactly          `dibol_invalid` answers 0 exactly for a sound unit and data of its size whose decimal elements are all valid
--   c_invalid_first          where it answers 22, the answer tells the first element that is not valid, and where that starts
--   c_asked_cannot_slip      demand 3 where it is asked: `dibol_fence` answered 0, `dibol_invalid` answered 0, and the state is sound
--   c_breaches_same          `dibol_breaches` answers and leaves what `dibol::breaches` does, of which Breaching has the theorems
-- Assumes nothing.
use Rattle.std.specs.Prelude.{ℕ, suc, ◌+◌, ◌*◌, ◌^◌, ◌<◌, ◌≤◌, ◌≡◌, refl, ◌↔◌, Bool, true, false, List, [], ◌∷◌, pos, negsuc, length, get_or, replicate, eqb, Err, Ok, None, Some}
use Rattle.std.proofs.Common.{sym, ap, ◌∙◌, subst, eq-eqb, ne_eqb}
use contract.Lifetimes
use Rattle.rules.specs.Tests.{◌and◌}
use Rattle.rules_unit.specs.declared.Parts.{Parts}
use Rattle.rules_unit.specs.declared.Refusal.{Refusal}
use Rattle.rules_unit.specs.Codes.{element_at}
use Rattle.rules_unit.specs.Decode.{parts_of, decoded, code_of}
use Rattle.rules_unit.specs.Sound.{SoundUnit}
use Rattle.rules_unit.specs.Checks.{refusal_number, refusal_place, check_of}
use Rattle.rules_run.specs.declared.State.{State}
use Rattle.rules_run.specs.States.{no_loop, Sound, started, error_at}
use Rattle.rules_run.specs.declared.Stop.TheVariants as stop
use Rattle.rules_run.specs.Stops.{stop_number}
use Rattle.rules_run.specs.Runs.{Ran, counting, run_of}
use Rattle.rules_run.specs.Answers.{Erred, StopNo, no_of, Given}
use Rattle.rules_run.proofs.Resumed.{call_resumed}
use Rattle.rules_fence.specs.declared.Verdict.TheVariants as verdict
use Rattle.rules_fence.specs.declared.Validity.{Validity}
use Rattle.rules_fence.specs.declared.Validity.TheVariants as validity
use Rattle.rules_fence.specs.Breaches.{fence_of}
use Rattle.rules_fence.specs.Destinations.{AllValid}
use Rattle.rules_fence.specs.Safety.{Safe, ErrorsSafe}
use Rattle.rules_fence.specs.Listed.{breaches_of, Listed}
use Rattle.rules_fence.specs.Listed as told
use Rattle.rules_fence.specs.Validity.{validity_of, FirstInvalid}
use Rattle.rules_fence.proofs.Validities.{validity_exactly}
use Rattle.rules_host.specs.Laid.{laid}
use Rattle.rules_host.specs.Words as words
use Rattle.rules_host.proofs.Short.{words_short, breach_words_short}
use Rattle.rules_host.specs.Numbers.{word, handler_number, error_number, error_place, number_at, numbers_of, Fits, good_from, stateb, state_of}
use Rattle.rules_host.specs.Calls.{Told, invalid_told, Handed, refusedb, handed_of, untouched, HostReads}
use Rattle.rules_host.proofs.Listed as listed
use Rattle.rules_host.proofs.Resume as resume
use Rattle.rules_host.proofs.Asked.{valid_told, yes_told, invalid_told_lem, host_safe}
use Rattle.dibol.proofs.breaches.Reads as breaches
use Rattle.dibol_c.proofs.dibol_breaches.Reads as c-breaches
use Rattle.dibol_c.proofs.dibol_fence.Reads as c-fence
use Rattle.dibol_c.proofs.dibol_invalid.Reads as c-invalid
use Rattle.dibol_c.proofs.dibol_run.Reads as c-run

-- ---- the contract of dibol_run

module _ (κs : Lifetimes.Lfts 4) (a : _) (r : ℕ) (s : _) (post : c-run.Post κs a r s) where
  -- What the call is given, and what it answers and leaves.
  abbrev unit : List ℕ
  unit = a.0.now

  abbrev bytes : List ℕ
  bytes = a.1.0.now

  abbrev numbers : List ℕ
  numbers = a.1.1.0.now

  abbrev allowance : ℕ
  allowance = a.1.1.1.0

  abbrev answer : List ℕ
  answer = a.1.1.1.1.0.now

  abbrev left : Handed
  left = record { stop = r; bytes = s.1.0.now; state = s.1.1.0.now; answer = s.1.1.1.1.0.now }

  pub reads_the_same : HostReads unit bytes numbers allowance answer left
  reads_the_same = subst (HostReads unit bytes numbers allowance answer) (sym post) (resume.host_reads unit bytes numbers allowance answer)

  pub c_refused_changes_nothing : 1 ≤ r → r ≤ 7 → (s.1.0.now ≡ bytes) × (s.1.1.0.now ≡ numbers)
  c_refused_changes_nothing = resume.host_kept unit bytes numbers allowance answer left reads_the_same

  pub c_error_changes_nothing : 20 ≤ r → r ≤ 29 → Erred (decoded unit) allowance (state_of numbers) bytes r reads_the_same.ran
  c_error_changes_nothing = resume.host_erred unit bytes numbers allowance answer left reads_the_same

  -- The place is the one that `reads_the_same` finds in the answer.
  pub c_given_exactly : (x : StopNo) (place : ℕ) → (r ≡ no_of x) × (reads_the_same.ran.outcome.place ≡ place) ↔ Given unit bytes (state_of numbers) allowance x place
  c_given_exactly = resume.host_given unit bytes numbers allowance answer left reads_the_same

-- ---- the contracts of dibol_fence and dibol_invalid

-- The arguments of `dibol_invalid` are the unit, the data and the answer.
module _ (κs : Lifetimes.Lfts 3) (a : _) (r : ℕ) (s : _) (post : c-invalid.Post κs a r s) where
  pub c_valid_exactly : (r ≡ 0) ↔ SoundUnit a.0.now (parts_of a.0.now) × (length a.1.0.now ≡ (parts_of a.0.now).d) × AllValid (decoded a.0.now) a.1.0.now
  c_valid_exactly =
      let e = ap (λ (x : Told). x.value) post in
      let v = validity_exactly a.0.now a.1.0.now validity.AllValid in (
        λ z. v.0 (valid_told a.0.now (validity_of a.0.now a.1.0.now) a.1.1.0.now (sym e ∙ z)),
        λ h. e ∙ ap (λ (x : Validity). (invalid_told a.0.now x a.1.1.0.now).value) (v.1 h),
      )

  -- The second number is the field, the third the element from 1, the fourth its offset in the data.
  pub c_invalid_first : r ≡ 22 → 4 ≤ length a.1.1.0.now
      → (k : ℕ)
      × (get_or s.1.1.0.now 2 0 ≡ k + 1)
      × FirstInvalid (decoded a.0.now) a.1.0.now (get_or s.1.1.0.now 1 0) k
      × (get_or s.1.1.0.now 3 0 ≡ element_at (decoded a.0.now) (get_or s.1.1.0.now 1 0) k)
  c_invalid_first = invalid_told_lem a.0.now a.1.0.now a.1.1.0.now r s.1.1.0.now post

-- "Take a unit with a yes, a data buffer of its size whose decimal elements are all valid, a sound resume state and any allowance of statements."
module _ (κf : Lifetimes.Lfts 2) (f : _) (fenced : ℕ) (sf : _) (fence-post : c-fence.Post κf f fenced sf) (yes : fenced ≡ 0)
    (κd : Lifetimes.Lfts 3) (d : _) (found : ℕ) (sd : _) (invalid-post : c-invalid.Post κd d found sd) (all : found ≡ 0)
    (κs : Lifetimes.Lfts 4) (a : _) (r : ℕ) (s : _) (post : c-run.Post κs a r s)
    (fenced-unit : f.0.now ≡ a.0.now) (looked-unit : d.0.now ≡ a.0.now) (looked-data : d.1.0.now ≡ a.1.0.now) where
  -- The run that is safe is the one that the host reads: its stop, its data, and in the answer its place and its count.
  pub c_asked_cannot_slip : Sound (decoded a.0.now) (state_of a.1.1.0.now)
      → (ran : Ran)
      × (r ≡ stop_number ran.outcome.stop)
      × (s.1.0.now ≡ ran.bytes)
      × (s.1.1.1.1.0.now ≡ laid (stop_number ran.outcome.stop ∷ ran.outcome.place ∷ ran.outcome.count ∷ []) a.1.1.1.1.0.now)
      × Safe (decoded a.0.now) a.1.0.now ran
      × ErrorsSafe (decoded a.0.now) a.1.1.1.0 (state_of a.1.1.0.now) a.1.0.now
  c_asked_cannot_slip sound =
      host_safe a.0.now a.1.0.now a.1.1.0.now a.1.1.1.0 a.1.1.1.1.0.now
      (record { stop = r; bytes = s.1.0.now; state = s.1.1.0.now; answer = s.1.1.1.1.0.now }) post
      (subst (λ (u : List ℕ). fence_of u ≡ verdict.Yes) fenced-unit (yes_told f.0.now (fence_of f.0.now) f.1.0.now (sym (ap (λ (x : Told). x.value) fence-post) ∙ yes)))
      (subst (λ (u : List ℕ). validity_of u a.1.0.now ≡ validity.AllValid) looked-unit
      (subst (λ (x : List ℕ). validity_of d.0.now x ≡ validity.AllValid) looked-data
      (valid_told d.0.now (validity_of d.0.now d.1.0.now) d.1.1.0.now (sym (ap (λ (x : Told). x.value) invalid-post) ∙ all))))
      sound

-- ---- the contract of dibol_breaches

-- Both are called with the same unit, skip and rows.
pub c_breaches_same : (κs κs' : Lifetimes.Lfts 2) (a a' : _) (n n' : ℕ) (s s' : _) → c-breaches.Post κs a n s → breaches.Post κs' a' n' s'
    → a.0.now ≡ a'.0.now
    → a.1.0 ≡ a'.1.0
    → a.1.1.0.now ≡ a'.1.1.0.now
    → (n ≡ n') × (s.1.1.0.now ≡ s'.1.1.0.now)
c_breaches_same κs κs' a a' n n' s s' p q same-unit same-skip same_rows =
    let e : told.listed (breaches_of a.0.now) a.1.0 a.1.1.0.now ≡ told.listed (breaches_of a'.0.now) a'.1.0 a'.1.1.0.now = rw (same-unit, same-skip, same_rows) in
    let f = p ∙ e ∙ sym q in
    (ap (λ (x : Listed). x.count) f, ap (λ (x : Listed). x.rows) f)

-- ---- one call

module _ (u d w : List ℕ) (m : ℕ) (a : List ℕ) where
  pub refused_by_the_check : (r : Refusal) → check_of u ≡ Err r → handed_of u d w m a ≡ untouched (refusal_number r) (refusal_place r) d w a
  refused_by_the_check = resume.left_refused u d w m a

  pub refused_for_its_size : (p : Parts) → check_of u ≡ Ok p → (length d ≡ p.d → ⊥) → handed_of u d w m a ≡ untouched 6 0 d w a
  refused_for_its_size = resume.left_wrong_size u d w m a

  pub refused_for_its_state : (p : Parts) → check_of u ≡ Ok p → length d ≡ p.d → (Sound (code_of u p) (state_of w) → ⊥)
      → handed_of u d w m a ≡ untouched 7 0 d w a
  refused_for_its_state = resume.left_unsound u d w m a

  pub refused_for_its_numbers : (p : Parts) → check_of u ≡ Ok p → length d ≡ p.d → stateb w ≡ false → handed_of u d w m a ≡ untouched 7 0 d w a
  refused_for_its_numbers = resume.left_none u d w m a

-- ---- from one call to the next

pub read_after_write : (s : State) → Fits s → state_of (numbers_of s) ≡ s
read_after_write = listed.read_written

-- `number_at s k` is the number k of the state s.
module _ (s : State) where
  pub first_is_the_place : number_at s 0 ≡ s.at
  first_is_the_place = listed.first_number s

  pub then_the_calls : number_at s 1 ≡ s.depth
  then_the_calls = listed.calls_number s

  pub then_the_returns : (i : ℕ) → i < 50 → number_at s (i + 2) ≡ get_or s.returns i 0
  then_the_returns = listed.return_number s

  pub then_the_loops : number_at s 52 ≡ s.opened
  then_the_loops = listed.loops_number s

  -- The slots are 16.
  module _ (k : ℕ) (low : k < 16) where
    pub slot_entry : number_at s (k * 3 + 53) ≡ (get_or s.loops k no_loop).entry
    slot_entry = listed.entry_number s k low

    pub slot_limit : number_at s (k * 3 + 54) ≡ word (get_or s.loops k no_loop).limit
    slot_limit = listed.limit_number s k low

    pub slot_step : number_at s (k * 3 + 55) ≡ word (get_or s.loops k no_loop).step
    slot_step = listed.step_number s k low

  -- "The state keeps the handler": its statement and one more, and 0 for none.
  pub no_handler : s.trap.handler ≡ None → number_at s 101 ≡ 0
  no_handler e = listed.handler_number_lem s ∙ ap handler_number e

  pub handler_plus_one : (i : ℕ) → s.trap.handler ≡ Some i → number_at s 101 ≡ i + 1
  handler_plus_one i e = listed.handler_number_lem s ∙ ap handler_number e

  -- "and the last error's number and statement", and 0 and 0 for none.
  pub no_error : s.trap.caught ≡ None → (number_at s 102 ≡ 0) × (number_at s 103 ≡ 0)
  no_error e = (listed.error_number_lem s ∙ ap error_number e, listed.place_number s ∙ ap error_place e)

  pub error_and_statement : (n i : ℕ) → s.trap.caught ≡ error_at n i → (number_at s 102 ≡ n) × (number_at s 103 ≡ i)
  error_and_statement n i e = (listed.error_number_lem s ∙ ap error_number e, listed.place_number s ∙ ap error_place e)

-- A value that is not below 0 is held as itself.
pub not_below_zero : (n : ℕ) → word (pos n) ≡ n
not_below_zero n = refl

-- A value below 0 is held as C holds it: it and the number make 2 to the 64th.
pub below_zero : (n : ℕ) → n < 2 ^ 64 → word (negsuc n) + suc n ≡ 2 ^ 64
below_zero = listed.word_below

-- Where there is no error, there is no statement of one.
pub error_without_number : (w : List ℕ) → get_or w 102 0 ≡ 0 → (get_or w 103 0 ≡ 0 → ⊥) → stateb w ≡ false
unfolding stateb
error_without_number w e n = rw (eq-eqb (get_or w 102 0) 0 e, ne_eqb (get_or w 103 0) 0 n) (by (eqb (length w) 104) (good_from 0 w))
  where
    by : (x y : Bool) → x and (y and false) ≡ false
    by true true = refl
    by true false = refl
    by false y = refl

module _ (u d w : List ℕ) (m : ℕ) (a : List ℕ) where
  pub left_with_the_next : refusedb (handed_of u d w m a).stop ≡ false → (handed_of u d w m a).state ≡ numbers_of (run_of u d (state_of w) m).outcome.state
  left_with_the_next = resume.left_state u d w m a

  pub goes_on_from_there : refusedb (handed_of u d w m a).stop ≡ false → state_of (handed_of u d w m a).state ≡ (run_of u d (state_of w) m).outcome.state
  goes_on_from_there = resume.goes_on u d w m a

pub begins_at_zeros : state_of (replicate 104 0) ≡ started
begins_at_zeros = resume.zeros_start

-- ---- the words

pub words_fit : (n : ℕ) → length (words.words_of n) ≤ 63
words_fit = words_short

pub breach_words_fit : (n : ℕ) → length (words.breach_words_of n) ≤ 63
breach_words_fit = breach_words_short

-- ---- pausing

-- A call that has spent its allowance m, and is gone on with from its state and its data for n more, comes to what one call with m + n comes to: the same
-- stop, place, state and data, and the counts add up.
pub goes_on_as_one : (u d : List ℕ) (s : State) (m n : ℕ) → (run_of u d s m).outcome.stop ≡ stop.Spent
    → run_of u d s (m + n) ≡ counting (run_of u d s m).outcome.count (run_of u (run_of u d s m).bytes (run_of u d s m).outcome.state n)
goes_on_as_one = call_resumed
