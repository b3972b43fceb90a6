-- Demand 3 of the owner's letter.
--
-- "The fence check says yes to a sound unit exactly when the fence rules in the papers hold for it. Take a unit with a yes, a data buffer of its size
-- whose decimal elements are all valid, a sound resume state and any allowance of statements. However that run stops, no byte outside the
-- destinations written in the unit has changed, every decimal element is valid, no subscript error was given, and a bad digit can come only from
-- moving alpha text to a decimal place."
--
-- Request 6 of document 02, "ONERROR and OFFERROR": "demand 3 says "given" also of a trapped error". `Gives` says that a statement within the allowance gives an error,
-- trapped or not, in the state at and over the data seen.
--
-- `fence_of u` is what the fence check answers for the unit u. A call of `dibol::run` on the unit u, the data d, the state s and the allowance m answers and
-- leaves `run_of u d s m`: that is its contract. `parts_of u` are the lengths that the unit's trailer names, `decoded u` is the unit, decoded by them.
--
--   yes_exactly, no_exactly, refused_exactly    each answer of the fence check is given exactly when what it says is so
--   no_breach_exactly, breach_of_no             a statement has no breach exactly when it keeps the rules; that of a no has one
--   breach_exactly                              a breach is named exactly when that rule is the one that the statement breaks first
--   destination_exactly                         a byte lies in a destination exactly when the place a of a statement of code 1 to 6, 13 or 14 names it
--   valid_exactly, first_exactly, size_exactly, no_unit_exactly    each answer about a data buffer is given exactly when what it says is so
--   invalid_first                               the element that is named is not valid, and all before it are
--   cannot_slip                                 what holds of every run of a unit with a yes, and its five parts in the letter's words
--   errors_safe                                 what holds of every error that is given in such a run, and its two parts in the letter's words, never_21 and
--                                               bad_digit_only_text
--   last_error_never_21                         so that 21 never becomes the last error
--   says_exactly, names_exactly, keeps_exactly, data_exactly, run_cannot_slip   the same of the contracts themselves: of whatever `dibol::fence`, `dibol::breach`,
--                                               `dibol::invalid` and `dibol::run` are permitted to answer and leave
--   asked_cannot_slip                           run_cannot_slip where all that it takes is asked: the fence answered yes, and the data had no invalid decimal
-- Assumes nothing.
use Rattle.std.specs.Prelude.{ℕ, ◌+◌, ◌<◌, ◌≡◌, true, ◌↔◌, ◌⊎◌, List, length, get_or, take, drop, Err}
use Rattle.std.proofs.Common.{ap}
use Rattle.rules_run.specs.declared.Caught.{Caught}
use Rattle.std.proofs.Common.{sym, ◌∙◌, subst, inl, inr}
use contract.Lifetimes
use Rattle.rules.specs.declared.Fault.{Fault}
use Rattle.rules.specs.Stops.{fault_number}
use Rattle.rules.specs.Values.{Valid}
use Rattle.rules_unit.specs.declared.Refusal.{Refusal}
use Rattle.rules_unit.specs.Codes.{Code, decimalb, size_of, count_of, element_at}
use Rattle.rules_unit.specs.Decode.{parts_of, decoded}
use Rattle.rules_unit.specs.Answers.{Says}
use Rattle.rules_unit.specs.Sound.{SoundUnit}
use Rattle.rules_unit.proofs.Sound.{sound_passed}
use Rattle.rules_run.specs.declared.State.{State}
use Rattle.rules_run.specs.declared.Outcome.{Outcome}
use Rattle.rules_run.specs.States.{Sound, error_at}
use Rattle.rules_run.specs.Stops.{stop_number}
use Rattle.rules_run.specs.Runs.{run_of}
use Rattle.rules_run.specs.Answers.{Gives}
use Rattle.rules_fence.specs.declared.Breach.{Breach}
use Rattle.rules_fence.specs.declared.Breach.TheVariants as breach
use Rattle.rules_fence.specs.declared.Verdict.{Verdict}
use Rattle.rules_fence.specs.declared.Verdict.TheVariants.{Refused, Yes, No}
use Rattle.rules_fence.specs.declared.Validity.{Validity}
use Rattle.rules_fence.specs.declared.Validity.TheVariants as validity
use Rattle.rules_fence.specs.Fence.{StatementFenced, Fenced, Breaks}
use Rattle.rules_fence.specs.Breaches.{fence_of, breach_in}
use Rattle.rules_fence.specs.Reasons.{StatementBreaks}
use Rattle.rules_fence.specs.Validity.{validity_of, FirstInvalid}
use Rattle.rules_fence.specs.Answers.{FenceSays, ValiditySays}
use Rattle.rules_fence.specs.Destinations.{Destination, InPlaceA, AllValid, BadText}
use Rattle.rules_fence.specs.Safety.{Safe, ErrorsSafe}
use Rattle.rules_fence.proofs.Verdicts.{fence_exactly, breach_in_lem, reason_exactly, breach_named}
use Rattle.rules_fence.proofs.Verdicts as verdicts
use Rattle.rules_fence.proofs.Validities.{validity_exactly, earlier_valid, before_valid}
use Rattle.rules_fence.proofs.Aims as aims
use Rattle.rules_fence.proofs.Demand.{call_safe, call_errors}
use Rattle.dibol.proofs.breach.Reads as said
use Rattle.dibol.proofs.fence.Reads as fence
use Rattle.dibol.proofs.invalid.Reads as asked
use Rattle.dibol.proofs.run.Reads as run
use Rattle.promises.specs.Demand2.{last_error_given}

-- ---- the fence check

module _ (u : List ℕ) where
  -- "The fence check says yes to a sound unit exactly when the fence rules in the papers hold for it."
  pub yes_exactly : (fence_of u ≡ Yes) ↔ SoundUnit u (parts_of u) × Fenced (decoded u)
  yes_exactly = fence_exactly u Yes

  -- "no with the first statement that breaks a rule"
  pub no_exactly : (i : ℕ) → (fence_of u ≡ No i) ↔ SoundUnit u (parts_of u) × Breaks (decoded u) i
  no_exactly i = fence_exactly u (No i)

  -- "a refusal (1 to 5) with its place": the one that the check of the unit gives
  pub refused_exactly : (r : Refusal) → (fence_of u ≡ Refused r) ↔ Says u (Err r)
  refused_exactly r = fence_exactly u (Refused r)

  -- The breach of a statement of a sound unit.
  pub no_breach_exactly : SoundUnit u (parts_of u) → (i : ℕ) → i < (parts_of u).n → (breach_in u i ≡ breach.None) ↔ StatementFenced (decoded u) ((decoded u).statement i)
  no_breach_exactly t i h = rw (breach_in_lem u (parts_of u) i (sound_passed u (parts_of u) t) h) (verdicts.keeps_exactly (decoded u) t.code i h)

  pub breach_of_no : (i : ℕ) → fence_of u ≡ No i → breach_in u i ≡ breach.None → ⊥
  breach_of_no = breach_named u

  -- Why: of a statement's references the first that breaks a rule breaks this one (`Reasons` has a sentence for each).
  pub breach_exactly : SoundUnit u (parts_of u) → (i : ℕ) → i < (parts_of u).n → (b : Breach) → (b ≡ breach.None → ⊥)
      → (breach_in u i ≡ b) ↔ StatementBreaks (decoded u) ((decoded u).statement i) b
  breach_exactly t i h b z = rw (breach_in_lem u (parts_of u) i (sound_passed u (parts_of u) t) h) (reason_exactly (decoded u) t.code i h b z)

-- "A destination is the span named by place a of codes 1 to 6", and of 13 and 14.
pub destination_exactly : (c : Code) (b : ℕ) → Destination c b ↔ InPlaceA c b
destination_exactly = aims.destination_exactly

-- ---- a data buffer

-- "a data buffer of its size whose decimal elements are all valid"
module _ (u d : List ℕ) where
  pub valid_exactly : (validity_of u d ≡ validity.AllValid) ↔ SoundUnit u (parts_of u) × (length d ≡ (parts_of u).d) × AllValid (decoded u) d
  valid_exactly = validity_exactly u d validity.AllValid

  -- The first element that is not valid, by field and then by element. It is told from 1, as a subscript names it.
  pub first_exactly : (f e : ℕ) → (validity_of u d ≡ validity.Invalid f e)
      ↔ SoundUnit u (parts_of u) × (length d ≡ (parts_of u).d) × (k : ℕ) × (e ≡ k + 1) × FirstInvalid (decoded u) d f k
  first_exactly f e = validity_exactly u d (validity.Invalid f e)

  pub size_exactly : (validity_of u d ≡ validity.WrongSize) ↔ SoundUnit u (parts_of u) × (length d ≡ (parts_of u).d → ⊥)
  size_exactly = validity_exactly u d validity.WrongSize

  pub no_unit_exactly : (r : Refusal) → (validity_of u d ≡ validity.Refused r) ↔ Says u (Err r)
  no_unit_exactly r = validity_exactly u d (validity.Refused r)

  -- The element k of the field f, from 0, is valid.
  abbrev ValidAt : ℕ → ℕ → Type 0
  ValidAt f k = Valid (decoded u).dialect.limit (decoded u).dialect.sign (take (size_of (decoded u) f) (drop (element_at (decoded u) f k) d))

  -- The element that is named is one of a decimal field of the unit and is not valid, and every one before it is: in its field, and in each decimal field before.
  pub invalid_first : (f e : ℕ) → validity_of u d ≡ validity.Invalid f e
      → (k : ℕ)
      × (e ≡ k + 1)
      × (f < (parts_of u).f)
      × (decimalb (decoded u) f ≡ true)
      × (k < count_of (decoded u) f)
      × (ValidAt f k → ⊥)
      × ((j : ℕ) → j < k → ValidAt f j)
      × ((g j : ℕ) → g < f → decimalb (decoded u) g ≡ true → j < count_of (decoded u) g → ValidAt g j)
  invalid_first f e q =
      let r = (first_exactly f e).0 q in
      let t = r.4.here in (
        r.2,
        r.3,
        t.low,
        t.decimal,
        t.in_field,
        t.invalid,
        earlier_valid (decoded u) d f r.2 r.4,
        before_valid (decoded u) d f r.2 r.4,
      )

-- ---- a unit with a yes

-- "Take a unit with a yes, a data buffer of its size whose decimal elements are all valid, a sound resume state and any allowance of statements."
module _ (u : List ℕ) (yes : fence_of u ≡ Yes) (d : List ℕ) (size : length d ≡ (parts_of u).d) (valid : AllValid (decoded u) d) (s : State)
    (sound : Sound (decoded u) s) (m : ℕ) where
  -- "However that run stops"
  pub cannot_slip : Safe (decoded u) d (run_of u d s m)
  cannot_slip = call_safe u yes d size valid s sound m

  -- "no byte outside the destinations written in the unit has changed"
  pub nothing_outside : (b : ℕ) → (Destination (decoded u) b → ⊥) → get_or (run_of u d s m).bytes b 0 ≡ get_or d b 0
  nothing_outside = cannot_slip.outside

  pub no_byte_more : length (run_of u d s m).bytes ≡ length d
  no_byte_more = cannot_slip.length_kept

  -- "every decimal element is valid"
  pub decimals_valid : AllValid (decoded u) (run_of u d s m).bytes
  decimals_valid = cannot_slip.valid

  -- "no subscript error was given"
  pub no_subscript_error : stop_number (run_of u d s m).outcome.stop ≡ 21 → ⊥
  no_subscript_error = cannot_slip.no_21

  -- "a bad digit can come only from moving alpha text to a decimal place": the statement that is named is a SET of a decimal place from an alpha source,
  -- and it is that text which is no number
  pub bad_digit_only : stop_number (run_of u d s m).outcome.stop ≡ 22
      → ((run_of u d s m).outcome.place < (parts_of u).n) × BadText (decoded u) (run_of u d s m).bytes ((decoded u).statement (run_of u d s m).outcome.place)
  bad_digit_only = cannot_slip.only_22

  -- "demand 3 says "given" also of a trapped error": wherever in the run one is given
  pub errors_safe : ErrorsSafe (decoded u) m s d
  errors_safe = call_errors u yes d size valid s sound m

  -- "no subscript error was given"
  pub never_21 : (f : Fault) → fault_number f ≡ 21 → Gives (decoded u) m s d f → ⊥
  never_21 = errors_safe.never_21

  -- "a bad digit can come only from moving alpha text to a decimal place": the statement that gives it is such a SET, and over the data that it sees it is that text
  -- which is no number
  pub bad_digit_only_text : (f : Fault) → fault_number f ≡ 22 → (g : Gives (decoded u) m s d f) → BadText (decoded u) g.seen ((decoded u).statement g.at.at)
  bad_digit_only_text = errors_safe.always_text

-- ---- the functions themselves

-- `Post` is what a function's `ensures` says of its arguments a, its result r and what it leaves, s. The argument of `fence` is the unit; those of `breach` are
-- the unit and the statement, those of `invalid` the unit and the data, and those of `run` the unit, the data, the state and the allowance.
pub says_exactly : (κs : Lifetimes.Lfts 1) (a : _) (r : Verdict) (s : _) → fence.Post κs a r s → (v : Verdict) → (r ≡ v) ↔ FenceSays a.0.now v
says_exactly κs a r s p v = rw p (fence_exactly a.0.now v)

pub names_exactly : (κs : Lifetimes.Lfts 1) (a : _) (r : Breach) (s : _) → said.Post κs a r s
    → SoundUnit a.0.now (parts_of a.0.now)
    → a.1.0 < (parts_of a.0.now).n
    → (b : Breach)
    → (b ≡ breach.None → ⊥)
    → (r ≡ b) ↔ StatementBreaks (decoded a.0.now) ((decoded a.0.now).statement a.1.0) b
names_exactly κs a r s p sound low b z = rw p (breach_exactly a.0.now sound a.1.0 low b z)

pub keeps_exactly : (κs : Lifetimes.Lfts 1) (a : _) (r : Breach) (s : _) → said.Post κs a r s
    → SoundUnit a.0.now (parts_of a.0.now)
    → a.1.0 < (parts_of a.0.now).n
    → (r ≡ breach.None) ↔ StatementFenced (decoded a.0.now) ((decoded a.0.now).statement a.1.0)
keeps_exactly κs a r s p sound low = rw p (no_breach_exactly a.0.now sound a.1.0 low)

pub data_exactly : (κs : Lifetimes.Lfts 2) (a : _) (r : Validity) (s : _) → asked.Post κs a r s → (v : Validity) → (r ≡ v) ↔ ValiditySays a.0.now a.1.0.now v
data_exactly κs a r s p v = rw p (validity_exactly a.0.now a.1.0.now v)

pub run_cannot_slip : (κs : Lifetimes.Lfts 2) (a : _) (r : Outcome) (s : _) → run.Post κs a r s
    → fence_of a.0.now ≡ Yes
    → length a.1.0.now ≡ (parts_of a.0.now).d
    → AllValid (decoded a.0.now) a.1.0.now
    → Sound (decoded a.0.now) a.1.1.0
    → Safe (decoded a.0.now) a.1.0.now (record { outcome = r; bytes = s.1.0.now })
run_cannot_slip κs a r s p fenced size valid sound = rw p (cannot_slip a.0.now fenced a.1.0.now size valid a.1.1.0 sound a.1.1.1.0)

-- The same where nothing is taken on trust but a sound state: `fence` was asked about the unit and answered yes, and `invalid` was asked about the unit and the data and
-- found no invalid decimal. Then `run`, called with that unit and that data, can't slip, and no error that it gives, trapped or not, is one that a slip would give.
module _ (κf : Lifetimes.Lfts 1) (f : _) (answer : Verdict) (sf : _) (fenced : fence.Post κf f answer sf) (yes : answer ≡ Yes)
    (κd : Lifetimes.Lfts 2) (d : _) (found : Validity) (sd : _) (looked : asked.Post κd d found sd) (all : found ≡ validity.AllValid)
    (κs : Lifetimes.Lfts 2) (a : _) (r : Outcome) (s : _) (ran : run.Post κs a r s)
    (fenced-unit : f.0.now ≡ a.0.now) (looked-unit : d.0.now ≡ a.0.now) (looked-data : d.1.0.now ≡ a.1.0.now) where
  pub asked_cannot_slip : Sound (decoded a.0.now) a.1.1.0
      → Safe (decoded a.0.now) a.1.0.now (record { outcome = r; bytes = s.1.0.now })
      × ErrorsSafe (decoded a.0.now) a.1.1.1.0 a.1.1.0 a.1.0.now
  asked_cannot_slip sound =
      let y : fence_of a.0.now ≡ Yes = subst (λ (u : List ℕ). fence_of u ≡ Yes) fenced-unit (sym fenced ∙ yes) in
      let q : validity_of a.0.now a.1.0.now ≡ validity.AllValid =
      subst (λ (u : List ℕ). validity_of u a.1.0.now ≡ validity.AllValid) looked-unit
      (subst (λ (x : List ℕ). validity_of d.0.now x ≡ validity.AllValid) looked-data (sym looked ∙ all)) in
      let v = (valid_exactly a.0.now a.1.0.now).0 q in
      (run_cannot_slip κs a r s ran y v.1 v.2 sound, errors_safe a.0.now y a.1.0.now v.1 v.2 a.1.1.0 sound a.1.1.1.0)

-- A last error of 21 is one that the state given had.
pub last_error_never_21 : (κs : Lifetimes.Lfts 2) (a : _) (r : Outcome) (s : _) → run.Post κs a r s
    → fence_of a.0.now ≡ Yes
    → length a.1.0.now ≡ (parts_of a.0.now).d
    → AllValid (decoded a.0.now) a.1.0.now
    → Sound (decoded a.0.now) a.1.1.0
    → (i : ℕ)
    → r.state.trap.caught ≡ error_at 21 i
    → a.1.1.0.trap.caught ≡ error_at 21 i
last_error_never_21 κs a r s p fenced size valid sound i e = by (last_error_given κs a r s p)
  where
    same_number : (n j : ℕ) → error_at n j ≡ error_at 21 i → n ≡ 21
    same_number n j q =
        let x : ◌≡◌ {A = Caught} (record { number = n; statement = j }) (record { number = 21; statement = i }) = cc in
        ap (λ (e : Caught). e.number) x

    by : (r.state.trap.caught ≡ a.1.1.0.trap.caught)
        ⊎ ((f : Fault) × (g : Gives (decoded a.0.now) a.1.1.1.0 a.1.1.0 a.1.0.now f) × (r.state.trap.caught ≡ error_at (fault_number f) g.at.at))
        → a.1.1.0.trap.caught ≡ error_at 21 i
    by (inl q) = sym q ∙ e
    by (inr (f, g, q)) =
        absurd (never_21 a.0.now fenced a.1.0.now size valid a.1.1.0 sound a.1.1.1.0 f (same_number (fault_number f) g.at.at (sym q ∙ e)) g)
