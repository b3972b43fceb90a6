-- What the functions for C answer and leave, over the rules of the unit, the run and the fence.
--   check_told, fence_told, literal_told    the value answered, and the numbers put into the answer
--   entry_of u i                          the field entry i of a unit, where it has one
--   parts_told, field_told, invalid_told    the same of the parts, of a field entry and of valid data
--   handed_of u d w m a                   what a run leaves of the data d, the state's numbers w and the answer a
--   untouched n place d w a              .. where it is refused by n: nothing is changed, and the count is 0
--   HostReads u d w m a h                what a host reads of what is left
-- Assumes nothing.
use Rattle.rules_unit.specs.declared.Field.{Field}
use Rattle.rules_unit.specs.declared.Refusal.{Refusal}
use Rattle.rules_unit.specs.declared.Parts.{Parts}
use Rattle.std.specs.Prelude.{ℕ, ◌+◌, ◌-◌, ◌*◌, ◌≤◌, ◌≡◌, Bool, cond, List, [], ◌∷◌, ltb, leb, Result, Err, Ok, Option, None, Some}
use Rattle.rules.specs.Tests.{◌and◌}
use Rattle.rules_unit.specs.declared.Kind.{Kind}
use Rattle.rules_unit.specs.declared.Kind.TheVariants as kind
use Rattle.rules_unit.specs.declared.Rule.{Rule}
use Rattle.rules_unit.specs.declared.Rule.TheVariants as rule
use Rattle.rules_unit.specs.declared.Stretch.{Stretch}
use Rattle.rules_unit.specs.Codes.{rule_of}
use Rattle.rules_unit.specs.Decode.{code_of}
use Rattle.rules_unit.specs.Checks.{refusal_number, refusal_place, check_of}
use Rattle.rules_run.specs.Runs.{Ran, run_of}
use Rattle.rules_run.specs.Stops.{stop_number}
use Rattle.rules_run.specs.Answers.{RunNumber, Does}
use Rattle.rules_fence.specs.declared.Verdict.{Verdict}
use Rattle.rules_fence.specs.declared.Verdict.TheVariants as verdict
use Rattle.rules_fence.specs.declared.Validity.{Validity}
use Rattle.rules_fence.specs.declared.Validity.TheVariants as validity
use Rattle.rules_fence.specs.Breaches.{breach_number, breach_in}
use Rattle.rules_host.specs.Laid.{laid}
use Rattle.rules_host.specs.Numbers.{numbers_of, state_of}

-- ---- check, fence, literal

-- The value, and the answer: as many of the numbers as fit at its front.
pub record Told : Type 0 where
  pub value : ℕ
  pub answer : List ℕ

abbrev pub told : ℕ → List ℕ → List ℕ → Told
told n xs a = record { value = n; answer = laid xs a }

-- The stop; in the answer the stop, the place and D.
abbrev pub check_told : Result Parts Refusal → List ℕ → Told
check_told (Ok p) a = told 0 (0 ∷ 0 ∷ p.d ∷ []) a
check_told (Err r) a = told (refusal_number r) (refusal_number r ∷ refusal_place r ∷ 0 ∷ []) a

-- 0 for yes, 1 for no, 2 for a unit refused; in the answer the statement and its breach, or the stop and the place.
abbrev pub fence_told : List ℕ → Verdict → List ℕ → Told
fence_told u verdict.Yes a = told 0 (0 ∷ 0 ∷ []) a
fence_told u (verdict.No i) a = told 1 (i ∷ breach_number (breach_in u i) ∷ []) a
fence_told u (verdict.Refused r) a = told 2 (refusal_number r ∷ refusal_place r ∷ []) a

-- The length; in the answer where the literal starts, and the length.
abbrev pub literal_told : Stretch → List ℕ → Told
literal_told s a = told s.len (s.at ∷ s.len ∷ []) a

-- ---- parts, fields and valid data

-- The stop; in the answer D, F, E, P, N and the most digits of a decimal.
abbrev pub parts_told : Result Parts Refusal → List ℕ → Told
parts_told (Ok p) a = told 0 (p.d ∷ p.f ∷ p.e ∷ p.p ∷ p.n ∷ p.dialect.limit ∷ []) a
parts_told (Err r) a = told (refusal_number r) (0 ∷ 0 ∷ 0 ∷ 0 ∷ 0 ∷ 0 ∷ []) a

abbrev pub entry_by : List ℕ → ℕ → Result Parts Refusal → Option Field
entry_by u i (Ok p) = cond (ltb i p.f) (Some ((code_of u p).field i)) None
entry_by u i (Err r) = None

unfoldable pub entry_of : List ℕ → ℕ → Option Field
entry_of u i = entry_by u i (check_of u)

-- "kind (0 alpha, 1 decimal, 2 record)"; no entry of a unit that passes its check is of another.
abbrev pub kind_number : Kind → ℕ
kind_number kind.Alpha = 0
kind_number kind.Decimal = 1
kind_number kind.Record = 2
kind_number kind.Bad = 3

abbrev pub strict_number : Rule → ℕ
strict_number rule.Loose = 0
strict_number rule.Strict = 1

-- 1 where there is such an entry; in the answer its kind, offset, size and count, and 1 where it is strict.
abbrev pub field_told : Option Field → List ℕ → Told
field_told None a = told 0 (0 ∷ 0 ∷ 0 ∷ 0 ∷ 0 ∷ []) a
field_told (Some f) a = told 1 (kind_number f.kind ∷ f.offset ∷ f.size ∷ f.count ∷ strict_number (rule_of f) ∷ []) a

-- Where an element, from 1, starts in the data.
abbrev pub start_in : Option Field → ℕ → ℕ
start_in None k = 0
start_in (Some f) k = f.offset + (k - 1) * f.size

-- 0 where all are valid, 1 to 6, or 22; in the answer that, the field, the element from 1 and where it starts.
abbrev pub invalid_told : List ℕ → Validity → List ℕ → Told
invalid_told u (validity.Refused r) a = told (refusal_number r) (refusal_number r ∷ 0 ∷ 0 ∷ 0 ∷ []) a
invalid_told u validity.WrongSize a = told 6 (6 ∷ 0 ∷ 0 ∷ 0 ∷ []) a
invalid_told u validity.AllValid a = told 0 (0 ∷ 0 ∷ 0 ∷ 0 ∷ []) a
invalid_told u (validity.Invalid f k) a = told 22 (22 ∷ f ∷ k ∷ start_in (entry_of u f) k ∷ []) a

-- ---- run

pub record Handed : Type 0 where
  pub stop : ℕ
  pub bytes : List ℕ
  pub state : List ℕ
  pub answer : List ℕ

-- 1 to 7
unfoldable pub refusedb : ℕ → Bool
refusedb n = leb 1 n and leb n 7

-- The state's numbers stay as they were after 1 to 7, and are those of the next state after any other stop; in the answer are the stop, the
-- place and the count.
abbrev pub handed : Ran → List ℕ → List ℕ → Handed
handed ran w a = record {
  stop = stop_number ran.outcome.stop;
  bytes = ran.bytes;
  state = cond (refusedb (stop_number ran.outcome.stop)) w (laid (numbers_of ran.outcome.state) w);
  answer = laid (stop_number ran.outcome.stop ∷ ran.outcome.place ∷ ran.outcome.count ∷ []) a;
}

unfoldable pub handed_of : List ℕ → List ℕ → List ℕ → ℕ → List ℕ → Handed
handed_of u d w m a = handed (run_of u d (state_of w) m) w a

abbrev pub untouched : ℕ → ℕ → List ℕ → List ℕ → List ℕ → Handed
untouched n place d w a = record { stop = n; bytes = d; state = w; answer = laid (n ∷ place ∷ 0 ∷ []) a }

-- What a host reads of a call: the run or the refusal ran, by the rules of the run.
pub record HostReads (u d w : List ℕ) (m : ℕ) (a : List ℕ) (h : Handed) : Type 0 where
  pub ran : Ran
  pub does : Does u d (state_of w) m ran
  pub stop : h.stop ≡ stop_number ran.outcome.stop
  pub bytes : h.bytes ≡ ran.bytes
  -- After 1 to 7 the state's numbers are as they were, and after any other stop they are those of the next state.
  pub kept : 1 ≤ h.stop → h.stop ≤ 7 → h.state ≡ w
  pub next : RunNumber h.stop → h.state ≡ numbers_of ran.outcome.state
  -- The stop, the place and the count, as many as fit.
  pub answer : h.answer ≡ laid (stop_number ran.outcome.stop ∷ ran.outcome.place ∷ ran.outcome.count ∷ []) a
