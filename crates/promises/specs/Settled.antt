-- What the contracts settle (document 01, "What the contracts settle"): of each public function any two permitted outcomes are equal.
--
-- The claims are about the functions' own contracts: `Post` is what a function's `ensures` says of its arguments, its result and what it leaves.
--
--   check_settled      the answer of `dibol::check`
--   fence_settled      the verdict of `dibol::fence`
--   breach_settled     the rule that `dibol::breach` answers
--   literal_settled    the bytes that `dibol::literal` answers
--   start_settled      the state that `dibol::start` answers
--   run_settled        the outcome of `dibol::run` (stop, place, count and next state), and each byte of the data buffer
--   number_settled     the number that `dibol::stop_number` answers
--   refusal_number_settled, refusal_place_settled    the answers of `dibol::refusal_number` and `dibol::refusal_place`
--   breach_number_settled, stretch_settled    the answers of `dibol::breach_number` and `dibol::stretch`
--   words_settled, breach_words_settled    the lengths that `dibol::words` and `dibol::breach_words` answer, and each byte of the text
--   field_settled      the entry that `dibol::field` answers
--   invalid_settled    what `dibol::invalid` answers of a data buffer
--   breaches_settled, statement_breaches_settled    the count that `dibol::breaches` and `dibol::statement_breaches` answer, and each number of the rows
--   c_run_settled      the stop that `dibol_run` answers, each byte of the data, and each number of the state and of the answer
--   c_check_settled, c_fence_settled, c_literal_settled    what `dibol_check`, `dibol_fence` and `dibol_literal` answer, and each number of the answer
--   c_words_settled, c_breach_words_settled    as words_settled, of `dibol_words` and `dibol_breach_words`
--   c_parts_settled, c_field_settled, c_invalid_settled    what `dibol_parts`, `dibol_field` and `dibol_invalid` answer, and each number of the answer
--   c_breaches_settled    as breaches_settled, of `dibol_breaches`
--   c_breach_settled, c_version_settled, c_state_len_settled    the numbers that `dibol_breach`, `dibol_version` and `dibol_state_len` answer
-- Assumes nothing.
use Rattle.rules_unit.specs.declared.Field.{Field}
use Rattle.rules_unit.specs.declared.Refusal.{Refusal}
use Rattle.rules_unit.specs.declared.Parts.{Parts}
use Rattle.std.specs.Prelude.{ℕ, ◌≡◌, Result, Option}
use Rattle.std.proofs.Common.{sym, ap, ◌∙◌}
use contract.Lifetimes
use Rattle.rules_unit.specs.declared.Stretch.{Stretch}
use Rattle.rules_run.specs.declared.State.{State}
use Rattle.rules_run.specs.declared.Outcome.{Outcome}
use Rattle.rules_run.specs.Runs.{Ran}
use Rattle.rules_fence.specs.declared.Breach.{Breach}
use Rattle.rules_fence.specs.declared.Validity.{Validity}
use Rattle.rules_fence.specs.declared.Verdict.{Verdict}
use Rattle.rules_fence.specs.Listed.{Listed}
use Rattle.rules_host.specs.Words.{Said}
use Rattle.rules_host.specs.Calls.{Told, Handed}
use Rattle.dibol.proofs.check.Reads as check
use Rattle.dibol.proofs.fence.Reads as fence
use Rattle.dibol.proofs.breach.Reads as breach
use Rattle.dibol.proofs.literal.Reads as literal
use Rattle.dibol.proofs.start.Reads as start
use Rattle.dibol.proofs.run.Reads as run
use Rattle.dibol.proofs.stop_number.Reads as stop-number
use Rattle.dibol.proofs.refusal_number.Reads as refusal-number
use Rattle.dibol.proofs.refusal_place.Reads as refusal-place
use Rattle.dibol.proofs.breach_number.Reads as breach-number
use Rattle.dibol.proofs.stretch.Reads as stretch
use Rattle.dibol.proofs.words.Reads as words
use Rattle.dibol.proofs.breach_words.Reads as breach-words
use Rattle.dibol.proofs.field.Reads as field-entry
use Rattle.dibol.proofs.invalid.Reads as invalid
use Rattle.dibol.proofs.breaches.Reads as breaches
use Rattle.dibol.proofs.statement_breaches.Reads as statement-breaches
use Rattle.dibol_c.proofs.dibol_run.Reads as c-run
use Rattle.dibol_c.proofs.dibol_check.Reads as c-check
use Rattle.dibol_c.proofs.dibol_fence.Reads as c-fence
use Rattle.dibol_c.proofs.dibol_breach.Reads as c-breach
use Rattle.dibol_c.proofs.dibol_literal.Reads as c-literal
use Rattle.dibol_c.proofs.dibol_words.Reads as c-words
use Rattle.dibol_c.proofs.dibol_breach_words.Reads as c-breach-words
use Rattle.dibol_c.proofs.dibol_parts.Reads as c-parts
use Rattle.dibol_c.proofs.dibol_field.Reads as c-field
use Rattle.dibol_c.proofs.dibol_invalid.Reads as c-invalid
use Rattle.dibol_c.proofs.dibol_breaches.Reads as c-breaches
use Rattle.dibol_c.proofs.dibol_version.Reads as c-version
use Rattle.dibol_c.proofs.dibol_state_len.Reads as c-state-len

pub check_settled : (κs : Lifetimes.Lfts 1) (a : _) (r r' : Result Parts Refusal) (s s' : _) → check.Post κs a r s → check.Post κs a r' s' → r ≡ r'
check_settled κs a r r' s s' p q = p ∙ sym q

pub fence_settled : (κs : Lifetimes.Lfts 1) (a : _) (r r' : Verdict) (s s' : _) → fence.Post κs a r s → fence.Post κs a r' s' → r ≡ r'
fence_settled κs a r r' s s' p q = p ∙ sym q

pub breach_settled : (κs : Lifetimes.Lfts 1) (a : _) (r r' : Breach) (s s' : _) → breach.Post κs a r s → breach.Post κs a r' s' → r ≡ r'
breach_settled κs a r r' s s' p q = p ∙ sym q

pub literal_settled : (κs : Lifetimes.Lfts 1) (a : _) (r r' : _) (s s' : _) → literal.Post κs a r s → literal.Post κs a r' s' → r.now ≡ r'.now
literal_settled κs a r r' s s' p q = p ∙ sym q

pub start_settled : (κs : Lifetimes.Lfts 0) (a : _) (r r' : State) (s s' : _) → start.Post κs a r s → start.Post κs a r' s' → r ≡ r'
start_settled κs a r r' s s' p q = p ∙ sym q

pub run_settled : (κs : Lifetimes.Lfts 2) (a : _) (r r' : Outcome) (s s' : _) → run.Post κs a r s → run.Post κs a r' s' → (r ≡ r') × (s.1.0.now ≡ s'.1.0.now)
run_settled κs a r r' s s' p q = (ap (λ (x : Ran). x.outcome) (p ∙ sym q), ap (λ (x : Ran). x.bytes) (p ∙ sym q))

pub number_settled : (κs : Lifetimes.Lfts 0) (a : _) (r r' : ℕ) (s s' : _) → stop-number.Post κs a r s → stop-number.Post κs a r' s' → r ≡ r'
number_settled κs a r r' s s' p q = p ∙ sym q

pub refusal_number_settled : (κs : Lifetimes.Lfts 0) (a : _) (r r' : ℕ) (s s' : _) → refusal-number.Post κs a r s → refusal-number.Post κs a r' s' → r ≡ r'
refusal_number_settled κs a r r' s s' p q = p ∙ sym q

pub refusal_place_settled : (κs : Lifetimes.Lfts 0) (a : _) (r r' : ℕ) (s s' : _) → refusal-place.Post κs a r s → refusal-place.Post κs a r' s' → r ≡ r'
refusal_place_settled κs a r r' s s' p q = p ∙ sym q

pub breach_number_settled : (κs : Lifetimes.Lfts 0) (a : _) (r r' : ℕ) (s s' : _) → breach-number.Post κs a r s → breach-number.Post κs a r' s' → r ≡ r'
breach_number_settled κs a r r' s s' p q = p ∙ sym q

pub stretch_settled : (κs : Lifetimes.Lfts 1) (a : _) (r r' : Stretch) (s s' : _) → stretch.Post κs a r s → stretch.Post κs a r' s' → r ≡ r'
stretch_settled κs a r r' s s' p q = p ∙ sym q

pub words_settled : (κs : Lifetimes.Lfts 1) (a : _) (r r' : ℕ) (s s' : _) → words.Post κs a r s → words.Post κs a r' s' → (r ≡ r') × (s.1.0.now ≡ s'.1.0.now)
words_settled κs a r r' s s' p q = (ap (λ (x : Said). x.size) (p ∙ sym q), ap (λ (x : Said). x.text) (p ∙ sym q))

pub breach_words_settled : (κs : Lifetimes.Lfts 1) (a : _) (r r' : ℕ) (s s' : _) → breach-words.Post κs a r s → breach-words.Post κs a r' s'
    → (r ≡ r') × (s.1.0.now ≡ s'.1.0.now)
breach_words_settled κs a r r' s s' p q = (ap (λ (x : Said). x.size) (p ∙ sym q), ap (λ (x : Said). x.text) (p ∙ sym q))

pub field_settled : (κs : Lifetimes.Lfts 1) (a : _) (r r' : Option Field) (s s' : _) → field-entry.Post κs a r s → field-entry.Post κs a r' s' → r ≡ r'
field_settled κs a r r' s s' p q = p ∙ sym q

pub invalid_settled : (κs : Lifetimes.Lfts 2) (a : _) (r r' : Validity) (s s' : _) → invalid.Post κs a r s → invalid.Post κs a r' s' → r ≡ r'
invalid_settled κs a r r' s s' p q = p ∙ sym q

pub breaches_settled : (κs : Lifetimes.Lfts 2) (a : _) (r r' : ℕ) (s s' : _) → breaches.Post κs a r s → breaches.Post κs a r' s'
    → (r ≡ r') × (s.1.1.0.now ≡ s'.1.1.0.now)
breaches_settled κs a r r' s s' p q = (ap (λ (x : Listed). x.count) (p ∙ sym q), ap (λ (x : Listed). x.rows) (p ∙ sym q))

pub statement_breaches_settled : (κs : Lifetimes.Lfts 2) (a : _) (r r' : ℕ) (s s' : _) → statement-breaches.Post κs a r s → statement-breaches.Post κs a r' s'
    → (r ≡ r') × (s.1.1.1.0.now ≡ s'.1.1.1.0.now)
statement_breaches_settled κs a r r' s s' p q = (ap (λ (x : Listed). x.count) (p ∙ sym q), ap (λ (x : Listed). x.rows) (p ∙ sym q))

-- ---- the functions for C

pub c_run_settled : (κs : Lifetimes.Lfts 4) (a : _) (r r' : ℕ) (s s' : _) → c-run.Post κs a r s → c-run.Post κs a r' s'
    → (r ≡ r') × (s.1.0.now ≡ s'.1.0.now) × (s.1.1.0.now ≡ s'.1.1.0.now) × (s.1.1.1.1.0.now ≡ s'.1.1.1.1.0.now)
c_run_settled κs a r r' s s' p q = (
  ap (λ (x : Handed). x.stop) (p ∙ sym q),
  ap (λ (x : Handed). x.bytes) (p ∙ sym q),
  ap (λ (x : Handed). x.state) (p ∙ sym q),
  ap (λ (x : Handed). x.answer) (p ∙ sym q),
)

pub c_check_settled : (κs : Lifetimes.Lfts 2) (a : _) (r r' : ℕ) (s s' : _) → c-check.Post κs a r s → c-check.Post κs a r' s' → (r ≡ r') × (s.1.0.now ≡ s'.1.0.now)
c_check_settled κs a r r' s s' p q = (ap (λ (x : Told). x.value) (p ∙ sym q), ap (λ (x : Told). x.answer) (p ∙ sym q))

pub c_fence_settled : (κs : Lifetimes.Lfts 2) (a : _) (r r' : ℕ) (s s' : _) → c-fence.Post κs a r s → c-fence.Post κs a r' s' → (r ≡ r') × (s.1.0.now ≡ s'.1.0.now)
c_fence_settled κs a r r' s s' p q = (ap (λ (x : Told). x.value) (p ∙ sym q), ap (λ (x : Told). x.answer) (p ∙ sym q))

pub c_breach_settled : (κs : Lifetimes.Lfts 1) (a : _) (r r' : ℕ) (s s' : _) → c-breach.Post κs a r s → c-breach.Post κs a r' s' → r ≡ r'
c_breach_settled κs a r r' s s' p q = p ∙ sym q

pub c_literal_settled : (κs : Lifetimes.Lfts 2) (a : _) (r r' : ℕ) (s s' : _) → c-literal.Post κs a r s → c-literal.Post κs a r' s'
    → (r ≡ r') × (s.1.1.0.now ≡ s'.1.1.0.now)
c_literal_settled κs a r r' s s' p q = (ap (λ (x : Told). x.value) (p ∙ sym q), ap (λ (x : Told). x.answer) (p ∙ sym q))

pub c_words_settled : (κs : Lifetimes.Lfts 1) (a : _) (r r' : ℕ) (s s' : _) → c-words.Post κs a r s → c-words.Post κs a r' s' → (r ≡ r') × (s.1.0.now ≡ s'.1.0.now)
c_words_settled κs a r r' s s' p q = (ap (λ (x : Said). x.size) (p ∙ sym q), ap (λ (x : Said). x.text) (p ∙ sym q))

pub c_breach_words_settled : (κs : Lifetimes.Lfts 1) (a : _) (r r' : ℕ) (s s' : _) → c-breach-words.Post κs a r s → c-breach-words.Post κs a r' s'
    → (r ≡ r') × (s.1.0.now ≡ s'.1.0.now)
c_breach_words_settled κs a r r' s s' p q = (ap (λ (x : Said). x.size) (p ∙ sym q), ap (λ (x : Said). x.text) (p ∙ sym q))

pub c_parts_settled : (κs : Lifetimes.Lfts 2) (a : _) (r r' : ℕ) (s s' : _) → c-parts.Post κs a r s → c-parts.Post κs a r' s' → (r ≡ r') × (s.1.0.now ≡ s'.1.0.now)
c_parts_settled κs a r r' s s' p q = (ap (λ (x : Told). x.value) (p ∙ sym q), ap (λ (x : Told). x.answer) (p ∙ sym q))

pub c_field_settled : (κs : Lifetimes.Lfts 2) (a : _) (r r' : ℕ) (s s' : _) → c-field.Post κs a r s → c-field.Post κs a r' s'
    → (r ≡ r') × (s.1.1.0.now ≡ s'.1.1.0.now)
c_field_settled κs a r r' s s' p q = (ap (λ (x : Told). x.value) (p ∙ sym q), ap (λ (x : Told). x.answer) (p ∙ sym q))

pub c_invalid_settled : (κs : Lifetimes.Lfts 3) (a : _) (r r' : ℕ) (s s' : _) → c-invalid.Post κs a r s → c-invalid.Post κs a r' s'
    → (r ≡ r') × (s.1.1.0.now ≡ s'.1.1.0.now)
c_invalid_settled κs a r r' s s' p q = (ap (λ (x : Told). x.value) (p ∙ sym q), ap (λ (x : Told). x.answer) (p ∙ sym q))

pub c_breaches_settled : (κs : Lifetimes.Lfts 2) (a : _) (r r' : ℕ) (s s' : _) → c-breaches.Post κs a r s → c-breaches.Post κs a r' s'
    → (r ≡ r') × (s.1.1.0.now ≡ s'.1.1.0.now)
c_breaches_settled κs a r r' s s' p q = (ap (λ (x : Listed). x.count) (p ∙ sym q), ap (λ (x : Listed). x.rows) (p ∙ sym q))

pub c_version_settled : (κs : Lifetimes.Lfts 0) (a : _) (r r' : ℕ) (s s' : _) → c-version.Post κs a r s → c-version.Post κs a r' s' → r ≡ r'
c_version_settled κs a r r' s s' p q = p ∙ sym q

pub c_state_len_settled : (κs : Lifetimes.Lfts 0) (a : _) (r r' : ℕ) (s s' : _) → c-state-len.Post κs a r s → c-state-len.Post κs a r' s' → r ≡ r'
c_state_len_settled κs a r r' s s' p q = p ∙ sym q
