-- The words of a stop and of a fence rule: one law for every arm that puts a text, and one for a number that has none.
-- Assumes nothing.
use Prim.Native.Nat.{ℕ}
use mathlib.Core.Path.{◌≡◌, sym, ap, ◌∙◌}
use mathlib.Core.List.{List}
use Prim.Native.String.{String}
use borrow.Author.Tests.{ne_eqb}
use Rattle.rules.proofs.Walk.{cond_no}
use Rattle.rules_host.specs.Laid.{laid}
use Rattle.rules_host.specs.Words.{Said, said, codes, stop_text, words_of, said_of, breach_text, breach_words_of, breach_said}

-- The number is k, whose words are ws; and they were put.
pub said_by : (n k : ℕ) (ws t : List ℕ) (z : Said) → n ≡ k → z ≡ said ws t → words_of k ≡ ws → z ≡ said_of n t
unfolding said_of
said_by n k ws t z e f g = f ∙ ap (λ (x : List ℕ). said x t) (sym g) ∙ ap (λ (x : ℕ). said (words_of x) t) (sym e)

-- The number is no stop, and nothing was put.
pub said_none : (n : ℕ) (t : List ℕ) → "" ≡ stop_text n → ◌≡◌ {A = Said} (record { size = 0; text = t }) (said_of n t)
unfolding said_of words_of codes laid
said_none n t e = ap (λ (x : String). said (codes x) t) e

pub ruleset unsaid = (said_none, cond_no, ne_eqb)

-- The same of a fence rule.
pub breach_by_lem : (n k : ℕ) (ws t : List ℕ) (z : Said) → n ≡ k → z ≡ said ws t → breach_words_of k ≡ ws → z ≡ breach_said n t
unfolding breach_said
breach_by_lem n k ws t z e f g = f ∙ ap (λ (x : List ℕ). said x t) (sym g) ∙ ap (λ (x : ℕ). said (breach_words_of x) t) (sym e)

pub breach_none : (n : ℕ) (t : List ℕ) → "" ≡ breach_text n → ◌≡◌ {A = Said} (record { size = 0; text = t }) (breach_said n t)
unfolding breach_said breach_words_of codes laid
breach_none n t e = ap (λ (x : String). said (codes x) t) e

pub ruleset unbroken = (breach_none, cond_no, ne_eqb)
