-- What each answer of the fence check says (document 01, "Fence rules"), and each answer about a data buffer.
--   FenceSays u v         what the answer v says of the unit u
--   ValiditySays u d v    what the answer v says of the data d for the unit u
-- Assumes nothing.
use Rattle.std.specs.Prelude.{ℕ, ◌+◌, ◌≡◌, List, length, Err}
use Rattle.rules_unit.specs.Decode.{parts_of, code_of}
use Rattle.rules_unit.specs.Answers.{Says}
use Rattle.rules_unit.specs.Sound.{SoundUnit}
use Rattle.rules_fence.specs.declared.Verdict.{Verdict}
use Rattle.rules_fence.specs.declared.Verdict.TheVariants as verdict
use Rattle.rules_fence.specs.declared.Validity.{Validity}
use Rattle.rules_fence.specs.declared.Validity.TheVariants as validity
use Rattle.rules_fence.specs.Fence.{Fenced, Breaks}
use Rattle.rules_fence.specs.Destinations.{AllValid}
use Rattle.rules_fence.specs.Validity.{FirstInvalid}

-- "The check answers a refusal (1 to 5) with its place, yes, or no with the first statement that breaks a rule."
abbrev pub FenceSays : List ℕ → Verdict → Type 0
FenceSays u (verdict.Refused r) = Says u (Err r)
FenceSays u verdict.Yes = SoundUnit u (parts_of u) × Fenced (code_of u (parts_of u))
FenceSays u (verdict.No i) = SoundUnit u (parts_of u) × Breaks (code_of u (parts_of u)) i

-- "a data buffer of its size whose decimal elements are all valid": refused as the check refuses, then 6, then all valid or the first element that is not. It is
-- told from 1, as a subscript names it.
abbrev pub ValiditySays : List ℕ → List ℕ → Validity → Type 0
ValiditySays u d (validity.Refused r) = Says u (Err r)
ValiditySays u d validity.WrongSize = SoundUnit u (parts_of u) × (length d ≡ (parts_of u).d → ⊥)
ValiditySays u d validity.AllValid = SoundUnit u (parts_of u) × (length d ≡ (parts_of u).d) × AllValid (code_of u (parts_of u)) d
ValiditySays u d (validity.Invalid f e) =
    SoundUnit u (parts_of u) × (length d ≡ (parts_of u).d) × (k : ℕ) × (e ≡ k + 1) × FirstInvalid (code_of u (parts_of u)) d f k
