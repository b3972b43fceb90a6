-- Whether the decimals of a data buffer are valid: demand 3 asks for "a data buffer of its size whose decimal elements are all valid".
--   elementb c d f k         the element k of the field f, from 0, is valid, as a test
--   elements_from c d f m k   the first of the m elements from k on that is not
--   fields_from c d m f       the same of the m fields from f on; allb v, that an answer is that there is none
--   validity_of u d           what is answered of the data d for the unit u
--   InvalidAt c d f k        the element k of the field f is a decimal's and not valid; FirstInvalid, and all before it are valid
-- Assumes nothing.
use Rattle.rules_unit.specs.declared.Refusal.{Refusal}
use Rattle.rules_unit.specs.declared.Parts.{Parts}
use Rattle.std.specs.Prelude.{ℕ, zero, suc, ◌+◌, ◌<◌, ◌≡◌, Bool, true, false, cond, List, eqb, length, take, drop, Result, Err, Ok}
use Rattle.rules.specs.Values.{validb, Valid}
use Rattle.rules_unit.specs.Codes.{Code, decimalb, size_of, count_of, element_at}
use Rattle.rules_unit.specs.Decode.{code_of}
use Rattle.rules_unit.specs.Checks.{check_of}
use Rattle.rules_fence.specs.declared.Validity.{Validity}
use Rattle.rules_fence.specs.declared.Validity.TheVariants as validity

-- ---- one element

abbrev pub bytes_of : Code → List ℕ → ℕ → ℕ → List ℕ
bytes_of c d f k = take (size_of c f) (drop (element_at c f k) d)

unfoldable pub elementb : Code → List ℕ → ℕ → ℕ → Bool
elementb c d f k = validb c.dialect.limit c.dialect.sign (bytes_of c d f k)

-- ---- all of them, in the order of the entries; the element is told from 1, as a subscript names it

unfoldable pub elements_from : Code → List ℕ → ℕ → ℕ → ℕ → Validity
elements_from c d f zero k = validity.AllValid
elements_from c d f (suc m) k =
    let rest = elements_from c d f m (k + 1) in cond (elementb c d f k) rest (validity.Invalid f (k + 1))

-- Of alpha and record entries nothing is asked.
unfoldable pub field_validity : Code → List ℕ → ℕ → Validity
field_validity c d f = cond (decimalb c f) (elements_from c d f (count_of c f) 0) validity.AllValid

-- The answer is that all are valid.
abbrev pub allb : Validity → Bool
allb (validity.Refused r) = false
allb validity.WrongSize = false
allb validity.AllValid = true
allb (validity.Invalid f k) = false

unfoldable pub fields_from : Code → List ℕ → ℕ → ℕ → Validity
fields_from c d zero f = validity.AllValid
fields_from c d (suc m) f = let rest = fields_from c d m (f + 1) in cond (allb (field_validity c d f)) rest (field_validity c d f)

-- ---- the whole: what the check of the unit refuses, then 6, then the decimals

abbrev pub validity_by : List ℕ → List ℕ → Result Parts Refusal → Validity
validity_by u d (Ok p) = cond (eqb (length d) p.d) (fields_from (code_of u p) d p.f 0) validity.WrongSize
validity_by u d (Err r) = validity.Refused r

unfoldable pub validity_of : List ℕ → List ℕ → Validity
validity_of u d = validity_by u d (check_of u)

-- ---- the same as a statement

pub record InvalidAt (c : Code) (d : List ℕ) (f k : ℕ) : Type 0 where
  pub low : f < c.fields
  pub decimal : decimalb c f ≡ true
  pub in_field : k < count_of c f
  pub invalid : Valid c.dialect.limit c.dialect.sign (bytes_of c d f k) → ⊥

-- The elements of a field rise, and so do the fields.
pub record FirstInvalid (c : Code) (d : List ℕ) (f k : ℕ) : Type 0 where
  pub here : InvalidAt c d f k
  pub earlier : (j : ℕ) → j < k → InvalidAt c d f j → ⊥
  pub before : (g j : ℕ) → g < f → InvalidAt c d g j → ⊥
