-- A table of the decimal fields: for each byte of the data where the next one starts, so that an alpha destination is held against all of
-- them by one comparison (document 01, "Fence rules").
--   behind_of f floor        the end of the last decimal field up to f; the floor is the end of the last one before it
--   ahead_from c k g floor   for each byte from the floor on, of the k fields from g on, where the first decimal field starts that ends behind it
--   ahead_of c               the same of all fields, for each byte from 0 to 16,383
--   Ahead c ahead           what such a table tells
-- Where no decimal field ends behind a byte, the table has 65,535. Assumes nothing.
use Rattle.std.specs.Prelude.{◌≡◌, cond, List, ◌++◌, ℕ, zero, suc, ◌+◌, ◌-◌, ◌*◌, ◌≤◌, leb, get_or, replicate}
use Rattle.rules_unit.specs.declared.Field.{Field}
use Rattle.rules_unit.specs.Codes.{Code, is_decimal, offset_of}
use Rattle.rules_fence.specs.Breaches.{apart_from}

abbrev pub behind_of : Field → ℕ → ℕ
behind_of f floor = cond (is_decimal f.kind) (f.offset + f.count * f.size) floor

-- A decimal field is ahead of the bytes from the floor up to its end; any other field is ahead of none.
unfoldable pub ahead_from : Code → ℕ → ℕ → ℕ → List ℕ
ahead_from c zero g floor = replicate (16384 - floor) 65535
ahead_from c (suc k) g floor =
    let next = behind_of (c.field g) floor in
    let rest = ahead_from c k (g + 1) next in
    replicate (next - floor) (offset_of c g) ++ rest

unfoldable pub ahead_of : Code → List ℕ
ahead_of c = ahead_from c c.fields 0 0

-- "An alpha destination shares no byte with a decimal field": of the n bytes from a on this is so exactly where they end before the field
-- starts that the table has for a.
pub record Ahead (c : Code) (ahead : List ℕ) : Type 0 where
  pub so : (a n : ℕ) → a + n ≤ c.size → leb (a + n) (get_or ahead a 65535) ≡ apart_from c a n c.fields 0
