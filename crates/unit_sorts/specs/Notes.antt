-- Notes of sorts: what has been found of an expression, so that it is found once.
--   is_wrong k                whether a sort is Wrong
--   note_of k                 the note of the sort k; sort_by m is the sort of which m is the note
--   noted_at notes e n        the sort noted for the items from the offset e on, where n values are held before them; Wrong where none is noted
--   Noted c s notes          every sort noted of the expressions s is so; NotedIn c notes says it of those in c
-- A note is one byte for each offset: the values held before it, times 8, and the note of the sort. Wrong is not noted.
-- Assumes nothing.
use Rattle.std.specs.Prelude.{◌≡◌, Bool, true, false, cond, List, ℕ, ◌/◌, ◌%◌, eqb, get_or}
use Rattle.rules_unit.specs.declared.Sort.{Sort}
use Rattle.rules_unit.specs.declared.Sort.TheVariants as sort
use Rattle.rules_unit.specs.Codes.{Code}
use Rattle.rules_unit.specs.Decode.{items_at}
use Rattle.rules_unit.specs.Expressions.{sort_from}
use Rattle.unit_decode.specs.declared.filled.Coded.{Coded}
use Rattle.unit_decode.specs.Units.{code_in, expressions_in}

abbrev pub is_wrong : Sort → Bool
is_wrong sort.Wrong = true
is_wrong sort.Number = false
is_wrong sort.Text = false
is_wrong sort.Decimal = false
is_wrong sort.Alpha = false

abbrev pub note_of : Sort → ℕ
note_of sort.Wrong = 0
note_of sort.Number = 1
note_of sort.Text = 2
note_of sort.Decimal = 3
note_of sort.Alpha = 4

unfoldable pub sort_by : ℕ → Sort
sort_by m =
    cond (eqb m 1) sort.Number
    (cond (eqb m 2) sort.Text
    (cond (eqb m 3) sort.Decimal
    (cond (eqb m 4) sort.Alpha sort.Wrong)))

unfoldable pub noted_at : List ℕ → ℕ → ℕ → Sort
noted_at notes e n = cond (eqb (get_or notes e 0 / 8) n) (sort_by (get_or notes e 0 % 8)) sort.Wrong

pub record Noted (c : Code) (s notes : List ℕ) : Type 0 where
  pub so : (e n : ℕ) → is_wrong (noted_at notes e n) ≡ false → noted_at notes e n ≡ sort_from c (items_at s e) n sort.Number

abbrev pub NotedIn : Coded → List ℕ → Type 0
NotedIn c notes = Noted (code_in c) (expressions_in c) notes
