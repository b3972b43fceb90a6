-- What demand 3 speaks of: destinations, valid data, alpha text moved to a decimal place (document 01, "Fence rules").
--   PlaceNames c is span  the place is names the span, by the bounds written in it
--   Writes c x span       the use x is written, and its place names the span
--   Covers span b         the byte b lies in the span
--   Destination c b       the byte b lies in a destination of the unit; InPlaceA c b says the same by the codes
--   AllValid c d          every element of every decimal field is valid
--   BadText c d s         over the data d the statement s moves alpha text to a decimal place, and that text is no number
-- The spans are those that the bounds written in the unit give. Of a unit without a yes a destination may depend on the run, and nothing is said here.
-- Assumes nothing.
use Rattle.std.specs.Prelude.{ℕ, ◌+◌, ◌<◌, ◌≤◌, ◌≡◌, true, List, [], ◌∷◌, ◌++◌, length, take, drop, get_or, Err, None, Option, Some}
use Rattle.rules.specs.declared.Fault.TheVariants as fault
use Rattle.rules.specs.Values.{Valid}
use Rattle.rules.specs.Moves.{alpha_of}
use Rattle.rules_unit.specs.declared.Form.{Form}
use Rattle.rules_unit.specs.declared.Item.{Item}
use Rattle.rules_unit.specs.declared.Item.TheVariants as item
use Rattle.rules_unit.specs.declared.Statement.{Statement}
use Rattle.rules_unit.specs.declared.Act.TheVariants as act
use Rattle.rules_unit.specs.declared.Verb.TheVariants as verb
use Rattle.rules_unit.specs.declared.Sort.TheVariants as sort
use Rattle.rules_unit.specs.declared.Use.{Use}
use Rattle.rules_unit.specs.Codes.{Code, decimalb, size_of, count_of, element_at}
use Rattle.rules_unit.specs.Expressions.{alpha_sort, sort_at}
use Rattle.rules_unit.specs.Table.{verb_of, uses_of, WritesA}
use Rattle.rules_run.specs.declared.Span.{Span}
use Rattle.rules_run.specs.Evaluation.{worked_of, text_of}
use Rattle.rules_fence.specs.Fence.{Names}

-- ---- destinations

-- "A *place* ends with a reference (02 to 05)": the span that it names.
pub record PlaceNames (c : Code) (is : List Item) (span : Option Span) : Type 0 where
  pub before : List Item
  pub h : Form
  pub f : ℕ
  pub items : is ≡ before ++ (item.Reference h f ∷ [])
  pub names : Names c h f before span

-- A use that is written names it; one that is read names no destination.
abbrev pub Writes : Code → Option Use → Option Span → Type 0
Writes c None span = ⊥
Writes c (Some u) span = (u.written ≡ true) × PlaceNames c (c.items u.at) span

abbrev pub Covers : Option Span → ℕ → Type 0
Covers (Some s) b = (s.start ≤ b) × (b < s.start + s.len)
Covers None b = ⊥

-- "A destination is the span named by place a of codes 1 to 6", and of 13 and 14: by the table, a use that is written. The byte b lies in that of the statement whose
-- number is given, reachable or not.
pub record Destination (c : Code) (b : ℕ) : Type 0 where
  pub statement_number : ℕ
  pub low : statement_number < c.statements
  pub use_number : ℕ
  pub used : use_number < length (uses_of c (c.statement statement_number))
  pub span : Option Span
  pub writes : Writes c (get_or (uses_of c (c.statement statement_number)) use_number None) span
  pub covers : Covers span b

-- The same by the codes, as document 01 has it.
pub record InPlaceA (c : Code) (b : ℕ) : Type 0 where
  pub statement_number : ℕ
  pub low : statement_number < c.statements
  pub coded : WritesA (c.statement statement_number).code
  pub span : Option Span
  pub names : PlaceNames c (c.items (c.statement statement_number).a) span
  pub covers : Covers span b

-- ---- valid data

-- "whose decimal elements are all valid"
pub record AllValid (c : Code) (d : List ℕ) : Type 0 where
  pub valid : (f k : ℕ) → f < c.fields → decimalb c f ≡ true → k < count_of c f
      → Valid c.dialect.limit c.dialect.sign (take (size_of c f) (drop (element_at c f k) d))

-- ---- alpha text to a decimal place

-- "a bad digit can come only from moving alpha text to a decimal place": a SET of a decimal place from an alpha source, whose text is no number.
abbrev pub BadText : Code → List ℕ → Statement → Type 0
BadText c d s =
    (verb_of s.code ≡ verb.At act.Set)
    × (sort_at c s.a ≡ sort.Decimal)
    × (alpha_sort (sort_at c s.b) ≡ true)
    × (alpha_of c.dialect.top (text_of c d (worked_of c d (c.items s.b))) ≡ Err fault.BadDigit)
