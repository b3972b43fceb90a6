-- Every reference of a unit that breaks a fence rule (document 01, "Fence rules"), each with its own rule, in the order in which a run works them out.
--   item_broken c i dest s at x xs   the item x at the offset at, before the items xs: none, or the one that it breaks a rule as
--   broken_from c i dest s at is     the items is, of which the first stands at the offset at, where the bounds s stand before them
--   use_broken, broken_of c i         a use, and the statement i: its uses in order, references left to right
--   breaches_of u                    all of a unit; broken_in u i those of the statement i
--   row_of b                         what a host is told of one: eight numbers
--   listed bs skip rows             how many there are, and whole rows of them from the one numbered skip on, as many as fit at the front of rows
-- Assumes nothing.
use Rattle.rules_unit.specs.declared.Refusal.{Refusal}
use Rattle.rules_unit.specs.declared.Parts.{Parts}
use Rattle.std.specs.Prelude.{ℕ, zero, suc, ◌+◌, Bool, true, false, cond, List, [], ◌∷◌, ◌++◌, ltb, leb, length, drop, Result, Err, Ok, None, Option, Some}
use Rattle.rules_unit.specs.declared.Form.{Form}
use Rattle.rules_unit.specs.declared.Form.TheVariants as form
use Rattle.rules_unit.specs.declared.Item.{Item}
use Rattle.rules_unit.specs.declared.Item.TheVariants as item
use Rattle.rules_unit.specs.declared.Use.{Use}
use Rattle.rules_unit.specs.Codes.{Code}
use Rattle.rules_unit.specs.Decode.{width_of, code_of}
use Rattle.rules_unit.specs.Table.{uses_of}
use Rattle.rules_unit.specs.Checks.{check_of}
use Rattle.rules_run.specs.declared.Span.{Span}
use Rattle.rules_fence.specs.declared.Broken.{Broken}
use Rattle.rules_fence.specs.declared.Seen.{Seen}
use Rattle.rules_fence.specs.declared.Seen.TheVariants as seen
use Rattle.rules_fence.specs.Bounds.{seen_after, fixed_span}
use Rattle.rules_fence.specs.Fence.{destb}
use Rattle.rules_fence.specs.Breaches.{breach_number, keepsb, reference_breach}

-- ---- references, expressions, statements

-- A reference of the statement i, which names a destination where `dest` says so.
abbrev pub broken_by : Code → ℕ → Bool → Seen → ℕ → Form → ℕ → Broken
broken_by c i dest s at h f =
    record { statement = i; rule = reference_breach c dest h f s; written = dest; field = f; form = h; span = fixed_span c h f s; at = at }

abbrev pub reference_broken : Code → ℕ → Bool → Seen → ℕ → Form → ℕ → List Broken
reference_broken c i dest s at h f = cond (keepsb (reference_breach c dest h f s)) [] (broken_by c i dest s at h f ∷ [])

abbrev pub item_broken : Code → ℕ → Bool → Seen → ℕ → Item → List Item → List Broken
item_broken c i dest s at (item.Number place len) xs = []
item_broken c i dest s at (item.Reference h f) xs = reference_broken c i (destb dest xs) s at h f
item_broken c i dest s at (item.Text place len) xs = []
item_broken c i dest s at (item.Operator o) xs = []
item_broken c i dest s at item.End xs = []
item_broken c i dest s at item.Bad xs = []

unfoldable pub broken_from : Code → ℕ → Bool → Seen → ℕ → List Item → List Broken
broken_from c i dest s at [] = []
broken_from c i dest s at (x ∷ xs) =
    let rest = broken_from c i dest (seen_after c s x) (at + width_of x) xs in item_broken c i dest s at x xs ++ rest

abbrev pub use_broken : Code → ℕ → Option Use → List Broken
use_broken c i None = []
use_broken c i (Some u) = broken_from c i u.written seen.Nothing u.at (c.items u.at)

unfoldable pub uses_broken : Code → ℕ → List (Option Use) → List Broken
uses_broken c i [] = []
uses_broken c i (x ∷ xs) = let rest = uses_broken c i xs in use_broken c i x ++ rest

unfoldable pub broken_of : Code → ℕ → List Broken
broken_of c i = uses_broken c i (uses_of c (c.statement i))

-- The k statements from i on.
unfoldable pub statements_broken : Code → ℕ → ℕ → List Broken
statements_broken c zero i = []
statements_broken c (suc k) i = let rest = statements_broken c k (i + 1) in broken_of c i ++ rest

-- ---- the unit: of one that is refused there are none

abbrev pub breaches_by : List ℕ → Result Parts Refusal → List Broken
breaches_by u (Ok p) = statements_broken (code_of u p) p.n 0
breaches_by u (Err r) = []

unfoldable pub breaches_of : List ℕ → List Broken
breaches_of u = breaches_by u (check_of u)

abbrev pub broken_in_by : List ℕ → ℕ → Result Parts Refusal → List Broken
broken_in_by u i (Ok p) = cond (ltb i p.n) (broken_of (code_of u p) i) []
broken_in_by u i (Err r) = []

unfoldable pub broken_in : List ℕ → ℕ → List Broken
broken_in u i = broken_in_by u i (check_of u)

-- ---- what a host is told

-- "02 field; 03 field(subscript); 04 field(start,end); 05 field(pos:length)"
abbrev pub form_number : Form → ℕ
form_number form.First = 2
form_number form.Subscript = 3
form_number form.StartEnd = 4
form_number form.PosLength = 5

abbrev pub start_of : Option Span → ℕ
start_of (Some s) = s.start
start_of None = 0

abbrev pub length_of : Option Span → ℕ
length_of (Some s) = s.len
length_of None = 0

abbrev pub truth_of : Bool → ℕ
truth_of true = 1
truth_of false = 0

-- The statement, the rule, whether it is written, the field, the form, the start and the length of the span, the item's offset.
abbrev pub row_of : Broken → List ℕ
row_of b =
    b.statement ∷ breach_number b.rule ∷ truth_of b.written ∷ b.field ∷ form_number b.form ∷ start_of b.span ∷ length_of b.span ∷ b.at ∷ []

-- Whole rows, as many as fit at the front; the rest stays as it was.
unfoldable pub rows_laid : List Broken → List ℕ → List ℕ
rows_laid [] l = l
rows_laid (b ∷ bs) l = let rest = rows_laid bs (drop 8 l) in cond (leb 8 (length l)) (row_of b ++ rest) l

pub record Listed : Type 0 where
  pub count : ℕ
  pub rows : List ℕ

abbrev pub listed : List Broken → ℕ → List ℕ → Listed
listed bs skip rows = record { count = length bs; rows = rows_laid (drop skip bs) rows }
