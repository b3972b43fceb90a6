-- What the list of breaking references says (document 01, "Fence rules"), as statements. Listed has the list itself.
--   widths_of is               how many bytes the items is take
--   Fixes c form f before span    the span that the bounds of a reference name, none where it has no bounds
--   StandsIn c dest start b   the reference b stands in the expression at the offset start, which is written where dest says so, and breaks the rule told
--   StandsAt c x b            .. in the expression of a use
--   Stands c b                .. of the statement told
--   SpanTold c dest f span r  what the span told says where the rule r is broken: none for 1 and 2, else the bytes that break it
--   In b bs                   b is one of the list bs
--   first_rule bs              the rule of the first of a list, None where it is empty
--   Rising i bs               their statements rise, from i on
-- Assumes nothing.
use Rattle.rules_run.specs.Spans.{span_at}
use Rattle.std.specs.Prelude.{ℕ, ◌+◌, ◌<◌, ◌≤◌, ◌≡◌, Bool, List, [], ◌∷◌, ◌++◌, ◌⊎◌, ℤ, length, get_or, None, Option, Some}
use Rattle.rules_unit.specs.declared.Form.{Form}
use Rattle.rules_unit.specs.declared.Item.{Item}
use Rattle.rules_unit.specs.declared.Item.TheVariants as item
use Rattle.rules_unit.specs.declared.Use.{Use}
use Rattle.rules_unit.specs.Codes.{Code}
use Rattle.rules_unit.specs.Decode.{width_of}
use Rattle.rules_unit.specs.Table.{uses_of}
use Rattle.rules_run.specs.declared.Span.{Span}
use Rattle.rules_fence.specs.declared.Breach.{Breach}
use Rattle.rules_fence.specs.declared.Breach.TheVariants as breach
use Rattle.rules_fence.specs.declared.Broken.{Broken}
use Rattle.rules_fence.specs.Fence.{Bounds, Names, destb}
use Rattle.rules_fence.specs.Reasons.{SpanBreaks, RefBreaks}

-- ---- one reference

unfoldable pub widths_of : List Item → ℕ
widths_of [] = 0
widths_of (i ∷ is) = let rest = widths_of is in width_of i + rest

-- Where 21 is given for its bounds, they name no span.
abbrev pub Fixes : Code → Form → ℕ → List Item → Option Span → Type 0
Fixes c h f before span = Names c h f before span ⊎ (((x y : ℤ) → Bounds c h before x y → ⊥) × (span ≡ None))

-- "Of a place only the last reference names a destination": it is written. The rule is the first that the reference breaks by itself, whatever stands around it.
pub record StandsIn (c : Code) (dest : Bool) (start : ℕ) (b : Broken) : Type 0 where
  pub before : List Item
  pub after : List Item
  pub items : c.items start ≡ before ++ (item.Reference b.form b.field ∷ after)
  pub offset : b.at ≡ start + widths_of before
  pub written : b.written ≡ destb dest after
  pub breaks : RefBreaks c b.written b.form b.field before b.rule
  pub fixes : Fixes c b.form b.field before b.span

abbrev pub StandsAt : Code → Option Use → Broken → Type 0
StandsAt c None b = ⊥
StandsAt c (Some u) b = StandsIn c u.written u.at b

pub record Stands (c : Code) (b : Broken) : Type 0 where
  pub low : b.statement < c.statements
  pub use_number : ℕ
  pub used : use_number < length (uses_of c (c.statement b.statement))
  pub here : StandsAt c (get_or (uses_of c (c.statement b.statement)) use_number None) b

-- ---- the bytes told

pub record SpanAt (c : Code) (dest : Bool) (f : ℕ) (span : Option Span) (r : Breach) : Type 0 where
  pub a : ℕ
  pub n : ℕ
  pub is_span : span ≡ span_at a n
  pub breaks : SpanBreaks c dest f a n r

abbrev pub SpanTold : Code → Bool → ℕ → Option Span → Breach → Type 0
SpanTold c dest f span breach.None = ⊥
SpanTold c dest f span breach.BoundNotLiteral = span ≡ None
SpanTold c dest f span breach.BoundsWrong = span ≡ None
SpanTold c dest f span breach.LeavesField = SpanAt c dest f span breach.LeavesField
SpanTold c dest f span breach.OverElements = SpanAt c dest f span breach.OverElements
SpanTold c dest f span breach.StopsMidElement = SpanAt c dest f span breach.StopsMidElement
SpanTold c dest f span breach.OnDecimal = SpanAt c dest f span breach.OnDecimal

-- ---- the list

abbrev pub In : Broken → List Broken → Type 0
In b [] = ⊥
In b (x ∷ xs) = (b ≡ x) ⊎ In b xs

abbrev pub first_rule : List Broken → Breach
first_rule [] = breach.None
first_rule (b ∷ bs) = b.rule

abbrev pub Rising : ℕ → List Broken → Type 0
Rising i [] = Unit {0}
Rising i (b ∷ bs) = (i ≤ b.statement) × Rising b.statement bs
