-- Why a statement breaks the fence rules (document 01, "Fence rules"): of each breach, what it says. Breaches has the same as tests.
--   SpanBreaks c dest f a n b           the n bytes from a on, named by a reference to the field f, break the rule b
--   RefBreaks c dest form f before b    a reference behind the items before breaks the rule b
--   ExprBreaks c dest is b              the first reference of the expression that breaks a rule breaks b
--   UseBreaks, StatementBreaks          the first expression of a statement that breaks one does so
-- Rules are named in 01's order: one is broken only where those before it are kept. Assumes nothing.
use Rattle.rules_run.specs.Spans.{span_at}
use Rattle.std.specs.Prelude.{ℕ, ◌+◌, ◌<◌, ◌≤◌, ◌≡◌, Bool, true, false, List, ◌∷◌, ◌++◌, ℤ, length, get_or, None, Option, Some}
use Rattle.rules_unit.specs.declared.Form.{Form}
use Rattle.rules_unit.specs.declared.Item.{Item}
use Rattle.rules_unit.specs.declared.Item.TheVariants as item
use Rattle.rules_unit.specs.declared.Statement.{Statement}
use Rattle.rules_unit.specs.declared.Use.{Use}
use Rattle.rules_unit.specs.Codes.{Code, decimalb, offset_of, size_of, element_at, end_of}
use Rattle.rules_unit.specs.Table.{uses_of}
use Rattle.rules_fence.specs.declared.Breach.{Breach}
use Rattle.rules_fence.specs.declared.Breach.TheVariants as breach
use Rattle.rules_fence.specs.Fence.{Bounds, Names, InElement, destb, ExprFenced, UseFenced}

-- ---- one span

-- "the span lies inside the field's size x count bytes"
abbrev pub Inside : Code → ℕ → ℕ → ℕ → Type 0
Inside c f a n = (offset_of c f ≤ a) × (a + n ≤ end_of c f)

-- A byte of the n from a on, and the decimal field that has it too.
pub record Shares (c : Code) (a n : ℕ) : Type 0 where
  pub field : ℕ
  pub byte : ℕ
  pub low : field < c.fields
  pub decimal : decimalb c field ≡ true
  pub from : a ≤ byte
  pub to : byte < a + n
  pub starts : offset_of c field ≤ byte
  pub ends : byte < end_of c field

abbrev pub SpanBreaks : Code → Bool → ℕ → ℕ → ℕ → Breach → Type 0
SpanBreaks c dest f a n breach.None = ⊥
SpanBreaks c dest f a n breach.BoundNotLiteral = ⊥
SpanBreaks c dest f a n breach.BoundsWrong = ⊥
SpanBreaks c dest f a n breach.LeavesField = Inside c f a n → ⊥
-- "A decimal span lies in one element": it lies in none.
SpanBreaks c dest f a n breach.OverElements = Inside c f a n × (decimalb c f ≡ true) × ((k : ℕ) → InElement c false f a n k → ⊥)
-- "if it is a destination it ends at that element's last character": it ends before.
SpanBreaks c dest f a n breach.StopsMidElement =
    Inside c f a n × (decimalb c f ≡ true) × (dest ≡ true) × (k : ℕ) × InElement c false f a n k × (a + n < element_at c f k + size_of c f)
-- "An alpha destination shares no byte with a decimal field."
SpanBreaks c dest f a n breach.OnDecimal = Inside c f a n × (decimalb c f ≡ false) × (dest ≡ true) × Shares c a n

-- ---- references

-- The span that it names breaks a rule.
pub record NamedBreaks (c : Code) (dest : Bool) (h : Form) (f : ℕ) (before : List Item) (b : Breach) : Type 0 where
  pub a : ℕ
  pub n : ℕ
  pub names : Names c h f before (span_at a n)
  pub breaks : SpanBreaks c dest f a n b

abbrev pub RefBreaks : Code → Bool → Form → ℕ → List Item → Breach → Type 0
RefBreaks c dest h f before breach.None = ⊥
-- "Each bound of 03, 04 and 05 is a number literal, or one followed by negate, standing directly before": there are none such.
RefBreaks c dest h f before breach.BoundNotLiteral = (x y : ℤ) → Bounds c h before x y → ⊥
-- "the bounds are ones that 21 isn't given for": it is given.
RefBreaks c dest h f before breach.BoundsWrong = Names c h f before None
RefBreaks c dest h f before breach.LeavesField = NamedBreaks c dest h f before breach.LeavesField
RefBreaks c dest h f before breach.OverElements = NamedBreaks c dest h f before breach.OverElements
RefBreaks c dest h f before breach.StopsMidElement = NamedBreaks c dest h f before breach.StopsMidElement
RefBreaks c dest h f before breach.OnDecimal = NamedBreaks c dest h f before breach.OnDecimal

-- ---- expressions and statements

-- References left to right: what stands before it keeps the rules of items that are read.
pub record ExprBreaks (c : Code) (dest : Bool) (is : List Item) (b : Breach) : Type 0 where
  pub before : List Item
  pub after : List Item
  pub h : Form
  pub f : ℕ
  pub items : is ≡ before ++ (item.Reference h f ∷ after)
  pub earlier : ExprFenced c false before
  pub here : RefBreaks c (destb dest after) h f before b

abbrev pub UseBreaks : Code → Option Use → Breach → Type 0
UseBreaks c None b = ⊥
UseBreaks c (Some u) b = ExprBreaks c u.written (c.items u.at) b

-- "a is worked out before b": its expressions in this order.
pub record UsesBreak (c : Code) (us : List (Option Use)) (b : Breach) : Type 0 where
  pub k : ℕ
  pub low : k < length us
  pub earlier : (j : ℕ) → j < k → UseFenced c (get_or us j None)
  pub here : UseBreaks c (get_or us k None) b

abbrev pub StatementBreaks : Code → Statement → Breach → Type 0
StatementBreaks c s b = UsesBreak c (uses_of c s) b
