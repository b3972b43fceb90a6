-- The fence rules (document 01, "Fence rules"), as statements. Breaches has the same rules as tests.
--   Bound c is v                 the items is are a bound with the value v
--   Bounds c form before x y     the bounds x and y that a reference takes end the items before it
--   Names c form f before span   the span that a reference names by its bounds
--   InElement c dest f a n k     n bytes from a on lie in the element k of the field f, and end with it where they are a destination
--   SpanFenced c dest f a n      the rules of the span of a reference to the field f
--   SpanKept c dest f span       the same, where the span may be none
--   RefFenced c dest form f before  the rules of a reference behind the items before it
--   ExprFenced c dest is         every reference of the expression is
--   UseFenced, StatementFenced   every expression of a statement
--   Fenced c                     every statement
--   Breaks c i                   the statement i is the first that breaks a rule
-- Unreachable statements count too. Assumes nothing.
use Rattle.std.specs.Prelude.{ℕ, ◌+◌, ◌<◌, ◌≤◌, ◌≡◌, Bool, true, false, List, [], ◌∷◌, ◌++◌, ◌⊎◌, ℤ, pos, neg_ℤ, length, get_or, Ok, None, Option, Some}
use Rattle.rules_unit.specs.declared.Form.{Form}
use Rattle.rules_unit.specs.declared.Form.TheVariants as form
use Rattle.rules_unit.specs.declared.Op.TheVariants as op
use Rattle.rules_unit.specs.declared.Item.{Item}
use Rattle.rules_unit.specs.declared.Item.TheVariants as item
use Rattle.rules_unit.specs.declared.Statement.{Statement}
use Rattle.rules_unit.specs.declared.Use.{Use}
use Rattle.rules_unit.specs.Codes.{Code, decimalb, offset_of, size_of, count_of, element_at, end_of}
use Rattle.rules_unit.specs.Table.{uses_of}
use Rattle.rules_run.specs.declared.Span.{Span}
use Rattle.rules_run.specs.Spans.{span_of}
use Rattle.rules_run.specs.Evaluation.{literal_number}

-- ---- "Each bound of 03, 04 and 05 is a number literal, or one followed by negate, standing directly before"

pub record Literal (c : Code) (is : List Item) (v : ℤ) : Type 0 where
  pub place : ℕ
  pub len : ℕ
  pub items : is ≡ item.Number place len ∷ []
  pub value : literal_number c place len ≡ Ok v

pub record Negated (c : Code) (is : List Item) (v : ℤ) : Type 0 where
  pub place : ℕ
  pub len : ℕ
  pub magnitude : ℤ
  pub items : is ≡ item.Number place len ∷ (item.Operator op.Negate ∷ [])
  pub value : literal_number c place len ≡ Ok magnitude
  pub sign : neg_ℤ magnitude ≡ v

abbrev pub Bound : Code → List Item → ℤ → Type 0
Bound c is v = Literal c is v ⊎ Negated c is v

-- One bound, and two, that end the items before.
pub record OneBound (c : Code) (before : List Item) (x : ℤ) : Type 0 where
  pub rest : List Item
  pub bound : List Item
  pub items : before ≡ rest ++ bound
  pub is_bound : Bound c bound x

pub record TwoBounds (c : Code) (before : List Item) (x y : ℤ) : Type 0 where
  pub rest : List Item
  pub first : List Item
  pub last : List Item
  pub items : before ≡ rest ++ (first ++ last)
  pub is_first : Bound c first x
  pub is_last : Bound c last y

-- 02 takes no bound, 03 one, 04 and 05 two. What is not taken is 0.
abbrev pub Bounds : Code → Form → List Item → ℤ → ℤ → Type 0
Bounds c form.First before x y = (x ≡ pos 0) × (y ≡ pos 0)
Bounds c form.Subscript before x y = OneBound c before x × (y ≡ pos 0)
Bounds c form.StartEnd before x y = TwoBounds c before x y
Bounds c form.PosLength before x y = TwoBounds c before x y

-- The span that a reference names by its bounds.
pub record Names (c : Code) (h : Form) (f : ℕ) (before : List Item) (span : Option Span) : Type 0 where
  pub x : ℤ
  pub y : ℤ
  pub bounds : Bounds c h before x y
  pub is_span : span_of c.size (c.field f) h x y ≡ span

-- ---- one span

pub record InElement (c : Code) (dest : Bool) (f a n k : ℕ) : Type 0 where
  pub low : k < count_of c f
  pub from : element_at c f k ≤ a
  pub to : a + n ≤ element_at c f k + size_of c f
  -- "if it is a destination it ends at that element's last character"
  pub ends : dest ≡ true → a + n ≡ element_at c f k + size_of c f

pub record SpanFenced (c : Code) (dest : Bool) (f a n : ℕ) : Type 0 where
  -- "the span lies inside the field's size x count bytes"
  pub from : offset_of c f ≤ a
  pub to : a + n ≤ end_of c f
  -- "A decimal span lies in one element"
  pub element : decimalb c f ≡ true → (k : ℕ) × InElement c dest f a n k
  -- "An alpha destination shares no byte with a decimal field."
  pub apart : decimalb c f ≡ false → dest ≡ true → (g b : ℕ) → g < c.fields → decimalb c g ≡ true → a ≤ b → b < a + n → offset_of c g ≤ b → b < end_of c g → ⊥

-- "the bounds are ones that 21 isn't given for": they name a span.
abbrev pub SpanKept : Code → Bool → ℕ → Option Span → Type 0
SpanKept c dest f (Some s) = SpanFenced c dest f s.start s.len
SpanKept c dest f None = ⊥

-- ---- references, expressions and statements

-- The span by the rule of document 01, of a strict field too. Bounds that are written in the unit are the same in every run, so the span is fixed.
pub record RefFenced (c : Code) (dest : Bool) (h : Form) (f : ℕ) (before : List Item) : Type 0 where
  pub x : ℤ
  pub y : ℤ
  pub bounds : Bounds c h before x y
  pub kept : SpanKept c dest f (span_of c.size (c.field f) h x y)

-- Of a place only the last reference names a destination; those before it are read.
abbrev pub destb : Bool → List Item → Bool
destb dest [] = dest
destb dest (i ∷ is) = false

-- Every reference, wherever it stands between the items before it and those after it.
pub record ExprFenced (c : Code) (dest : Bool) (is : List Item) : Type 0 where
  pub refs : (before after : List Item) (h : Form) (f : ℕ) → is ≡ before ++ (item.Reference h f ∷ after)
      → RefFenced c (destb dest after) h f before

-- "A destination is the span named by place a of codes 1 to 6", and of 13 and 14: the uses that are written.
abbrev pub UseFenced : Code → Option Use → Type 0
UseFenced c None = Unit {0}
UseFenced c (Some u) = ExprFenced c u.written (c.items u.at)

pub record StatementFenced (c : Code) (s : Statement) : Type 0 where
  pub each : (k : ℕ) → k < length (uses_of c s) → UseFenced c (get_or (uses_of c s) k None)

pub record Fenced (c : Code) : Type 0 where
  pub all : (i : ℕ) → i < c.statements → StatementFenced c (c.statement i)

-- "no with the first statement that breaks a rule"
pub record Breaks (c : Code) (i : ℕ) : Type 0 where
  pub low : i < c.statements
  pub breaks : StatementFenced c (c.statement i) → ⊥
  pub before : (j : ℕ) → j < i → StatementFenced c (c.statement j)
