-- The bounds of a reference, as they are written in the unit (document 01, "Fence rules").
--   is_negate o            the operator is negate
--   seen_after c s i       the bounds that stand directly before what follows the item i
--   seen_in c s is         the same after the items is
--   boundedb form s       there are as many as the reference takes
--   fixed_span c form f s  the bytes that the reference names by them
-- Bounds that are written in the unit are the same in every run, so the span is fixed. Assumes nothing.
use Rattle.rules.specs.declared.Fault.{Fault}
use Rattle.std.specs.Prelude.{ℕ, Bool, true, false, cond, List, [], ◌∷◌, pos, neg_ℤ, Result, ℤ, Err, Ok, None, Option}
use Rattle.rules_unit.specs.declared.Form.{Form}
use Rattle.rules_unit.specs.declared.Form.TheVariants as form
use Rattle.rules_unit.specs.declared.Op.{Op}
use Rattle.rules_unit.specs.declared.Op.TheVariants as op
use Rattle.rules_unit.specs.declared.Item.{Item}
use Rattle.rules_unit.specs.declared.Item.TheVariants as item
use Rattle.rules_unit.specs.Codes.{Code}
use Rattle.rules_run.specs.declared.Span.{Span}
use Rattle.rules_run.specs.Spans.{span_of}
use Rattle.rules_run.specs.Evaluation.{literal_number}
use Rattle.rules_fence.specs.declared.Seen.{Seen}
use Rattle.rules_fence.specs.declared.Seen.TheVariants as seen

abbrev pub is_negate : Op → Bool
is_negate op.Add = false
is_negate op.Subtract = false
is_negate op.Multiply = false
is_negate op.Divide = false
is_negate op.Round = false
is_negate op.Negate = true
is_negate op.Eq = false
is_negate op.Ne = false
is_negate op.Gt = false
is_negate op.Lt = false
is_negate op.Ge = false
is_negate op.Le = false
is_negate op.Not = false
is_negate op.And = false
is_negate op.Or = false
is_negate op.Xor = false

-- ---- "a number literal, or one followed by negate, standing directly before"

-- A literal is a bound, and the one before it stays one. No reference takes more than two.
abbrev pub seen_number : Result ℤ Fault → Seen → Seen
seen_number (Err e) s = seen.Nothing
seen_number (Ok v) seen.Nothing = seen.One v true
seen_number (Ok v) (seen.One y plain) = seen.Two y v true
seen_number (Ok v) (seen.Two x y plain) = seen.Two y v true

-- Negate is a part of a bound where it follows the literal itself. A second negate is none.
abbrev pub seen_negate : Seen → Seen
seen_negate seen.Nothing = seen.Nothing
seen_negate (seen.One y plain) = cond plain (seen.One (neg_ℤ y) false) seen.Nothing
seen_negate (seen.Two x y plain) = cond plain (seen.Two x (neg_ℤ y) false) seen.Nothing

-- Behind any other item no bound stands directly before.
abbrev pub seen_after : Code → Seen → Item → Seen
seen_after c s (item.Number place len) = seen_number (literal_number c place len) s
seen_after c s (item.Reference h field) = seen.Nothing
seen_after c s (item.Text place len) = seen.Nothing
seen_after c s (item.Operator o) = cond (is_negate o) (seen_negate s) seen.Nothing
seen_after c s item.End = seen.Nothing
seen_after c s item.Bad = seen.Nothing

unfoldable pub seen_in : Code → Seen → List Item → Seen
seen_in c s [] = s
seen_in c s (i ∷ is) = seen_in c (seen_after c s i) is

-- ---- "Each bound of 03, 04 and 05"

abbrev pub boundedb : Form → Seen → Bool
boundedb form.First s = true
boundedb form.Subscript seen.Nothing = false
boundedb form.Subscript (seen.One y plain) = true
boundedb form.Subscript (seen.Two x y plain) = true
boundedb form.StartEnd seen.Nothing = false
boundedb form.StartEnd (seen.One y plain) = false
boundedb form.StartEnd (seen.Two x y plain) = true
boundedb form.PosLength seen.Nothing = false
boundedb form.PosLength (seen.One y plain) = false
boundedb form.PosLength (seen.Two x y plain) = true

-- The span by the rule of document 01, of a strict field too: none where that gives 21, and where a bound is not written so.
unfoldable pub fixed_span : Code → Form → ℕ → Seen → Option Span
fixed_span c form.First f s = span_of c.size (c.field f) form.First (pos 0) (pos 0)
fixed_span c form.Subscript f seen.Nothing = None
fixed_span c form.Subscript f (seen.One y plain) = span_of c.size (c.field f) form.Subscript y (pos 0)
fixed_span c form.Subscript f (seen.Two x y plain) = span_of c.size (c.field f) form.Subscript y (pos 0)
fixed_span c form.StartEnd f seen.Nothing = None
fixed_span c form.StartEnd f (seen.One y plain) = None
fixed_span c form.StartEnd f (seen.Two x y plain) = span_of c.size (c.field f) form.StartEnd x y
fixed_span c form.PosLength f seen.Nothing = None
fixed_span c form.PosLength f (seen.One y plain) = None
fixed_span c form.PosLength f (seen.Two x y plain) = span_of c.size (c.field f) form.PosLength x y
