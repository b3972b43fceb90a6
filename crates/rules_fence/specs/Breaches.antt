-- The fence check (document 01, "Fence rules"): the rules of Fence as tests, in their order, and what the check answers.
--   breach_number b               the number of a breach, 0 for none; keepsb b, that it is none; first_of the first of two
--   span_breach c dest f span     the first rule that the span of a reference to the field f breaks
--   reference_breach, item_breach  .. that a reference breaks, and an item
--   breach_from c dest s is       .. that the items is break, where the bounds s stand before them
--   use_breach, breach_of c i      .. that a use breaks, and the statement i: its uses in order, references left to right
--   fence_of u                    the check's answer; breach_in u i the breach of a statement of a unit in bytes
-- Assumes nothing.
use Rattle.rules_unit.specs.declared.Refusal.{Refusal}
use Rattle.rules_unit.specs.declared.Parts.{Parts}
use Rattle.std.specs.Prelude.{ℕ, zero, suc, ◌+◌, ◌-◌, ◌*◌, ◌/◌, Bool, true, false, cond, ◌||◌, List, [], ◌∷◌, ltb, leb, eqb, Result, Err, Ok, None, Option, Some}
use Rattle.rules.specs.Tests.{◌and◌}
use Rattle.rules_unit.specs.declared.Field.{Field}
use Rattle.rules_unit.specs.declared.Form.{Form}
use Rattle.rules_unit.specs.declared.Item.{Item}
use Rattle.rules_unit.specs.declared.Item.TheVariants as item
use Rattle.rules_unit.specs.declared.Use.{Use}
use Rattle.rules_unit.specs.Codes.{Code, is_decimal, decimalb, offset_of, size_of, element_at, end_of}
use Rattle.rules_unit.specs.Decode.{code_of}
use Rattle.rules_unit.specs.Table.{uses_of}
use Rattle.rules_unit.specs.Checks.{check_of}
use Rattle.rules_run.specs.declared.Span.{Span}
use Rattle.rules_fence.specs.declared.Breach.{Breach}
use Rattle.rules_fence.specs.declared.Breach.TheVariants as breach
use Rattle.rules_fence.specs.declared.Verdict.{Verdict}
use Rattle.rules_fence.specs.declared.Verdict.TheVariants as verdict
use Rattle.rules_fence.specs.declared.Seen.{Seen}
use Rattle.rules_fence.specs.declared.Seen.TheVariants as seen
use Rattle.rules_fence.specs.Bounds.{seen_after, boundedb, fixed_span}
use Rattle.rules_fence.specs.Fence.{destb}

-- The breaches, numbered in the order of the rules.
abbrev pub breach_number : Breach → ℕ
breach_number breach.None = 0
breach_number breach.BoundNotLiteral = 1
breach_number breach.BoundsWrong = 2
breach_number breach.LeavesField = 3
breach_number breach.OverElements = 4
breach_number breach.StopsMidElement = 5
breach_number breach.OnDecimal = 6

abbrev pub keepsb : Breach → Bool
keepsb breach.None = true
keepsb breach.BoundNotLiteral = false
keepsb breach.BoundsWrong = false
keepsb breach.LeavesField = false
keepsb breach.OverElements = false
keepsb breach.StopsMidElement = false
keepsb breach.OnDecimal = false

-- The first of two breaches.
abbrev pub first_of : Breach → Breach → Breach
first_of b rest = cond (keepsb b) rest b

-- ---- one span

-- "A decimal span lies in one element; if it is a destination it ends at that element's last character." Here e is the end of the element
-- that the span starts in.
abbrev pub end_breach : Bool → ℕ → ℕ → Breach
end_breach dest e last =
    cond (leb last e) (cond dest (cond (eqb last e) breach.None breach.StopsMidElement) breach.None) breach.OverElements

unfoldable pub element_breach : Code → Bool → ℕ → ℕ → ℕ → Breach
element_breach c dest f a n = end_breach dest (element_at c f ((a - offset_of c f) / size_of c f) + size_of c f) (a + n)

-- The field is no decimal one, or shares no byte with the n bytes from a on.
abbrev pub apart_of : Field → ℕ → ℕ → Bool
apart_of f a n = cond (is_decimal f.kind) (leb (a + n) f.offset || leb (f.offset + f.count * f.size) a) true

-- The k fields from g on.
unfoldable pub apart_from : Code → ℕ → ℕ → ℕ → ℕ → Bool
apart_from c a n zero g = true
apart_from c a n (suc k) g = let rest = apart_from c a n k (g + 1) in apart_of (c.field g) a n and rest

-- "An alpha destination shares no byte with a decimal field."
unfoldable pub alpha_breach : Code → Bool → ℕ → ℕ → Breach
alpha_breach c dest a n = cond dest (cond (apart_from c a n c.fields 0) breach.None breach.OnDecimal) breach.None

-- "the bounds are ones that 21 isn't given for, and the span lies inside the field's size x count bytes"
abbrev pub span_breach : Code → Bool → ℕ → Option Span → Breach
span_breach c dest f (Some s) =
    cond (leb (offset_of c f) s.start)
    (cond (leb (s.start + s.len) (end_of c f)) (cond (decimalb c f) (element_breach c dest f s.start s.len) (alpha_breach c dest s.start s.len)) breach.LeavesField)
    breach.LeavesField
span_breach c dest f None = breach.BoundsWrong

-- ---- references, expressions, statements

-- "Each bound of 03, 04 and 05 is a number literal, or one followed by negate, standing directly before"
unfoldable pub reference_breach : Code → Bool → Form → ℕ → Seen → Breach
reference_breach c dest h f s = cond (boundedb h s) (span_breach c dest f (fixed_span c h f s)) breach.BoundNotLiteral

-- The item i, before the items is.
abbrev pub item_breach : Code → Bool → Seen → Item → List Item → Breach
item_breach c dest s (item.Number place len) is = breach.None
item_breach c dest s (item.Reference h field) is = reference_breach c (destb dest is) h field s
item_breach c dest s (item.Text place len) is = breach.None
item_breach c dest s (item.Operator o) is = breach.None
item_breach c dest s item.End is = breach.None
item_breach c dest s item.Bad is = breach.None

unfoldable pub breach_from : Code → Bool → Seen → List Item → Breach
breach_from c dest s [] = breach.None
breach_from c dest s (i ∷ is) = let rest = breach_from c dest (seen_after c s i) is in first_of (item_breach c dest s i is) rest

abbrev pub use_breach : Code → Option Use → Breach
use_breach c None = breach.None
use_breach c (Some u) = breach_from c u.written seen.Nothing (c.items u.at)

unfoldable pub uses_breach : Code → List (Option Use) → Breach
uses_breach c [] = breach.None
uses_breach c (x ∷ xs) = let rest = uses_breach c xs in first_of (use_breach c x) rest

unfoldable pub breach_of : Code → ℕ → Breach
breach_of c i = uses_breach c (uses_of c (c.statement i))

-- ---- the check

-- "yes, or no with the first statement that breaks a rule": the k statements from i on
unfoldable pub verdict_from : Code → ℕ → ℕ → Verdict
verdict_from c zero i = verdict.Yes
verdict_from c (suc k) i = let rest = verdict_from c k (i + 1) in cond (keepsb (breach_of c i)) rest (verdict.No i)

-- "The check answers a refusal (1 to 5) with its place, yes, or no"
abbrev pub fence_by : List ℕ → Result Parts Refusal → Verdict
fence_by u (Ok p) = verdict_from (code_of u p) p.n 0
fence_by u (Err r) = verdict.Refused r

unfoldable pub fence_of : List ℕ → Verdict
fence_of u = fence_by u (check_of u)

-- The rule that the statement i breaks; none where the unit is refused or has no such statement.
abbrev pub breach_by : List ℕ → ℕ → Result Parts Refusal → Breach
breach_by u i (Ok p) = cond (ltb i p.n) (breach_of (code_of u p) i) breach.None
breach_by u i (Err r) = breach.None

unfoldable pub breach_in : List ℕ → ℕ → Breach
breach_in u i = breach_by u i (check_of u)
