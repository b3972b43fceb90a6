-- The fence check's tests (document 01, "Fence rules"): of a sound unit a statement has no breach exactly when it keeps the rules.
-- Assumes nothing.
use Rattle.std.specs.Prelude.{None, Option, Some}
use Prim.Native.Nat.{ℕ, zero, suc, ◌<◌}
use native.Mathlib.Omega.{arith}
use mathlib.Core.Path.{◌≡◌, refl, sym}
use mathlib.Core.Bool.{Bool, true}
use mathlib.Core.List.{List, [], ◌∷◌}
use lib.IntN.{ℤ, pos}
use lib.ListN.{length, get_or}
use borrow.Author.Tests.{ltb-true}
use Rattle.rules_unit.specs.declared.Form.{Form}
use Rattle.rules_unit.specs.declared.Form.TheVariants as form
use Rattle.rules_unit.specs.declared.Item.{Item}
use Rattle.rules_unit.specs.declared.Item.TheVariants as item
use Rattle.rules_unit.specs.declared.Use.{Use}
use Rattle.rules_unit.specs.Codes.{Code}
use Rattle.rules_unit.specs.Expressions.{Known, itemb, useb}
use Rattle.rules_unit.specs.Table.{uses_of}
use Rattle.rules_unit.specs.Sound.{SoundCode}
use Rattle.rules_unit.proofs.Statements.{uses_good}
use Rattle.rules_run.specs.declared.Span.{Span}
use Rattle.rules_run.specs.Spans.{span_of}
use Rattle.rules_run.proofs.Located.{span_some}
use Rattle.rules_fence.specs.declared.Seen.{Seen}
use Rattle.rules_fence.specs.declared.Seen.TheVariants as seen
use Rattle.rules_fence.specs.Bounds.{seen_after, fixed_span}
use Rattle.rules_fence.specs.Fence.{SpanKept, destb, ExprFenced, UseFenced, StatementFenced}
use Rattle.rules_fence.specs.Breaches.{span_breach, reference_breach, item_breach, breach_from, use_breach, uses_breach, breach_of}
use Rattle.rules_fence.proofs.Exact.{ItemFenced, AllFenced, expr_to, expr_of}
use Rattle.rules_fence.proofs.Kept.{Kept, kept_none, kept_never, kept_as, kept_first}
use Rattle.rules_fence.proofs.Sorts.{known_of}
use Rattle.rules_fence.proofs.Spans.{span_tells}

module _ (c : Code) (s : SoundCode c) where
  -- ---- references

  module _ (dest : Bool) (f : ℕ) (k : f < c.fields) where
    by_span : (h : Form) (x y : ℤ) (span : Option Span) → span ≡ span_of c.size (c.field f) h x y → Kept (span_breach c dest f span) (SpanKept c dest f span)
    by_span h x y (Some z) q = span_tells c s z.start z.len (span_some c.size (c.field f) h x y (s.entries f k).own.some (sym q)) dest f k
    by_span h x y None q = kept_never _ refl

    found : (h : Form) (x y : ℤ) → Kept (span_breach c dest f (span_of c.size (c.field f) h x y)) (SpanKept c dest f (span_of c.size (c.field f) h x y))
    found h x y = by_span h x y (span_of c.size (c.field f) h x y) refl

    reference_tells : (h : Form) (b : Seen) → Kept (reference_breach c dest h f b) (SpanKept c dest f (fixed_span c h f b))
    unfolding reference_breach fixed_span
    reference_tells form.First b = found form.First (pos 0) (pos 0)
    reference_tells form.Subscript seen.Nothing = kept_never _ refl
    reference_tells form.Subscript (seen.One y plain) = found form.Subscript y (pos 0)
    reference_tells form.Subscript (seen.Two x y plain) = found form.Subscript y (pos 0)
    reference_tells form.StartEnd seen.Nothing = kept_never _ refl
    reference_tells form.StartEnd (seen.One y plain) = kept_never _ refl
    reference_tells form.StartEnd (seen.Two x y plain) = found form.StartEnd x y
    reference_tells form.PosLength seen.Nothing = kept_never _ refl
    reference_tells form.PosLength (seen.One y plain) = kept_never _ refl
    reference_tells form.PosLength (seen.Two x y plain) = found form.PosLength x y

  -- ---- expressions

  module _ (dest : Bool) where
    pub item_tells : (b : Seen) (i : Item) (is : List Item) → itemb c i ≡ true → Kept (item_breach c dest b i is) (ItemFenced c dest b i is)
    item_tells b (item.Number p l) is e = kept_none
    item_tells b (item.Reference h f) is e = reference_tells (destb dest is) f (ltb-true f c.fields e) h b
    item_tells b (item.Text p l) is e = kept_none
    item_tells b (item.Operator o) is e = kept_none
    item_tells b item.End is e = kept_none
    item_tells b item.Bad is e = kept_none

    from_tells : (b : Seen) (is : List Item) → Known c is → Kept (breach_from c dest b is) (AllFenced c dest b is)
    unfolding breach_from
    from_tells b [] k = kept_none
    from_tells b (i ∷ is) k = kept_first (item_tells b i is k.0) (from_tells (seen_after c b i) is k.1)

    expr_tells : (is : List Item) → Known c is → Kept (breach_from c dest seen.Nothing is) (ExprFenced c dest is)
    expr_tells is k = kept_as (expr_of c dest is) (expr_to c dest is) (from_tells seen.Nothing is k)

  -- ---- statements

  pub use_tells : (x : Option Use) → useb c x ≡ true → Kept (use_breach c x) (UseFenced c x)
  use_tells None e = kept_none
  use_tells (Some u) e = expr_tells u.written (c.items u.at) (known_of c u.want u.at e)

  uses_tell : (us : List (Option Use)) → ((k : ℕ) → k < length us → useb c (get_or us k None) ≡ true)
      → Kept (uses_breach c us) ((k : ℕ) → k < length us → UseFenced c (get_or us k None))
  unfolding uses_breach
  uses_tell [] e = record { to = λ q k h. absurd (omega arith); of = λ r. refl }
  uses_tell (x ∷ xs) e = kept_as gives asks (kept_first (use_tells x (e 0 (omega arith))) (uses_tell xs (λ k h. e (suc k) (omega arith))))
    where
      gives : UseFenced c x × ((k : ℕ) → k < length xs → UseFenced c (get_or xs k None)) → (k : ℕ) → k < length (x ∷ xs) → UseFenced c (get_or (x ∷ xs) k None)
      gives r zero h = r.0
      gives r (suc k) h = r.1 k (omega arith)

      asks : ((k : ℕ) → k < length (x ∷ xs) → UseFenced c (get_or (x ∷ xs) k None)) → UseFenced c x × ((k : ℕ) → k < length xs → UseFenced c (get_or xs k None))
      asks f = (f 0 (omega arith), λ k h. f (suc k) (omega arith))

  pub statement_tells : (i : ℕ) → i < c.statements → Kept (breach_of c i) (StatementFenced c (c.statement i))
  unfolding breach_of
  statement_tells i h = kept_as (λ r. record { each = r }) (λ r. r.each) (uses_tell (uses_of c (c.statement i)) (uses_good c i (s.statements i h).uses))
