-- References: the first rule that one breaks. One law for each way out of the code.
-- Assumes nothing.
use Rattle.std.specs.Prelude.{None, Option}
use Rattle.rules_run.specs.Spans.{span_at}
use mathlib.Core.Path.{◌≡◌, sym, ◌∙◌}
use mathlib.Core.Bool.{Bool, true, false}
use mathlib.Core.List.{List}
use Prim.Native.Nat.{ℕ, ◌+◌, ◌≤◌}
use Rattle.rules_unit.specs.declared.Parts.{Parts}
use Rattle.rules_unit.specs.declared.Form.{Form}
use Rattle.rules_unit.specs.Decode.{code_of}
use Rattle.rules_run.specs.declared.Span.{Span}
use Rattle.rules_run.proofs.Located as located
use Rattle.rules_fence.specs.declared.Breach.{Breach}
use Rattle.rules_fence.specs.declared.Breach.TheVariants as breach
use Rattle.rules_fence.specs.declared.Seen.{Seen}
use Rattle.rules_fence.specs.Bounds.{boundedb, fixed_span}
use Rattle.rules_fence.specs.Breaches.{span_breach, reference_breach}
use Rattle.fence_bounds.specs.Asked.{last_bound, start_bound}
use Rattle.fence_bounds.proofs.Fixed.{fixed_as}

module _ (u : List ℕ) (p : Parts) (h : Form) (f : ℕ) (s : Seen) (dest b : Bool) (eb : b ≡ boundedb h s) where
  pub reference_unbound : b ≡ false → breach.BoundNotLiteral ≡ reference_breach (code_of u p) dest h f s
  unfolding reference_breach
  reference_unbound e = rw (sym eb ∙ e)

  module _ (t : b ≡ true) (span : Option Span) (es : span ≡ fixed_span (code_of u p) h f s) where
    -- "it must stay inside the D bytes"
    pub found_inside : (a n : ℕ) → span ≡ span_at a n → a + n ≤ p.d
    found_inside a n e =
        located.found_inside p.d ((code_of u p).field f) h (start_bound h s) (last_bound s) (fixed_as (code_of u p) h f s (sym eb ∙ t) ∙ sym es ∙ e)

    pub reference_at_lem : (a n : ℕ) (r : Breach) → span ≡ span_at a n → r ≡ span_breach (code_of u p) dest f (span_at a n) → r ≡ reference_breach (code_of u p) dest h f s
    unfolding reference_breach
    reference_at_lem a n r e q = rw (sym eb ∙ t, sym es ∙ e) q

    pub reference_outside : span ≡ None → breach.BoundsWrong ≡ reference_breach (code_of u p) dest h f s
    unfolding reference_breach
    reference_outside e = rw (sym eb ∙ t, sym es ∙ e)
