-- The span that the bounds of a reference fix: the one that `span_of` finds by them.
-- Assumes nothing.
use Rattle.std.specs.Prelude.{Option}
use mathlib.Core.Path.{◌≡◌, refl, ◌∙◌}
use mathlib.Core.Bool.{true, false≢true}
use mathlib.Core.List.{List}
use Prim.Native.Nat.{ℕ, ◌^◌}
use lib.IntN.{ℤ}
use mir.Syntax.{w64}
use mir.Val.{to_z, of_z}
use Rattle.rules.specs.Values.{Val}
use Rattle.rules.proofs.Signed.{val_fits, op_plain}
use Rattle.rules_unit.specs.declared.Parts.{Parts}
use Rattle.rules_unit.specs.declared.Field.{Field}
use Rattle.rules_unit.specs.declared.Form.{Form}
use Rattle.rules_unit.specs.declared.Form.TheVariants as form
use Rattle.rules_unit.specs.Codes.{Code}
use Rattle.rules_unit.specs.Decode.{code_of}
use Rattle.rules_run.specs.declared.Span.{Span}
use Rattle.rules_run.specs.Spans.{span_of}
use Rattle.rules_fence.specs.declared.Seen.{Seen}
use Rattle.rules_fence.specs.declared.Seen.TheVariants as seen
use Rattle.rules_fence.specs.Bounds.{boundedb, fixed_span}
use Rattle.fence_bounds.specs.Asked.{last_bound, start_bound, Small}
use Rattle.fence_bounds.proofs.Bounds.{start_small}

pub fixed_as : (c : Code) (h : Form) (f : ℕ) (s : Seen) → boundedb h s ≡ true
    → span_of c.size (c.field f) h (start_bound h s) (last_bound s) ≡ fixed_span c h f s
unfolding span_of fixed_span
fixed_as c form.First f s e = refl
fixed_as c form.Subscript f seen.Nothing e = absurd (false≢true e)
fixed_as c form.Subscript f (seen.One y plain) e = refl
fixed_as c form.Subscript f (seen.Two x y plain) e = refl
fixed_as c form.StartEnd f seen.Nothing e = absurd (false≢true e)
fixed_as c form.StartEnd f (seen.One y plain) e = absurd (false≢true e)
fixed_as c form.StartEnd f (seen.Two x y plain) e = refl
fixed_as c form.PosLength f seen.Nothing e = absurd (false≢true e)
fixed_as c form.PosLength f (seen.One y plain) e = absurd (false≢true e)
fixed_as c form.PosLength f (seen.Two x y plain) e = refl

module _ (u : List ℕ) (p : Parts) (h : Form) (f : ℕ) (s : Seen) where
  pub fixed_found : (entry : Field) (most : ℕ) (x y : ℤ) (r : Option Span) → Small s → boundedb h s ≡ true → entry ≡ (code_of u p).field f → most ≡ p.d
      → x ≡ start_bound h s → y ≡ last_bound s → r ≡ span_of most entry h (to_z w64 (of_z w64 x)) (to_z w64 (of_z w64 y))
      → r ≡ fixed_span (code_of u p) h f s
  fixed_found entry most x y r m t ee em ex ey q =
      let vx : Val (10 ^ 18) x = rw ex (start_small h s m) in
      let vy : Val (10 ^ 18) y = rw ey m.last in
      (rw (em, ee, ex, ey) at (q ∙ op_plain (span_of most entry h) (val_fits vx) (val_fits vy))) ∙ fixed_as (code_of u p) h f s t
