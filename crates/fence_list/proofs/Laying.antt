-- One row: its numbers, and where it is put. One law for each way out of the code.
-- Assumes nothing.
use Rattle.std.specs.Prelude.{None}
use Prim.Native.Nat.{ℕ, ◌+◌, ◌-◌, ◌*◌, ◌/◌, ◌<◌, ◌≤◌}
use native.Mathlib.Omega.{arith}
use mathlib.Core.Path.{◌≡◌, refl, sym, ap, ◌∙◌}
use mathlib.Core.Bool.{Bool, false, true≢false}
use mathlib.Core.List.{List, [], ◌∷◌, ◌++◌}
use lib.ListN.{length, take, drop}
use borrow.Author.Tests.{lt-ltb, le-ltb, le-leb, lt-leb}
use borrow.Rule.Slice.PartMut.{put_mid, Post-is, mid_len}
use Rattle.rules_unit.specs.declared.Form.{Form}
use Rattle.rules_unit.specs.declared.Form.TheVariants as form
use Rattle.rules_unit.specs.Codes.{Code}
use Rattle.rules_fence.specs.declared.Broken.{Broken}
use Rattle.rules_fence.specs.declared.Seen.{Seen}
use Rattle.rules_fence.specs.declared.Seen.TheVariants as seen
use Rattle.rules_fence.specs.Bounds.{boundedb, fixed_span}
use Rattle.rules_fence.specs.Breaches.{breach_number}
use Rattle.rules_fence.specs.Listed.{form_number, start_of, length_of, truth_of, row_of}
use Rattle.rules_host.specs.Laid.{laid}
use Rattle.rules_host.proofs.Laid.{laid_same}
use Rattle.fence_list.specs.Gathered.{count_after, row_put}

-- The eight numbers, as the code has asked for them.
pub row_told : (b : Broken) (l m : List ℕ) (rule written h start len : ℕ)
    → rule ≡ breach_number b.rule
    → written ≡ truth_of b.written
    → h ≡ form_number b.form
    → start ≡ start_of b.span
    → len ≡ length_of b.span
    → m ≡ laid (b.statement ∷ rule ∷ written ∷ b.field ∷ h ∷ start ∷ len ∷ b.at ∷ []) l
    → m ≡ laid (row_of b) l
row_told b l m rule written h start len e1 e2 e3 e4 e5 q = rw (← e1, ← e2, ← e3, ← e4, ← e5) q

module _ (skip n : ℕ) (b : Broken) (rows : List ℕ) where
  pub put_early : n < skip → rows ≡ row_put skip n b rows
  unfolding row_put
  put_early h = rw (lt-ltb n skip h)

  module _ (h : skip ≤ n) where
    pub put_full : length rows / 8 ≤ n - skip → rows ≡ row_put skip n b rows
    unfolding row_put
    put_full g = rw (le-ltb n skip h, le-leb (length rows / 8) (n - skip) g)

    pub row_fits : n - skip < length rows / 8 → (n - skip) * 8 + 8 ≤ length rows
    row_fits g = omega arith

    -- ys is what the row holds, when it comes back
    pub put_there : (start end : ℕ) (ys : List ℕ) → n - skip < length rows / 8 → start ≡ (n - skip) * 8 → end ≡ start + 8
        → ys ≡ laid (row_of b) (take (end - start) (drop start rows)) → put_mid start (end - start) rows ys ≡ row_put skip n b rows
    unfolding row_put
    put_there start end ys g es ee ey =
        let low : start ≤ end = omega (arith, ee) in
        let high : end ≤ length rows = omega (arith, row_fits g) in
        let size : 8 ≡ end - start = omega (arith, ee) in
        rw (le-ltb n skip h, lt-leb (length rows / 8) (n - skip) g, ← es)
        (ap (λ (l : List ℕ). take start rows ++ (ys ++ l)) (Post-is start end rows low)
        ∙ ap (λ (l : List ℕ). take start rows ++ (l ++ drop end rows)) (ey ∙ laid_same (row_of b) (take (end - start) (drop start rows)) (size ∙ sym (mid_len start end rows high)))
        ∙ ap (λ (m : ℕ). take start rows ++ (row_of b ++ drop m rows)) ee)

-- Without as many bounds as it takes a reference names no bytes.
pub no_bounds : (c : Code) (h : Form) (f : ℕ) (s : Seen) (t : Bool) → t ≡ boundedb h s → t ≡ false → None ≡ fixed_span c h f s
unfolding fixed_span
no_bounds c h f s t et e = by h s (sym et ∙ e)
  where
    by : (x : Form) (y : Seen) → boundedb x y ≡ false → None ≡ fixed_span c x f y
    by form.First y z = absurd (true≢false z)
    by form.Subscript seen.Nothing z = refl
    by form.Subscript (seen.One y plain) z = absurd (true≢false z)
    by form.Subscript (seen.Two x y plain) z = absurd (true≢false z)
    by form.StartEnd seen.Nothing z = refl
    by form.StartEnd (seen.One y plain) z = refl
    by form.StartEnd (seen.Two x y plain) z = absurd (true≢false z)
    by form.PosLength seen.Nothing z = refl
    by form.PosLength (seen.One y plain) z = refl
    by form.PosLength (seen.Two x y plain) z = absurd (true≢false z)

-- ---- the count

pub count_more : (n : ℕ) → n < 18446744073709551615 → n + 1 ≡ count_after n
count_more n h = rw (lt-ltb n 18446744073709551615 h)

pub count_most : (n : ℕ) → 18446744073709551615 ≤ n → n ≡ count_after n
count_most n h = rw (le-ltb n 18446744073709551615 h)
