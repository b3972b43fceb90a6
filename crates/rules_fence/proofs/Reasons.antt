-- The breach of a span and of a reference (document 01, "Fence rules"): it is named exactly when that rule is the one that breaks.
--   span_breaks, span_named             of a span
--   reference_breaks, reference_named   of a reference
-- Assumes nothing.
use Rattle.std.specs.Prelude.{None, Option, Some}
use Prim.Native.Nat.{ℕ, zero, suc, ◌+◌, ◌<◌, ◌≤◌, max}
use native.Mathlib.Omega.{arith}
use mathlib.Core.Path.{◌≡◌, refl, sym, ap, ◌∙◌}
use mathlib.Core.Bool.{Bool, true, false, cond, ◌||◌, false≢true, true≢false}
use mathlib.Core.List.{List}
use lib.Dec.{leb, eqb}
use lib.IntN.{ℤ}
use borrow.Author.Tests.{leb-true, leb-false, eqb-false, le-leb, ne_eqb}
use Rattle.rules_unit.specs.declared.Form.{Form}
use Rattle.rules_unit.specs.declared.Item.{Item}
use Rattle.rules_unit.specs.Codes.{Code, decimalb, offset_of, size_of, element_at, end_of}
use Rattle.rules_unit.specs.Sound.{SoundCode}
use Rattle.rules_unit.proofs.Fields.{some_byte}
use Rattle.rules_run.specs.declared.Span.{Span}
use Rattle.rules_run.specs.Spans.{span_of, span_at}
use Rattle.rules_run.proofs.Located.{span_some}
use Rattle.rules_fence.specs.declared.Breach.{Breach}
use Rattle.rules_fence.specs.declared.Breach.TheVariants as breach
use Rattle.rules_fence.specs.declared.Seen.TheVariants as seen
use Rattle.rules_fence.specs.Bounds.{seen_in, boundedb, fixed_span}
use Rattle.rules_fence.specs.Fence.{Bounds, Names, InElement}
use Rattle.rules_fence.specs.Breaches.{keepsb, element_breach, apart_of, apart_from, alpha_breach, span_breach, reference_breach}
use Rattle.rules_fence.specs.Reasons.{Inside, Shares, SpanBreaks, NamedBreaks, RefBreaks}
use Rattle.rules_fence.proofs.Bounded.{bounds_seen, seen_bounds}
use Rattle.rules_fence.proofs.Spans.{element_of, element_end, element_in, element_last, apart_from_lem}

module _ (c : Code) (s : SoundCode c) (a n : ℕ) (o : 1 ≤ n) where
  -- ---- one element

  module _ (f : ℕ) (h : f < c.fields) (inside : Inside c f a n) (t : decimalb c f ≡ true) where
    element_breaks : (dest : Bool) → keepsb (element_breach c dest f a n) ≡ false → SpanBreaks c dest f a n (element_breach c dest f a n)
    unfolding element_breach
    element_breaks dest = by dest (leb (a + n) (element_end c f a)) (eqb (a + n) (element_end c f a)) refl refl
      where
        by : (dest x y : Bool) → leb (a + n) (element_end c f a) ≡ x → eqb (a + n) (element_end c f a) ≡ y → let b = cond x (cond dest (cond y breach.None breach.StopsMidElement) breach.None) breach.OverElements in keepsb b ≡ false → SpanBreaks c dest f a n b
        by dest false y p q e =
            let over = leb-false (a + n) (element_end c f a) p in
            (inside, t, λ k i. omega (arith, over, element_last c s a n o f h inside.0 inside.1 false k i, i.to))
        by true true true p q e = absurd (true≢false e)
        by true true false p q e =
            let below = leb-true (a + n) (element_end c f a) p in
            let other = eqb-false (a + n) (element_end c f a) q in
            (inside, t, refl, element_of c f a, element_in c s a n o f h inside.0 inside.1 false below (λ z. absurd (false≢true z)), omega arith)
        by false true y p q e = absurd (true≢false e)

    over_named : (dest : Bool) → ((k : ℕ) → InElement c false f a n k → ⊥) → element_breach c dest f a n ≡ breach.OverElements
    unfolding element_breach
    over_named dest none = by (leb (a + n) (element_end c f a)) refl
      where
        by : (x : Bool) → leb (a + n) (element_end c f a) ≡ x
            → cond x (cond dest (cond (eqb (a + n) (element_end c f a)) breach.None breach.StopsMidElement) breach.None) breach.OverElements ≡ breach.OverElements
        by true p = absurd (none (element_of c f a) (element_in c s a n o f h inside.0 inside.1 false (leb-true (a + n) (element_end c f a) p) (λ z. absurd (false≢true z))))
        by false p = refl

    mid_named : (k : ℕ) → InElement c false f a n k → a + n < element_at c f k + size_of c f → element_breach c true f a n ≡ breach.StopsMidElement
    unfolding element_breach
    mid_named k i l =
        let e = element_last c s a n o f h inside.0 inside.1 false k i in
        rw (le-leb (a + n) (element_end c f a) (omega arith), ne_eqb (a + n) (element_end c f a) (λ z. omega arith))

  -- ---- decimal fields

  shares_of : (g : ℕ) → g < c.fields → apart_of (c.field g) a n ≡ false → Shares c a n
  shares_of g h = by (decimalb c g) (leb (a + n) (offset_of c g)) (leb (end_of c g) a) refl refl refl
    where
      full : offset_of c g < end_of c g
      full = some_byte c g (s.entries g h).own

      by : (i j k : Bool) → decimalb c g ≡ i → leb (a + n) (offset_of c g) ≡ j → leb (end_of c g) a ≡ k → cond i (j || k) true ≡ false → Shares c a n
      by false j k q l m e = absurd (true≢false e)
      by true true k q l m e = absurd (true≢false e)
      by true false true q l m e = absurd (true≢false e)
      by true false false q l m e =
          let x = leb-false (a + n) (offset_of c g) l in
          let y = leb-false (end_of c g) a m in
          record {
            field = g;
            byte = max a (offset_of c g);
            low = h;
            decimal = q;
            from = omega arith;
            to = omega arith;
            starts = omega arith;
            ends = omega (arith, full);
          }

  shares_from : (k g : ℕ) → g + k ≡ c.fields → apart_from c a n k g ≡ false → Shares c a n
  unfolding apart_from
  shares_from zero g q e = absurd (true≢false e)
  shares_from (suc k) g q e = by (apart_of (c.field g) a n) refl (shares_from k (g + 1) (omega arith)) e
    where
      by : (t : Bool) → apart_of (c.field g) a n ≡ t → (apart_from c a n k (g + 1) ≡ false → Shares c a n) → cond t (apart_from c a n k (g + 1)) false ≡ false → Shares c a n
      by true p more e = more e
      by false p more e = shares_of g (omega arith) p

  alpha_breaks : (dest : Bool) (f : ℕ) → Inside c f a n → decimalb c f ≡ false → keepsb (alpha_breach c dest a n) ≡ false → SpanBreaks c dest f a n (alpha_breach c dest a n)
  unfolding alpha_breach
  alpha_breaks dest f inside t = by dest (apart_from c a n c.fields 0) refl
    where
      by : (dest x : Bool) → apart_from c a n c.fields 0 ≡ x → let b = cond dest (cond x breach.None breach.OnDecimal) breach.None in keepsb b ≡ false → SpanBreaks c dest f a n b
      by true true p e = absurd (true≢false e)
      by true false p e = (inside, t, refl, shares_from c.fields 0 (omega arith) p)
      by false x p e = absurd (true≢false e)

  shared_named : Shares c a n → alpha_breach c true a n ≡ breach.OnDecimal
  unfolding alpha_breach
  shared_named r = by (apart_from c a n c.fields 0) refl
    where
      by : (x : Bool) → apart_from c a n c.fields 0 ≡ x → cond x breach.None breach.OnDecimal ≡ breach.OnDecimal
      by true p = absurd ((apart_from_lem c s a n o c.fields 0 (omega arith)).to p r.field (omega arith) r.low r.decimal r.byte r.from r.to r.starts r.ends)
      by false p = refl

  -- ---- the span

  module _ (dest : Bool) (f : ℕ) (h : f < c.fields) where
    pub span_breaks : keepsb (span_breach c dest f (span_at a n)) ≡ false → SpanBreaks c dest f a n (span_breach c dest f (span_at a n))
    span_breaks = by (leb (offset_of c f) a) (leb (a + n) (end_of c f)) (decimalb c f) refl refl refl
      where
        by : (x y z : Bool) → leb (offset_of c f) a ≡ x → leb (a + n) (end_of c f) ≡ y → decimalb c f ≡ z
            → let b = cond x (cond y (cond z (element_breach c dest f a n) (alpha_breach c dest a n)) breach.LeavesField) breach.LeavesField in keepsb b ≡ false → SpanBreaks c dest f a n b
        by true true true p q t e = element_breaks f h (leb-true (offset_of c f) a p, leb-true (a + n) (end_of c f) q) t dest e
        by true true false p q t e = alpha_breaks dest f (leb-true (offset_of c f) a p, leb-true (a + n) (end_of c f) q) t e
        by true false z p q t e = λ i. omega (arith, leb-false (a + n) (end_of c f) q, i.1)
        by false y z p q t e = λ i. omega (arith, leb-false (offset_of c f) a p, i.0)

    inside_named : Inside c f a n → span_breach c dest f (span_at a n) ≡ cond (decimalb c f) (element_breach c dest f a n) (alpha_breach c dest a n)
    inside_named i = rw (le-leb (offset_of c f) a i.0, le-leb (a + n) (end_of c f) i.1)

    leaves_named : (Inside c f a n → ⊥) → span_breach c dest f (span_at a n) ≡ breach.LeavesField
    leaves_named out = by (leb (offset_of c f) a) (leb (a + n) (end_of c f)) refl refl
      where
        by : (x y : Bool) → leb (offset_of c f) a ≡ x → leb (a + n) (end_of c f) ≡ y
            → cond x (cond y (cond (decimalb c f) (element_breach c dest f a n) (alpha_breach c dest a n)) breach.LeavesField) breach.LeavesField ≡ breach.LeavesField
        by true true p q = absurd (out (leb-true (offset_of c f) a p, leb-true (a + n) (end_of c f) q))
        by true false p q = refl
        by false y p q = refl

    pub span_named : (b : Breach) → SpanBreaks c dest f a n b → span_breach c dest f (span_at a n) ≡ b
    span_named breach.None r = absurd r
    span_named breach.BoundNotLiteral r = absurd r
    span_named breach.BoundsWrong r = absurd r
    span_named breach.LeavesField r = leaves_named r
    span_named breach.OverElements r = inside_named r.0 ∙ rw r.1 (over_named f h r.0 r.1 dest r.2)
    span_named breach.StopsMidElement r = inside_named r.0 ∙ rw (r.1, r.2) (mid_named f h r.0 r.1 r.3 r.4 r.5)
    span_named breach.OnDecimal r = inside_named r.0 ∙ rw (r.1, r.2) (shared_named r.3)

-- ---- a reference

module _ (c : Code) (s : SoundCode c) (dest : Bool) (f : ℕ) (l : f < c.fields) (h : Form) (before : List Item) where
  some : (x y : ℤ) (a n : ℕ) → span_of c.size (c.field f) h x y ≡ span_at a n → 1 ≤ n
  some x y a n e = span_some c.size (c.field f) h x y (s.entries f l).own.some e

  named_breaks : (a n : ℕ) (b : Breach) → Names c h f before (span_at a n) → SpanBreaks c dest f a n b → RefBreaks c dest h f before b
  named_breaks a n breach.None w r = r
  named_breaks a n breach.BoundNotLiteral w r = absurd r
  named_breaks a n breach.BoundsWrong w r = absurd r
  named_breaks a n breach.LeavesField w r = record { a = a; n = n; names = w; breaks = r }
  named_breaks a n breach.OverElements w r = record { a = a; n = n; names = w; breaks = r }
  named_breaks a n breach.StopsMidElement w r = record { a = a; n = n; names = w; breaks = r }
  named_breaks a n breach.OnDecimal w r = record { a = a; n = n; names = w; breaks = r }

  by_span : (span : Option Span) → Names c h f before span → keepsb (span_breach c dest f span) ≡ false → RefBreaks c dest h f before (span_breach c dest f span)
  by_span (Some z) w e = named_breaks z.start z.len (span_breach c dest f (span_at z.start z.len)) w (span_breaks c s z.start z.len (some w.x w.y z.start z.len w.is_span) dest f l e)
  by_span None w e = w

  pub reference_breaks : let b = reference_breach c dest h f (seen_in c seen.Nothing before) in keepsb b ≡ false → RefBreaks c dest h f before b
  unfolding reference_breach
  reference_breaks = by (boundedb h (seen_in c seen.Nothing before)) refl
    where
      by : (t : Bool) → boundedb h (seen_in c seen.Nothing before) ≡ t
          → let b = cond t (span_breach c dest f (fixed_span c h f (seen_in c seen.Nothing before))) breach.BoundNotLiteral in keepsb b ≡ false → RefBreaks c dest h f before b
      by true p e =
          let w = seen_bounds c f before h p in
          by_span (fixed_span c h f (seen_in c seen.Nothing before)) (record { x = w.x; y = w.y; bounds = w.bounds; is_span = sym w.span }) e
      by false p e = λ x y b. false≢true (sym p ∙ (bounds_seen c f h before x y b).bounded)

  -- Bounds that name a span, as the tests hold them.
  names_named : (span : Option Span) → Names c h f before span → reference_breach c dest h f (seen_in c seen.Nothing before) ≡ span_breach c dest f span
  unfolding reference_breach
  names_named span w =
      let q = bounds_seen c f h before w.x w.y w.bounds in
      rw q.bounded (ap (span_breach c dest f) (q.span ∙ w.is_span))

  span_is : (b : Breach) → NamedBreaks c dest h f before b → reference_breach c dest h f (seen_in c seen.Nothing before) ≡ b
  span_is b r =
      names_named (span_at r.a r.n) r.names
      ∙ span_named c s r.a r.n (some r.names.x r.names.y r.a r.n r.names.is_span) dest f l b r.breaks

  unbounded : ((x y : ℤ) → Bounds c h before x y → ⊥) → reference_breach c dest h f (seen_in c seen.Nothing before) ≡ breach.BoundNotLiteral
  unfolding reference_breach
  unbounded none = by (boundedb h (seen_in c seen.Nothing before)) refl
    where
      by : (t : Bool) → boundedb h (seen_in c seen.Nothing before) ≡ t
          → cond t (span_breach c dest f (fixed_span c h f (seen_in c seen.Nothing before))) breach.BoundNotLiteral ≡ breach.BoundNotLiteral
      by true p = let w = seen_bounds c f before h p in absurd (none w.x w.y w.bounds)
      by false p = refl

  pub reference_named : (b : Breach) → RefBreaks c dest h f before b → reference_breach c dest h f (seen_in c seen.Nothing before) ≡ b
  reference_named breach.None r = absurd r
  reference_named breach.BoundNotLiteral r = unbounded r
  reference_named breach.BoundsWrong r = names_named None r
  reference_named breach.LeavesField r = span_is breach.LeavesField r
  reference_named breach.OverElements r = span_is breach.OverElements r
  reference_named breach.StopsMidElement r = span_is breach.StopsMidElement r
  reference_named breach.OnDecimal r = span_is breach.OnDecimal r
