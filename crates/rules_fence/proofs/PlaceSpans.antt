-- The span that a place names, as the check goes through its items (document 01, "Fence rules").
--   place_span c is     that span, by the bounds held before the last item; none where the place names none
--   use_span c x        the span of a use that is written
--   names_span, span_names    it is the one that the statement with quantifiers names
-- Assumes nothing.
use Rattle.std.specs.Prelude.{None, Option, Some}
use Prim.Native.Nat.{ℕ}
use mathlib.Core.Path.{◌≡◌, refl, sym, ◌∙◌, subst}
use mathlib.Core.Bool.{Bool, true, false, cond}
use mathlib.Core.List.{List, [], ◌∷◌, ◌++◌, append_assoc}
use Rattle.rules_unit.specs.declared.Form.{Form}
use Rattle.rules_unit.specs.declared.Item.{Item}
use Rattle.rules_unit.specs.declared.Item.TheVariants as item
use Rattle.rules_unit.specs.declared.Use.{Use}
use Rattle.rules_unit.specs.Codes.{Code}
use Rattle.rules_run.specs.declared.Span.{Span}
use Rattle.rules_fence.specs.declared.Seen.{Seen}
use Rattle.rules_fence.specs.declared.Seen.TheVariants as seen
use Rattle.rules_fence.specs.Bounds.{seen_after, seen_in, boundedb, fixed_span}
use Rattle.rules_fence.specs.Destinations.{PlaceNames, Writes, Covers}
use Rattle.rules_fence.proofs.Bounded.{seen_along, bounds_seen, seen_bounds, unbounded}

-- A last reference, where the bounds s stand before it.
abbrev pub last_span : Code → Seen → Item → Option Span
last_span c s (item.Number place len) = None
last_span c s (item.Reference h field) = fixed_span c h field s
last_span c s (item.Text place len) = None
last_span c s (item.Operator o) = None
last_span c s item.End = None
last_span c s item.Bad = None

-- "A *place* ends with a reference": the item i and those after it.
unfoldable pub span_from : Code → Seen → Item → List Item → Option Span
span_from c s i [] = last_span c s i
span_from c s i (j ∷ is) = span_from c (seen_after c s i) j is

unfoldable pub place_span : Code → List Item → Option Span
place_span c [] = None
place_span c (i ∷ is) = span_from c seen.Nothing i is

-- None for a use that is read.
abbrev pub use_span : Code → Option Use → Option Span
use_span c None = None
use_span c (Some u) = cond u.written (place_span c (c.items u.at)) None

module _ (c : Code) where
  -- ---- the span named is that of the place

  module _ (h : Form) (f : ℕ) where
    from_last : (s : Seen) (i : Item) (b : List Item) → span_from c s i (b ++ (item.Reference h f ∷ [])) ≡ fixed_span c h f (seen_in c (seen_after c s i) b)
    unfolding span_from seen_in
    from_last s i [] = refl
    from_last s i (j ∷ b) = from_last (seen_after c s i) j b

    last_span_lem : (before : List Item) → place_span c (before ++ (item.Reference h f ∷ [])) ≡ fixed_span c h f (seen_in c seen.Nothing before)
    unfolding place_span span_from seen_in
    last_span_lem [] = refl
    last_span_lem (i ∷ b) = from_last seen.Nothing i b

  pub names_span : (is : List Item) (span : Option Span) → PlaceNames c is span → place_span c is ≡ span
  names_span is span r =
      let w = r.names in
      rw r.items
      (last_span_lem r.h r.f r.before ∙ (bounds_seen c r.f r.h r.before w.x w.y w.bounds).span ∙ w.is_span)

  -- ---- and back

  module _ (b : ℕ) where
    last_names : (h : Form) (f : ℕ) (done : List Item) → Covers (fixed_span c h f (seen_in c seen.Nothing done)) b
        → PlaceNames c (done ++ (item.Reference h f ∷ [])) (fixed_span c h f (seen_in c seen.Nothing done))
    last_names h f done v = by (boundedb h (seen_in c seen.Nothing done)) refl
      where
        by : (t : Bool) → boundedb h (seen_in c seen.Nothing done) ≡ t → PlaceNames c (done ++ (item.Reference h f ∷ [])) (fixed_span c h f (seen_in c seen.Nothing done))
        by true e =
            let w = seen_bounds c f done h e in
            record { before = done; h = h; f = f; items = refl; names = record { x = w.x; y = w.y; bounds = w.bounds; is_span = sym w.span } }
        by false e = absurd (subst (λ (x : Option Span). Covers x b) (unbounded c f h (seen_in c seen.Nothing done) e) v)

    item_names : (i : Item) (done : List Item) → Covers (last_span c (seen_in c seen.Nothing done) i) b
        → PlaceNames c (done ++ (i ∷ [])) (last_span c (seen_in c seen.Nothing done) i)
    item_names (item.Number p l) done v = absurd v
    item_names (item.Reference h f) done v = last_names h f done v
    item_names (item.Text p l) done v = absurd v
    item_names (item.Operator o) done v = absurd v
    item_names item.End done v = absurd v
    item_names item.Bad done v = absurd v

    from_names : (done : List Item) (i : Item) (is : List Item) → Covers (span_from c (seen_in c seen.Nothing done) i is) b
        → PlaceNames c (done ++ (i ∷ is)) (span_from c (seen_in c seen.Nothing done) i is)
    unfolding span_from seen_in
    from_names done i [] v = item_names i done v
    from_names done i (j ∷ is) v =
        let e = seen_along c seen.Nothing done (i ∷ []) in
        subst (λ (l : List Item). PlaceNames c l (span_from c (seen_after c (seen_in c seen.Nothing done) i) j is)) (append_assoc done (i ∷ []) (j ∷ is))
        (subst (λ (s : Seen). PlaceNames c ((done ++ (i ∷ [])) ++ (j ∷ is)) (span_from c s j is)) e
        (from_names (done ++ (i ∷ [])) j is (subst (λ (s : Seen). Covers (span_from c s j is) b) (sym e) v)))

    pub span_names : (is : List Item) → Covers (place_span c is) b → PlaceNames c is (place_span c is)
    unfolding place_span seen_in
    span_names [] v = absurd v
    span_names (i ∷ is) v = from_names [] i is v

    -- ---- uses

    pub use_writes : (x : Option Use) → Covers (use_span c x) b → Writes c x (use_span c x)
    use_writes None v = absurd v
    use_writes (Some u) v = by u.written refl v
      where
        by : (t : Bool) → u.written ≡ t → Covers (cond t (place_span c (c.items u.at)) None) b → Writes c (Some u) (cond t (place_span c (c.items u.at)) None)
        by true e v = (e, span_names (c.items u.at) v)
        by false e v = absurd v
