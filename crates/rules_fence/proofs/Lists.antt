-- The list of breaking references (document 01, "Fence rules"): a reference is in the list of a sound unit exactly when it stands in a statement and breaks the rule told.
--   in_exactly      of the whole list
--   in_statement    of the list of one statement
--   breaches_of_lem     the list of a unit that passes
--   stands_told     the bytes told are those that break the rule
-- Assumes nothing.
use Rattle.rules_run.specs.Spans.{span_at}
use Rattle.std.specs.Prelude.{Ok, None, Option, Some}
use Prim.Native.Nat.{ℕ, zero, suc, ◌+◌, ◌<◌, ◌≤◌}
use native.Mathlib.Omega.{arith}
use mathlib.Core.Path.{◌≡◌, refl, sym, ap, ◌∙◌, subst}
use mathlib.Core.Bool.{Bool, true, false, cond, false≢true}
use mathlib.Core.List.{List, [], ◌∷◌, ◌++◌}
use mathlib.Core.Logic.{◌↔◌, ◌⊎◌, inl, inr}
use lib.Dec.{ltb}
use lib.IntN.{ℤ}
use lib.ListN.{length, get_or}
use borrow.Author.Tests.{ltb-true, ltb-false}
use Rattle.rules_unit.specs.declared.Parts.{Parts}
use Rattle.rules_unit.specs.declared.Form.{Form}
use Rattle.rules_unit.specs.declared.Item.{Item}
use Rattle.rules_unit.specs.declared.Item.TheVariants as item
use Rattle.rules_unit.specs.declared.Use.{Use}
use Rattle.rules_unit.specs.Codes.{Code}
use Rattle.rules_unit.specs.Decode.{width_of, parts_of, code_of}
use Rattle.rules_unit.specs.Expressions.{Known, useb}
use Rattle.rules_unit.specs.Table.{uses_of}
use Rattle.rules_unit.specs.Checks.{check_of}
use Rattle.rules_unit.specs.Sound.{SoundCode, SoundUnit}
use Rattle.rules_unit.proofs.Sound.{sound_passed}
use Rattle.rules_unit.proofs.Statements.{uses_good}
use Rattle.rules_run.specs.declared.Span.{Span}
use Rattle.rules_fence.specs.declared.Breach.{Breach}
use Rattle.rules_fence.specs.declared.Breach.TheVariants as breach
use Rattle.rules_fence.specs.declared.Broken.{Broken}
use Rattle.rules_fence.specs.declared.Seen.{Seen}
use Rattle.rules_fence.specs.declared.Seen.TheVariants as seen
use Rattle.rules_fence.specs.Bounds.{seen_after, seen_in, boundedb, fixed_span}
use Rattle.rules_fence.specs.Fence.{Bounds, Names, destb}
use Rattle.rules_fence.specs.Breaches.{keepsb, reference_breach}
use Rattle.rules_fence.specs.Reasons.{NamedBreaks, RefBreaks}
use Rattle.rules_fence.specs.Listed.{broken_by, reference_broken, item_broken, broken_from, use_broken, uses_broken, broken_of, statements_broken, breaches_of, broken_in}
use Rattle.rules_fence.specs.Stands.{widths_of, Fixes, StandsIn, StandsAt, Stands, SpanAt, SpanTold, In}
use Rattle.rules_fence.proofs.Bounded.{bounds_seen, seen_bounds, unbounded}
use Rattle.rules_fence.proofs.Sorts.{known_of}
use Rattle.rules_fence.proofs.Reasons.{reference_breaks, reference_named}
use Rattle.rules_fence.proofs.First.{known_at}

-- ---- one list behind another

module _ (b : Broken) where
  in_left : (xs ys : List Broken) → In b xs → In b (xs ++ ys)
  in_left [] ys h = absurd h
  in_left (x ∷ xs) ys (inl e) = inl e
  in_left (x ∷ xs) ys (inr h) = inr (in_left xs ys h)

  in_right : (xs ys : List Broken) → In b ys → In b (xs ++ ys)
  in_right [] ys h = h
  in_right (x ∷ xs) ys h = inr (in_right xs ys h)

  in_either : (xs ys : List Broken) → In b (xs ++ ys) → In b xs ⊎ In b ys
  in_either [] ys h = inr h
  in_either (x ∷ xs) ys (inl e) = inl (inl e)
  in_either (x ∷ xs) ys (inr h) = by (in_either xs ys h)
    where
      by : In b xs ⊎ In b ys → In b (x ∷ xs) ⊎ In b ys
      by (inl k) = inl (inr k)
      by (inr k) = inr k

-- ---- an expression, of which each reference is listed by the bounds before it

module _ (c : Code) (i : ℕ) (dest : Bool) where
  -- The reference b of the items is, of which the first stands at the offset at, behind the bounds s.
  record Split (s : Seen) (at : ℕ) (is : List Item) (b : Broken) : Type 0 where
    before : List Item
    after : List Item
    h : Form
    f : ℕ
    items : is ≡ before ++ (item.Reference h f ∷ after)
    is_b : b ≡ broken_by c i (destb dest after) (seen_in c s before) (at + widths_of before) h f
    breaks : keepsb (reference_breach c (destb dest after) h f (seen_in c s before)) ≡ false

  module _ (b : Broken) where
    reference_split : (s : Seen) (at : ℕ) (h : Form) (f : ℕ) (xs : List Item) → In b (reference_broken c i (destb dest xs) s at h f) → Split s at (item.Reference h f ∷ xs) b
    unfolding seen_in widths_of
    reference_split s at h f xs = by (keepsb (reference_breach c (destb dest xs) h f s)) refl
      where
        by : (t : Bool) → keepsb (reference_breach c (destb dest xs) h f s) ≡ t → In b (cond t [] (broken_by c i (destb dest xs) s at h f ∷ [])) → Split s at (item.Reference h f ∷ xs) b
        by true e n = absurd n
        by false e (inl q) =
            let z : at + 0 ≡ at = omega arith in record { before = []; after = xs; h = h; f = f; items = refl; is_b = rw z q; breaks = e }
        by false e (inr n) = absurd n

    item_split : (s : Seen) (at : ℕ) (x : Item) (xs : List Item) → In b (item_broken c i dest s at x xs) → Split s at (x ∷ xs) b
    item_split s at (item.Number p l) xs n = absurd n
    item_split s at (item.Reference h f) xs n = reference_split s at h f xs n
    item_split s at (item.Text p l) xs n = absurd n
    item_split s at (item.Operator o) xs n = absurd n
    item_split s at item.End xs n = absurd n
    item_split s at item.Bad xs n = absurd n

    further : (s : Seen) (at : ℕ) (x : Item) (xs : List Item) → Split (seen_after c s x) (at + width_of x) xs b → Split s at (x ∷ xs) b
    unfolding seen_in widths_of
    further s at x xs r =
        let z : at + (width_of x + widths_of r.before) ≡ at + width_of x + widths_of r.before = omega arith in
        record {
          before = x ∷ r.before;
          after = r.after;
          h = r.h;
          f = r.f;
          items = ap (λ (l : List Item). x ∷ l) r.items;
          is_b = rw z r.is_b;
          breaks = r.breaks;
        }

    from_split : (s : Seen) (at : ℕ) (is : List Item) → In b (broken_from c i dest s at is) → Split s at is b
    unfolding broken_from
    from_split s at [] n = absurd n
    from_split s at (x ∷ xs) n =
        by (in_either b (item_broken c i dest s at x xs) (broken_from c i dest (seen_after c s x) (at + width_of x) xs) n) (from_split (seen_after c s x) (at + width_of x) xs)
      where
        by : In b (item_broken c i dest s at x xs) ⊎ In b (broken_from c i dest (seen_after c s x) (at + width_of x) xs)
            → (In b (broken_from c i dest (seen_after c s x) (at + width_of x) xs) → Split (seen_after c s x) (at + width_of x) xs b)
            → Split s at (x ∷ xs) b
        by (inl k) more = item_split s at x xs k
        by (inr k) more = further s at x xs (more k)

  -- ---- and back

  split_in : (s : Seen) (at : ℕ) (before after : List Item) (h : Form) (f : ℕ) → keepsb (reference_breach c (destb dest after) h f (seen_in c s before)) ≡ false
      → In (broken_by c i (destb dest after) (seen_in c s before) (at + widths_of before) h f) (broken_from c i dest s at (before ++ (item.Reference h f ∷ after)))
  unfolding broken_from seen_in widths_of
  split_in s at [] after h f e = let z : at + 0 ≡ at = omega arith in rw (e, z) (inl refl)
  split_in s at (x ∷ before) after h f e =
      let z : at + (width_of x + widths_of before) ≡ at + width_of x + widths_of before = omega arith in
      rw z
      (in_right _ (item_broken c i dest s at x (before ++ (item.Reference h f ∷ after))) _ (split_in (seen_after c s x) (at + width_of x) before after h f e))

-- ---- the span that is told

module _ (c : Code) (h : Form) (f : ℕ) (before : List Item) where
  fixed_names : Fixes c h f before (fixed_span c h f (seen_in c seen.Nothing before))
  fixed_names = by (boundedb h (seen_in c seen.Nothing before)) refl
    where
      by : (t : Bool) → boundedb h (seen_in c seen.Nothing before) ≡ t → Fixes c h f before (fixed_span c h f (seen_in c seen.Nothing before))
      by true e = let w = seen_bounds c f before h e in inl (record { x = w.x; y = w.y; bounds = w.bounds; is_span = sym w.span })
      by false e = inr (λ x y b. false≢true (sym e ∙ (bounds_seen c f h before x y b).bounded), unbounded c f h (seen_in c seen.Nothing before) e)

  names_fixed : (span : Option Span) → Fixes c h f before span → fixed_span c h f (seen_in c seen.Nothing before) ≡ span
  names_fixed span (inl w) = (bounds_seen c f h before w.x w.y w.bounds).span ∙ w.is_span
  names_fixed span (inr n) = by (boundedb h (seen_in c seen.Nothing before)) refl
    where
      by : (t : Bool) → boundedb h (seen_in c seen.Nothing before) ≡ t → fixed_span c h f (seen_in c seen.Nothing before) ≡ span
      by true e = let w = seen_bounds c f before h e in absurd (n.0 w.x w.y w.bounds)
      by false e = unbounded c f h (seen_in c seen.Nothing before) e ∙ sym n.1

  -- There is one span that is named.
  named_same : (span other : Option Span) → Names c h f before other → Fixes c h f before span → span ≡ other
  named_same span other w x = sym (names_fixed span x) ∙ names_fixed other (inl w)

  unnamed : (span : Option Span) → ((x y : ℤ) → Bounds c h before x y → ⊥) → Fixes c h f before span → span ≡ None
  unnamed span n (inl w) = absurd (n w.x w.y w.bounds)
  unnamed span n (inr q) = q.1

  told_at : (dest : Bool) (span : Option Span) (r : Breach) → NamedBreaks c dest h f before r → Fixes c h f before span → SpanAt c dest f span r
  told_at dest span r w x = record { a = w.a; n = w.n; is_span = named_same span (span_at w.a w.n) w.names x; breaks = w.breaks }

  told_by : (dest : Bool) (span : Option Span) (r : Breach) → RefBreaks c dest h f before r → Fixes c h f before span → SpanTold c dest f span r
  told_by dest span breach.None w x = w
  told_by dest span breach.BoundNotLiteral w x = unnamed span w x
  told_by dest span breach.BoundsWrong w x = named_same span None w x
  told_by dest span breach.LeavesField w x = told_at dest span breach.LeavesField w x
  told_by dest span breach.OverElements w x = told_at dest span breach.OverElements w x
  told_by dest span breach.StopsMidElement w x = told_at dest span breach.StopsMidElement w x
  told_by dest span breach.OnDecimal w x = told_at dest span breach.OnDecimal w x

  -- A rule that is broken is one of the six.
  breaks_some : (dest : Bool) (r : Breach) → RefBreaks c dest h f before r → keepsb r ≡ false
  breaks_some dest breach.None w = absurd w
  breaks_some dest breach.BoundNotLiteral w = refl
  breaks_some dest breach.BoundsWrong w = refl
  breaks_some dest breach.LeavesField w = refl
  breaks_some dest breach.OverElements w = refl
  breaks_some dest breach.StopsMidElement w = refl
  breaks_some dest breach.OnDecimal w = refl

-- The bytes told, of a reference that stands in the unit.
pub stands_told : (c : Code) (b : Broken) → Stands c b → SpanTold c b.written b.field b.span b.rule
stands_told c b r = by (get_or (uses_of c (c.statement b.statement)) r.use_number None) r.here
  where
    by : (x : Option Use) → StandsAt c x b → SpanTold c b.written b.field b.span b.rule
    by None n = absurd n
    by (Some u) t = told_by c b.form b.field t.before b.written b.span b.rule t.breaks t.fixes

-- ---- one statement of a sound unit

same_broken : (b : Broken) (i : ℕ) (r : Breach) (w : Bool) (span : Option Span) (at : ℕ) → b.statement ≡ i → b.rule ≡ r → b.written ≡ w → b.span ≡ span → b.at ≡ at
    → b ≡ record { statement = i; rule = r; written = w; field = b.field; form = b.form; span = span; at = at }
same_broken b i r w span at e₁ e₂ e₃ e₄ e₅ = rw (← e₁, ← e₂, ← e₃, ← e₄, ← e₅)

module _ (c : Code) (s : SoundCode c) (b : Broken) where
  module _ (i : ℕ) where
    expr_stands : (dest : Bool) (start : ℕ) → Known c (c.items start) → In b (broken_from c i dest seen.Nothing start (c.items start)) → (b.statement ≡ i) × StandsIn c dest start b
    expr_stands dest start k n =
        let r = from_split c i dest b seen.Nothing start (c.items start) n in
        let l = ltb-true r.f c.fields (known_at c s dest r.before (item.Reference r.h r.f) r.after (subst (Known c) r.items k)) in
        subst (λ (x : Broken). (x.statement ≡ i) × StandsIn c dest start x) (sym r.is_b) (
          refl,
          record {
            before = r.before;
            after = r.after;
            items = r.items;
            offset = refl;
            written = refl;
            breaks = reference_breaks c s (destb dest r.after) r.f l r.h r.before r.breaks;
            fixes = fixed_names c r.h r.f r.before;
          },
        )

    expr_in : (dest : Bool) (start : ℕ) → Known c (c.items start) → b.statement ≡ i → StandsIn c dest start b → In b (broken_from c i dest seen.Nothing start (c.items start))
    expr_in dest start k e r =
        let l = ltb-true b.field c.fields (known_at c s dest r.before (item.Reference b.form b.field) r.after (subst (Known c) r.items k)) in
        let q : reference_breach c (destb dest r.after) b.form b.field (seen_in c seen.Nothing r.before) ≡ b.rule =
        subst (λ (t : Bool). reference_breach c t b.form b.field (seen_in c seen.Nothing r.before) ≡ b.rule) r.written
        (reference_named c s b.written b.field l b.form r.before b.rule r.breaks) in
        let z : keepsb (reference_breach c (destb dest r.after) b.form b.field (seen_in c seen.Nothing r.before)) ≡ false =
        ap keepsb q ∙ breaks_some c b.form b.field r.before b.written b.rule r.breaks in
        let w =
        same_broken b i (reference_breach c (destb dest r.after) b.form b.field (seen_in c seen.Nothing r.before)) (destb dest r.after)
        (fixed_span c b.form b.field (seen_in c seen.Nothing r.before)) (start + widths_of r.before) e (sym q) r.written
        (sym (names_fixed c b.form b.field r.before b.span r.fixes)) r.offset in
        subst (λ (is : List Item). In b (broken_from c i dest seen.Nothing start is)) (sym r.items)
        (subst (λ (x : Broken). In x (broken_from c i dest seen.Nothing start (r.before ++ (item.Reference b.form b.field ∷ r.after)))) (sym w)
        (split_in c i dest seen.Nothing start r.before r.after b.form b.field z))

    use_stands : (x : Option Use) → useb c x ≡ true → In b (use_broken c i x) → (b.statement ≡ i) × StandsAt c x b
    use_stands None g n = absurd n
    use_stands (Some u) g n = expr_stands u.written u.at (known_of c u.want u.at g) n

    use_in : (x : Option Use) → useb c x ≡ true → b.statement ≡ i → StandsAt c x b → In b (use_broken c i x)
    use_in None g e r = absurd r
    use_in (Some u) g e r = expr_in u.written u.at (known_of c u.want u.at g) e r

    abbrev Good : List (Option Use) → Type 0
    Good us = (k : ℕ) → k < length us → useb c (get_or us k None) ≡ true

    abbrev One : List (Option Use) → Type 0
    One us = (b.statement ≡ i) × (k : ℕ) × (k < length us) × StandsAt c (get_or us k None) b

    uses_stand : (us : List (Option Use)) → Good us → In b (uses_broken c i us) → One us
    unfolding uses_broken
    uses_stand [] g n = absurd n
    uses_stand (x ∷ xs) g n = by (in_either b (use_broken c i x) (uses_broken c i xs) n) (uses_stand xs (λ k h. g (suc k) (omega arith)))
      where
        by : In b (use_broken c i x) ⊎ In b (uses_broken c i xs) → (In b (uses_broken c i xs) → One xs) → One (x ∷ xs)
        by (inl k) more = let r = use_stands x (g 0 (omega arith)) k in (r.0, 0, omega arith, r.1)
        by (inr k) more = let r = more k in (r.0, suc r.1, omega (arith, r.2), r.3)

    uses_in : (us : List (Option Use)) → Good us → b.statement ≡ i → (k : ℕ) → k < length us → StandsAt c (get_or us k None) b → In b (uses_broken c i us)
    unfolding uses_broken
    uses_in [] g e k l r = absurd (omega arith)
    uses_in (x ∷ xs) g e zero l r = in_left b (use_broken c i x) (uses_broken c i xs) (use_in x (g 0 (omega arith)) e r)
    uses_in (x ∷ xs) g e (suc k) l r = in_right b (use_broken c i x) (uses_broken c i xs) (uses_in xs (λ j h. g (suc j) (omega arith)) e k (omega arith) r)

    statement_stands : i < c.statements → In b (broken_of c i) → (b.statement ≡ i) × Stands c b
    unfolding broken_of
    statement_stands l n =
        let r = uses_stand (uses_of c (c.statement i)) (uses_good c i (s.statements i l).uses) n in
        let q =
        subst
        (λ (j : ℕ). (j < c.statements) × (k : ℕ) × (k < length (uses_of c (c.statement j))) × StandsAt c (get_or (uses_of c (c.statement j)) k None) b)
        (sym r.0) (l, r.1, r.2, r.3) in
        (r.0, record { low = q.0; use_number = q.1; used = q.2; here = q.3 })

  stands_in : Stands c b → In b (broken_of c b.statement)
  unfolding broken_of
  stands_in r =
      uses_in b.statement (uses_of c (c.statement b.statement)) (uses_good c b.statement (s.statements b.statement r.low).uses) refl r.use_number
      r.used r.here

  -- ---- all statements

  all_stand : (k i : ℕ) → i + k ≡ c.statements → In b (statements_broken c k i) → Stands c b
  unfolding statements_broken
  all_stand zero i q n = absurd n
  all_stand (suc k) i q n = by (in_either b (broken_of c i) (statements_broken c k (i + 1)) n) (all_stand k (i + 1) (omega arith))
    where
      by : In b (broken_of c i) ⊎ In b (statements_broken c k (i + 1)) → (In b (statements_broken c k (i + 1)) → Stands c b) → Stands c b
      by (inl h) more = (statement_stands i (omega arith) h).1
      by (inr h) more = more h

  in_all : In b (broken_of c b.statement) → (k i : ℕ) → i ≤ b.statement → b.statement < i + k → In b (statements_broken c k i)
  unfolding statements_broken
  in_all n zero i l h = absurd (omega arith)
  in_all n (suc k) i l h = by (ltb i b.statement) refl (in_all n k (i + 1))
    where
      by : (t : Bool) → ltb i b.statement ≡ t → (i + 1 ≤ b.statement → b.statement < i + 1 + k → In b (statements_broken c k (i + 1)))
          → In b (broken_of c i ++ statements_broken c k (i + 1))
      by true e more = in_right b (broken_of c i) (statements_broken c k (i + 1)) (more (omega (arith, ltb-true i b.statement e)) (omega arith))
      by false e more =
          let q : b.statement ≡ i = omega (arith, ltb-false i b.statement e) in
          in_left b (broken_of c i) (statements_broken c k (i + 1)) (subst (λ (j : ℕ). In b (broken_of c j)) q n)

-- ---- the unit

pub breaches_of_lem : (u : List ℕ) (p : Parts) → check_of u ≡ Ok p → breaches_of u ≡ statements_broken (code_of u p) p.n 0
unfolding breaches_of
breaches_of_lem u p e = rw e

broken_in_lem : (u : List ℕ) (p : Parts) (i : ℕ) → check_of u ≡ Ok p → broken_in u i ≡ cond (ltb i p.n) (broken_of (code_of u p) i) []
unfolding broken_in
broken_in_lem u p i e = rw e

module _ (u : List ℕ) (t : SoundUnit u (parts_of u)) (b : Broken) where
  pub in_exactly : In b (breaches_of u) ↔ Stands (code_of u (parts_of u)) b
  in_exactly =
      let c = code_of u (parts_of u) in
      rw (breaches_of_lem u (parts_of u) (sound_passed u (parts_of u) t)) (
        all_stand c t.code b (parts_of u).n 0 (omega arith),
        λ r. in_all c t.code b (stands_in c t.code b r) (parts_of u).n 0 (omega arith) (omega (arith, r.low)),
      )

  pub in_statement : (i : ℕ) → In b (broken_in u i) ↔ Stands (code_of u (parts_of u)) b × (b.statement ≡ i)
  in_statement i = rw (broken_in_lem u (parts_of u) i (sound_passed u (parts_of u) t)) (by (ltb i (parts_of u).n) refl)
    where
      by : (x : Bool) → ltb i (parts_of u).n ≡ x → In b (cond x (broken_of (code_of u (parts_of u)) i) []) ↔ Stands (code_of u (parts_of u)) b × (b.statement ≡ i)
      by true e =
          let c = code_of u (parts_of u) in (
            λ n. let r = statement_stands c t.code b i (ltb-true i (parts_of u).n e) n in (r.1, r.0),
            λ r. subst (λ (j : ℕ). In b (broken_of c j)) r.1 (stands_in c t.code b r.0),
          )
      by false e = (λ n. absurd n, λ r. omega (arith, ltb-false i (parts_of u).n e, r.0.low, r.1))
