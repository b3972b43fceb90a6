-- The bounds of a reference (document 01, "Fence rules"): the statement with quantifiers, and what is held on the way through the items, say the same.
--   bounds_seen      bounds that stand directly before are held, and fix the span that the statement names
--   seen_bounds      what is held stands directly before
--   fenced_fixed, fixed_fenced   so a reference keeps the rules exactly when its fixed span does
-- Assumes nothing.
use Rattle.std.specs.Prelude.{Result, Err, Ok, None}
use Rattle.rules.specs.declared.Fault.{Fault}
use Prim.Native.Nat.{ℕ}
use mathlib.Core.Path.{◌≡◌, refl, sym, ap, ◌∙◌, subst}
use mathlib.Core.Bool.{Bool, true, false, cond, false≢true, true≢false}
use mathlib.Core.List.{List, [], ◌∷◌, ◌++◌, append_assoc, append-nil}
use mathlib.Core.Logic.{inl, inr}
use lib.IntN.{ℤ, pos, neg_ℤ}
use Rattle.rules_unit.specs.declared.Form.{Form}
use Rattle.rules_unit.specs.declared.Form.TheVariants as form
use Rattle.rules_unit.specs.declared.Op.{Op}
use Rattle.rules_unit.specs.declared.Op.TheVariants as op
use Rattle.rules_unit.specs.declared.Item.{Item}
use Rattle.rules_unit.specs.declared.Item.TheVariants as item
use Rattle.rules_unit.specs.Codes.{Code}
use Rattle.rules_run.specs.Spans.{span_of}
use Rattle.rules_run.specs.Evaluation.{literal_number}
use Rattle.rules_fence.specs.declared.Seen.{Seen}
use Rattle.rules_fence.specs.declared.Seen.TheVariants as seen
use Rattle.rules_fence.specs.Bounds.{is_negate, seen_number, seen_negate, seen_after, seen_in, boundedb, fixed_span}
use Rattle.rules_fence.specs.Fence.{Literal, Negated, Bound, OneBound, TwoBounds, Bounds, SpanKept, RefFenced}

pub negate_is : (o : Op) → is_negate o ≡ true → o ≡ op.Negate
negate_is op.Add e = absurd (false≢true e)
negate_is op.Subtract e = absurd (false≢true e)
negate_is op.Multiply e = absurd (false≢true e)
negate_is op.Divide e = absurd (false≢true e)
negate_is op.Round e = absurd (false≢true e)
negate_is op.Negate e = refl
negate_is op.Eq e = absurd (false≢true e)
negate_is op.Ne e = absurd (false≢true e)
negate_is op.Gt e = absurd (false≢true e)
negate_is op.Lt e = absurd (false≢true e)
negate_is op.Ge e = absurd (false≢true e)
negate_is op.Le e = absurd (false≢true e)
negate_is op.Not e = absurd (false≢true e)
negate_is op.And e = absurd (false≢true e)
negate_is op.Or e = absurd (false≢true e)
negate_is op.Xor e = absurd (false≢true e)

module _ (c : Code) where
  pub seen_along : (s : Seen) (a b : List Item) → seen_in c s (a ++ b) ≡ seen_in c (seen_in c s a) b
  unfolding seen_in
  seen_along s [] b = refl
  seen_along s (i ∷ a) b = seen_along (seen_after c s i) a b

  -- ---- bounds that stand directly before are held

  -- The last bound held is x; the last two are x and y.
  abbrev LastIs : Seen → ℤ → Type 0
  LastIs seen.Nothing x = ⊥
  LastIs (seen.One z plain) x = z ≡ x
  LastIs (seen.Two w z plain) x = z ≡ x

  abbrev BothAre : Seen → ℤ → ℤ → Type 0
  BothAre seen.Nothing x y = ⊥
  BothAre (seen.One z plain) x y = ⊥
  BothAre (seen.Two w z plain) x y = (w ≡ x) × (z ≡ y)

  literal_last : (s : Seen) (v : ℤ) → LastIs (seen_number (Ok v) s) v
  literal_last seen.Nothing v = refl
  literal_last (seen.One z plain) v = refl
  literal_last (seen.Two w z plain) v = refl

  negated_last : (s : Seen) (v : ℤ) → LastIs (seen_negate (seen_number (Ok v) s)) (neg_ℤ v)
  negated_last seen.Nothing v = refl
  negated_last (seen.One z plain) v = refl
  negated_last (seen.Two w z plain) v = refl

  literal_both : (s : Seen) (x v : ℤ) → LastIs s x → BothAre (seen_number (Ok v) s) x v
  literal_both seen.Nothing x v h = absurd h
  literal_both (seen.One z plain) x v h = (h, refl)
  literal_both (seen.Two w z plain) x v h = (h, refl)

  negated_both : (s : Seen) (x v : ℤ) → LastIs s x → BothAre (seen_negate (seen_number (Ok v) s)) x (neg_ℤ v)
  negated_both seen.Nothing x v h = absurd h
  negated_both (seen.One z plain) x v h = (h, refl)
  negated_both (seen.Two w z plain) x v h = (h, refl)

  bound_last : (s : Seen) (is : List Item) (v : ℤ) → Bound c is v → LastIs (seen_in c s is) v
  unfolding seen_in
  bound_last s is v (inl b) = rw (b.items, b.value) (literal_last s v)
  bound_last s is v (inr b) = rw (b.items, b.value) (subst (LastIs (seen_negate (seen_number (Ok b.magnitude) s))) b.sign (negated_last s b.magnitude))

  bound_both : (s : Seen) (is : List Item) (x v : ℤ) → LastIs s x → Bound c is v → BothAre (seen_in c s is) x v
  unfolding seen_in
  bound_both s is x v h (inl b) = rw (b.items, b.value) (literal_both s x v h)
  bound_both s is x v h (inr b) = rw (b.items, b.value) (subst (BothAre (seen_negate (seen_number (Ok b.magnitude) s)) x) b.sign (negated_both s x b.magnitude h))

  one_last : (before : List Item) (x : ℤ) → OneBound c before x → LastIs (seen_in c seen.Nothing before) x
  one_last before x b =
      rw (b.items, seen_along seen.Nothing b.rest b.bound) (bound_last (seen_in c seen.Nothing b.rest) b.bound x b.is_bound)

  two_both : (before : List Item) (x y : ℤ) → TwoBounds c before x y → BothAre (seen_in c seen.Nothing before) x y
  two_both before x y b =
      rw (b.items, seen_along seen.Nothing b.rest (b.first ++ b.last), seen_along (seen_in c seen.Nothing b.rest) b.first b.last)
      (bound_both (seen_in c (seen_in c seen.Nothing b.rest) b.first) b.last x y (bound_last (seen_in c seen.Nothing b.rest) b.first x b.is_first) b.is_last)

  -- The reference has its bounds, and its fixed span is the one that they name.
  pub record Fixed (h : Form) (f : ℕ) (s : Seen) (x y : ℤ) : Type 0 where
    pub bounded : boundedb h s ≡ true
    pub span : fixed_span c h f s ≡ span_of c.size (c.field f) h x y

  module _ (f : ℕ) where
    fixed_one : (s : Seen) (x y : ℤ) → LastIs s x → y ≡ pos 0 → Fixed form.Subscript f s x y
    unfolding fixed_span
    fixed_one seen.Nothing x y h e = absurd h
    fixed_one (seen.One z plain) x y h e = record { bounded = refl; span = rw (h, e) }
    fixed_one (seen.Two w z plain) x y h e = record { bounded = refl; span = rw (h, e) }

    fixed_range : (s : Seen) (x y : ℤ) → BothAre s x y → Fixed form.StartEnd f s x y
    unfolding fixed_span
    fixed_range seen.Nothing x y h = absurd h
    fixed_range (seen.One z plain) x y h = absurd h
    fixed_range (seen.Two w z plain) x y h = record { bounded = refl; span = rw (h.0, h.1) }

    fixed_length : (s : Seen) (x y : ℤ) → BothAre s x y → Fixed form.PosLength f s x y
    unfolding fixed_span
    fixed_length seen.Nothing x y h = absurd h
    fixed_length (seen.One z plain) x y h = absurd h
    fixed_length (seen.Two w z plain) x y h = record { bounded = refl; span = rw (h.0, h.1) }

    pub bounds_seen : (h : Form) (before : List Item) (x y : ℤ) → Bounds c h before x y → Fixed h f (seen_in c seen.Nothing before) x y
    unfolding fixed_span
    bounds_seen form.First before x y b = record { bounded = refl; span = rw (b.0, b.1) }
    bounds_seen form.Subscript before x y b = fixed_one (seen_in c seen.Nothing before) x y (one_last before x b.0) b.1
    bounds_seen form.StartEnd before x y b = fixed_range (seen_in c seen.Nothing before) x y (two_both before x y b)
    bounds_seen form.PosLength before x y b = fixed_length (seen_in c seen.Nothing before) x y (two_both before x y b)

  -- ---- what is held stands directly before

  -- A bound, and whether it is a literal that is not negated.
  abbrev Plain : Bool → List Item → ℤ → Type 0
  Plain true is v = Literal c is v
  Plain false is v = Negated c is v

  plain_bound : (plain : Bool) (is : List Item) (v : ℤ) → Plain plain is v → Bound c is v
  plain_bound true is v b = inl b
  plain_bound false is v b = inr b

  record LastShown (is : List Item) (y : ℤ) (plain : Bool) : Type 0 where
    rest : List Item
    last : List Item
    items : is ≡ rest ++ last
    is_last : Plain plain last y

  record BothShown (is : List Item) (x y : ℤ) (plain : Bool) : Type 0 where
    rest : List Item
    first : List Item
    last : List Item
    items : is ≡ rest ++ (first ++ last)
    is_first : Bound c first x
    is_last : Plain plain last y

  abbrev Shown : Seen → List Item → Type 0
  Shown seen.Nothing is = Unit {0}
  Shown (seen.One y plain) is = LastShown is y plain
  Shown (seen.Two x y plain) is = BothShown is x y plain

  module _ (is : List Item) where
    shown_number : (s : Seen) (p l : ℕ) (v : ℤ) → literal_number c p l ≡ Ok v → Shown s is → Shown (seen_number (Ok v) s) (is ++ (item.Number p l ∷ []))
    shown_number seen.Nothing p l v e h =
        record { rest = is; last = item.Number p l ∷ []; items = refl; is_last = record { place = p; len = l; items = refl; value = e } }
    shown_number (seen.One y plain) p l v e h =
        record {
          rest = h.rest;
          first = h.last;
          last = item.Number p l ∷ [];
          items = ap (λ (a : List Item). a ++ (item.Number p l ∷ [])) h.items ∙ append_assoc h.rest h.last (item.Number p l ∷ []);
          is_first = plain_bound plain h.last y h.is_last;
          is_last = record { place = p; len = l; items = refl; value = e };
        }
    shown_number (seen.Two x y plain) p l v e h =
        record {
          rest = h.rest ++ h.first;
          first = h.last;
          last = item.Number p l ∷ [];
          items =
              ap (λ (a : List Item). a ++ (item.Number p l ∷ [])) (h.items ∙ sym (append_assoc h.rest h.first h.last))
              ∙ append_assoc (h.rest ++ h.first) h.last (item.Number p l ∷ []);
          is_first = plain_bound plain h.last y h.is_last;
          is_last = record { place = p; len = l; items = refl; value = e };
        }

    shown_negate : (s : Seen) → Shown s is → Shown (seen_negate s) (is ++ (item.Operator op.Negate ∷ []))
    shown_negate seen.Nothing h = tt
    shown_negate (seen.One y true) h =
        let b = h.is_last in
        record {
          rest = h.rest;
          last = h.last ++ (item.Operator op.Negate ∷ []);
          items = ap (λ (a : List Item). a ++ (item.Operator op.Negate ∷ [])) h.items ∙ append_assoc h.rest h.last (item.Operator op.Negate ∷ []);
          is_last = record { place = b.place; len = b.len; magnitude = y; items = rw b.items; value = b.value; sign = refl };
        }
    shown_negate (seen.One y false) h = tt
    shown_negate (seen.Two x y true) h =
        let b = h.is_last in
        record {
          rest = h.rest;
          first = h.first;
          last = h.last ++ (item.Operator op.Negate ∷ []);
          items =
              ap (λ (a : List Item). a ++ (item.Operator op.Negate ∷ [])) h.items
              ∙ append_assoc h.rest (h.first ++ h.last) (item.Operator op.Negate ∷ [])
              ∙ ap (λ (a : List Item). h.rest ++ a) (append_assoc h.first h.last (item.Operator op.Negate ∷ []));
          is_first = h.is_first;
          is_last = record { place = b.place; len = b.len; magnitude = y; items = rw b.items; value = b.value; sign = refl };
        }
    shown_negate (seen.Two x y false) h = tt

    shown_literal : (s : Seen) (p l : ℕ) (v : Result ℤ Fault) → literal_number c p l ≡ v → Shown s is → Shown (seen_number v s) (is ++ (item.Number p l ∷ []))
    shown_literal s p l (Err e) q h = tt
    shown_literal s p l (Ok v) q h = shown_number s p l v q h

    shown_operator : (s : Seen) (o : Op) (t : Bool) → is_negate o ≡ t → Shown s is → Shown (cond t (seen_negate s) seen.Nothing) (is ++ (item.Operator o ∷ []))
    shown_operator s o true e h = rw (negate_is o e) (shown_negate s h)
    shown_operator s o false e h = tt

    shown_after : (s : Seen) (i : Item) → Shown s is → Shown (seen_after c s i) (is ++ (i ∷ []))
    shown_after s (item.Number p l) h = shown_literal s p l (literal_number c p l) refl h
    shown_after s (item.Reference k f) h = tt
    shown_after s (item.Text p l) h = tt
    shown_after s (item.Operator o) h = shown_operator s o (is_negate o) refl h
    shown_after s item.End h = tt
    shown_after s item.Bad h = tt

  shown_in : (s : Seen) (done is : List Item) → Shown s done → Shown (seen_in c s is) (done ++ is)
  unfolding seen_in
  shown_in s done [] h = rw (append-nil done) h
  shown_in s done (i ∷ is) h = rw (← append_assoc done (i ∷ []) is) (shown_in (seen_after c s i) (done ++ (i ∷ [])) is (shown_after done s i h))

  pub record Seeing (h : Form) (f : ℕ) (before : List Item) (s : Seen) : Type 0 where
    pub x : ℤ
    pub y : ℤ
    pub bounds : Bounds c h before x y
    pub span : fixed_span c h f s ≡ span_of c.size (c.field f) h x y

  module _ (f : ℕ) (before : List Item) where
    one_shown : (y : ℤ) (plain : Bool) → LastShown before y plain → OneBound c before y
    one_shown y plain h = record { rest = h.rest; bound = h.last; items = h.items; is_bound = plain_bound plain h.last y h.is_last }

    -- Of two bounds that are held, 03 takes the last.
    last_shown : (x y : ℤ) (plain : Bool) → BothShown before x y plain → OneBound c before y
    last_shown x y plain h =
        record {
          rest = h.rest ++ h.first;
          bound = h.last;
          items = h.items ∙ sym (append_assoc h.rest h.first h.last);
          is_bound = plain_bound plain h.last y h.is_last;
        }

    two_shown : (x y : ℤ) (plain : Bool) → BothShown before x y plain → TwoBounds c before x y
    two_shown x y plain h =
        record { rest = h.rest; first = h.first; last = h.last; items = h.items; is_first = h.is_first; is_last = plain_bound plain h.last y h.is_last }

    by_seen : (h : Form) (s : Seen) → Shown s before → boundedb h s ≡ true → Seeing h f before s
    unfolding fixed_span
    by_seen form.First s w e = record { x = pos 0; y = pos 0; bounds = (refl, refl); span = refl }
    by_seen form.Subscript seen.Nothing w e = absurd (false≢true e)
    by_seen form.Subscript (seen.One y plain) w e = record { x = y; y = pos 0; bounds = (one_shown y plain w, refl); span = refl }
    by_seen form.Subscript (seen.Two x y plain) w e = record { x = y; y = pos 0; bounds = (last_shown x y plain w, refl); span = refl }
    by_seen form.StartEnd seen.Nothing w e = absurd (false≢true e)
    by_seen form.StartEnd (seen.One y plain) w e = absurd (false≢true e)
    by_seen form.StartEnd (seen.Two x y plain) w e = record { x = x; y = y; bounds = two_shown x y plain w; span = refl }
    by_seen form.PosLength seen.Nothing w e = absurd (false≢true e)
    by_seen form.PosLength (seen.One y plain) w e = absurd (false≢true e)
    by_seen form.PosLength (seen.Two x y plain) w e = record { x = x; y = y; bounds = two_shown x y plain w; span = refl }

    pub seen_bounds : (h : Form) → boundedb h (seen_in c seen.Nothing before) ≡ true → Seeing h f before (seen_in c seen.Nothing before)
    seen_bounds h e = by_seen h (seen_in c seen.Nothing before) (shown_in seen.Nothing [] before tt) e

  -- ---- a reference

  pub unbounded : (f : ℕ) (h : Form) (s : Seen) → boundedb h s ≡ false → fixed_span c h f s ≡ None
  unfolding fixed_span
  unbounded f form.First s e = absurd (true≢false e)
  unbounded f form.Subscript seen.Nothing e = refl
  unbounded f form.Subscript (seen.One y plain) e = absurd (true≢false e)
  unbounded f form.Subscript (seen.Two x y plain) e = absurd (true≢false e)
  unbounded f form.StartEnd seen.Nothing e = refl
  unbounded f form.StartEnd (seen.One y plain) e = refl
  unbounded f form.StartEnd (seen.Two x y plain) e = absurd (true≢false e)
  unbounded f form.PosLength seen.Nothing e = refl
  unbounded f form.PosLength (seen.One y plain) e = refl
  unbounded f form.PosLength (seen.Two x y plain) e = absurd (true≢false e)

  module _ (dest : Bool) (h : Form) (f : ℕ) (before : List Item) where
    pub fenced_fixed : RefFenced c dest h f before → SpanKept c dest f (fixed_span c h f (seen_in c seen.Nothing before))
    fenced_fixed r = rw (bounds_seen f h before r.x r.y r.bounds).span r.kept

    pub fixed_fenced : SpanKept c dest f (fixed_span c h f (seen_in c seen.Nothing before)) → RefFenced c dest h f before
    fixed_fenced k = by (boundedb h (seen_in c seen.Nothing before)) refl
      where
        by : (t : Bool) → boundedb h (seen_in c seen.Nothing before) ≡ t → RefFenced c dest h f before
        by true e = let w = seen_bounds f before h e in record { x = w.x; y = w.y; bounds = w.bounds; kept = rw w.span at k }
        by false e = absurd (rw (unbounded f h (seen_in c seen.Nothing before) e) at k)
