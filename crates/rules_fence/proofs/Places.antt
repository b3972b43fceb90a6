-- A fenced reference (document 01, "Fence rules"): the values held give its fixed span, and where it is last it names that span.
--   HeldAs s st                    the bounds s are the values held last
--   PlaceOk c dest span t a n      n bytes from a on are the span, that of a fenced reference to a field which is decimal as t says
--   WorkedOk c dest span w         what a fenced expression may come to, where its last reference has that span
-- Assumes nothing.
use Rattle.std.specs.Prelude.{Result, Err, Ok, None, Option, Some}
use Rattle.rules.specs.declared.Fault.{Fault}
use Prim.Native.Nat.{ℕ, ◌<◌, ◌≤◌}
use mathlib.Core.Path.{◌≡◌, refl, sym}
use mathlib.Core.Bool.{Bool, true, false, cond}
use mathlib.Core.List.{List, [], ◌∷◌}
use lib.Dec.{ltb}
use lib.IntN.{ℤ, pos}
use lib.ListN.{length}
use borrow.Author.Tests.{ltb-true}
use Rattle.rules.specs.declared.Fault.TheVariants as fault
use Rattle.rules_unit.specs.declared.Rule.{Rule}
use Rattle.rules_unit.specs.declared.Form.{Form}
use Rattle.rules_unit.specs.declared.Form.TheVariants as form
use Rattle.rules_unit.specs.Codes.{Code, rule_of, decimalb}
use Rattle.rules_unit.specs.Sound.{SoundCode}
use Rattle.rules_run.specs.declared.Span.{Span}
use Rattle.rules_run.specs.declared.Worked.{Worked}
use Rattle.rules_run.specs.declared.Worked.TheVariants as worked
use Rattle.rules_run.specs.Spans.{span_of, span_by, span_at}
use Rattle.rules_run.specs.Evaluation.{as_place, place_by, place}
use Rattle.rules_run.proofs.Located.{span_some}
use Rattle.rules_run.proofs.Strict.{found_held}
use Rattle.rules_fence.specs.declared.Seen.{Seen}
use Rattle.rules_fence.specs.declared.Seen.TheVariants as seen
use Rattle.rules_fence.specs.Bounds.{fixed_span}
use Rattle.rules_fence.specs.Fence.{SpanFenced, SpanKept}
use Rattle.rules_fence.proofs.Mild.{mildb}

abbrev pub HeldAs : Seen → List ℤ → Type 0
HeldAs seen.Nothing st = Unit {0}
HeldAs (seen.One y plain) [] = ⊥
HeldAs (seen.One y plain) (v ∷ st) = v ≡ y
HeldAs (seen.Two x y plain) [] = ⊥
HeldAs (seen.Two x y plain) (v ∷ []) = ⊥
HeldAs (seen.Two x y plain) (v ∷ (w ∷ st)) = (v ≡ y) × (w ≡ x)

pub record PlaceOk (c : Code) (dest : Bool) (span : Option Span) (decimal : Bool) (a n : ℕ) : Type 0 where
  pub field : ℕ
  pub known : field < c.fields
  pub kind : decimalb c field ≡ decimal
  pub is : span ≡ span_at a n
  pub fenced : SpanFenced c dest field a n
  pub some : 1 ≤ n

abbrev pub WorkedOk : Code → Bool → Option Span → Result Worked Fault → Type 0
WorkedOk c dest span (Ok (worked.Number v)) = Unit {0}
WorkedOk c dest span (Ok (worked.Place decimal a n)) = PlaceOk c dest span decimal a n
WorkedOk c dest span (Ok (worked.Text p l)) = Unit {0}
WorkedOk c dest span (Err e) = mildb false e ≡ true

module _ (c : Code) (s : SoundCode c) (d : List ℕ) (e : length d ≡ c.size) where
  -- ---- the span that the values held give is the fixed one

  pub fixed_whole : (f : ℕ) (b : Seen) → fixed_span c form.First f b ≡ span_of (length d) (c.field f) form.First (pos 0) (pos 0)
  unfolding fixed_span
  fixed_whole f b = rw e

  module _ (dest : Bool) (f : ℕ) where
    pub fixed_element : (b : Seen) (x : ℤ) (st : List ℤ) → SpanKept c dest f (fixed_span c form.Subscript f b) → HeldAs b (x ∷ st)
        → fixed_span c form.Subscript f b ≡ span_of (length d) (c.field f) form.Subscript x (pos 0)
    unfolding fixed_span
    fixed_element seen.Nothing x st r q = absurd r
    fixed_element (seen.One y plain) x st r q = rw (e, q)
    fixed_element (seen.Two w y plain) x [] r q = absurd q
    fixed_element (seen.Two w y plain) x (z ∷ st) r q = rw (e, q.0)

    pub fixed_range : (b : Seen) (y x : ℤ) (st : List ℤ) → SpanKept c dest f (fixed_span c form.StartEnd f b) → HeldAs b (y ∷ (x ∷ st))
        → fixed_span c form.StartEnd f b ≡ span_of (length d) (c.field f) form.StartEnd x y
    unfolding fixed_span
    fixed_range seen.Nothing y x st r q = absurd r
    fixed_range (seen.One z plain) y x st r q = absurd r
    fixed_range (seen.Two w z plain) y x st r q = rw (e, q.0, q.1)

    pub fixed_length : (b : Seen) (y x : ℤ) (st : List ℤ) → SpanKept c dest f (fixed_span c form.PosLength f b) → HeldAs b (y ∷ (x ∷ st))
        → fixed_span c form.PosLength f b ≡ span_of (length d) (c.field f) form.PosLength x y
    unfolding fixed_span
    fixed_length seen.Nothing y x st r q = absurd r
    fixed_length (seen.One z plain) y x st r q = absurd r
    fixed_length (seen.Two w z plain) y x st r q = rw (e, q.0, q.1)

    -- ---- a last reference

    -- the fence rules keep a span inside its field, so it is found by either rule
    pub kept_found : (r : Rule) (h : Form) (x y : ℤ) (span : Option Span) → span ≡ span_of (length d) (c.field f) h x y → SpanKept c dest f span → span_by r (length d) (c.field f) h x y ≡ span
    kept_found r h x y None q k = absurd k
    kept_found r h x y (Some s) q k = found_held (length d) (c.field f) r h x y (k.from, k.to) (sym q)

    module _ (h : Form) (x y : ℤ) where
      as_place_lem : (span : Option Span) → f < c.fields → span ≡ span_of (length d) (c.field f) h x y → SpanKept c dest f span → WorkedOk c dest span (as_place c f span)
      as_place_lem None k q r = absurd r
      as_place_lem (Some v) k q r = by (decimalb c f) refl (ltb c.dialect.limit v.len)
        where
          ok : (t : Bool) → decimalb c f ≡ t → PlaceOk c dest (span_at v.start v.len) t v.start v.len
          ok t z = record { field = f; known = k; kind = z; is = refl; fenced = r; some = span_some (length d) (c.field f) h x y (s.entries f k).own.some (sym q) }

          by : (t : Bool) → decimalb c f ≡ t → (u : Bool) → WorkedOk c dest (Some v) (cond t (cond u (Err fault.TooLong) (Ok (worked.Place true v.start v.len))) (Ok (worked.Place false v.start v.len)))
          by true z true = refl
          by true z false = ok true z
          by false z u = ok false z

      place_by_lem : (span : Option Span) → span ≡ span_of (length d) (c.field f) h x y → SpanKept c dest f span → WorkedOk c dest span (place_by c d h f x y)
      unfolding place_by
      place_by_lem span q r = by (ltb f c.fields) refl
        where
          by : (t : Bool) → ltb f c.fields ≡ t → WorkedOk c dest span (cond t (as_place c f (span_by (rule_of (c.field f)) (length d) (c.field f) h x y)) (Err fault.Malformed))
          by true p = rw (kept_found (rule_of (c.field f)) h x y span q r) (as_place_lem span (ltb-true f c.fields p) q r)
          by false p = refl

    pub place_ok : (h : Form) (b : Seen) (st : List ℤ) → SpanKept c dest f (fixed_span c h f b) → HeldAs b st → WorkedOk c dest (fixed_span c h f b) (place c d h f st)
    unfolding place
    place_ok form.First b [] r t = place_by_lem form.First (pos 0) (pos 0) (fixed_span c form.First f b) (fixed_whole f b) r
    place_ok form.First b (x ∷ st) r t = refl
    place_ok form.Subscript b [] r t = refl
    place_ok form.Subscript b (x ∷ []) r t = place_by_lem form.Subscript x (pos 0) (fixed_span c form.Subscript f b) (fixed_element b x [] r t) r
    place_ok form.Subscript b (y ∷ (x ∷ st)) r t = refl
    place_ok form.StartEnd b [] r t = refl
    place_ok form.StartEnd b (x ∷ []) r t = refl
    place_ok form.StartEnd b (y ∷ (x ∷ [])) r t = place_by_lem form.StartEnd x y (fixed_span c form.StartEnd f b) (fixed_range b y x [] r t) r
    place_ok form.StartEnd b (y ∷ (x ∷ (z ∷ st))) r t = refl
    place_ok form.PosLength b [] r t = refl
    place_ok form.PosLength b (x ∷ []) r t = refl
    place_ok form.PosLength b (y ∷ (x ∷ [])) r t = place_by_lem form.PosLength x y (fixed_span c form.PosLength f b) (fixed_length b y x [] r t) r
    place_ok form.PosLength b (y ∷ (x ∷ (z ∷ st))) r t = refl
