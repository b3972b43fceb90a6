-- Spans by natural numbers (document 01, "Values and references"): what the rules say in integers, by the bounds without their signs.
--   span_exactly       a reference names n bytes from a on exactly when they are the ones that Located says, inside the size
--   outside_exactly    it gives 21 exactly when there are none
--   found_inside       what it names lies inside the size
--   span_some          and has some bytes, where its field's elements have some
-- Assumes nothing.
use Rattle.std.specs.Prelude.{None, Option, Some}
use Prim.Native.Nat.{ℕ, zero, suc, ◌+◌, ◌-◌, ◌*◌, ◌<◌, ◌≤◌}
use native.Mathlib.Nat.{add-zero, suc-mul}
use native.Mathlib.Omega.{arith}
use mathlib.Core.Path.{◌≡◌, refl, sym, ap, ◌∙◌}
use mathlib.Core.Bool.{Bool, true, false, cond}
use mathlib.Core.Logic.{◌↔◌}
use lib.Dec.{ltb, leb}
use lib.IntN.{ℤ, pos, negsuc, neg_ℤ, ◌-ℤ◌, +ℤ_assoc, *ℤ-zero}
use lib.Signed.{le_z}
use borrow.Author.Tests.{ltb-true, ltb-false, leb-true, leb-false, le-leb, lt-leb, le-ltb, lt-ltb}
use Rattle.rules.proofs.Walk.{cond_same}
use Rattle.rules_unit.specs.declared.Field.{Field}
use Rattle.rules_unit.specs.declared.Form.{Form}
use Rattle.rules_unit.specs.declared.Form.TheVariants as form
use Rattle.rules_run.specs.declared.Span.{Span}
use Rattle.rules_run.specs.Spans.{within, subscript_span, start_end_span, pos_length_span, span_of, Located, span_at}

-- ---- differences

over : (a b : ℕ) → b ≤ a → pos a -ℤ pos b ≡ pos (a - b)
over a zero h = ap pos (omega arith)
over a (suc b) h = rw (le-ltb a (suc b) h)

under : (a b : ℕ) → a < b → pos a -ℤ pos b ≡ negsuc (b - suc a)
under a zero h = absurd (omega arith)
under a (suc b) h = rw (lt-ltb a (suc b) h)

-- ---- bytes inside the size

module _ (size a n : ℕ) where
  pub past : size < a + n → None ≡ within size (pos a) n
  unfolding within
  past h = rw (lt-leb (a + n) size h)

  pub found : a + n ≤ size → span_at a n ≡ within size (pos a) n
  unfolding within
  found h = rw (le-leb (a + n) size h)

  -- p bytes before a
  pub before : (p : ℕ) → a < p → None ≡ within size (pos a -ℤ pos p) n
  unfolding within
  before p h = rw (under a p h)

  pub after : (p : ℕ) → p ≤ a → within size (pos (a - p)) n ≡ within size (pos a -ℤ pos p) n
  after p h = rw (over a p h)

-- ---- references, by the numbers that the bounds are without their signs

module _ (size o : ℕ) where
  -- elements of no bytes
  pub subscript_none : (n : ℕ) (s : ℤ) → n ≡ 0 → within size (pos o) n ≡ subscript_span size o n s
  unfolding subscript_span
  subscript_none n s h = rw (h, *ℤ-zero (s -ℤ pos 1), add-zero o)

  pub subscript_up : (n : ℕ) {k : ℕ} {s : ℤ} → s ≡ pos k → 1 ≤ k → within size (pos (o + (k - 1) * n)) n ≡ subscript_span size o n s
  unfolding subscript_span
  subscript_up n {k} e h = rw (e, over k 1 h)

  pub subscript_down : (n k : ℕ) {s : ℤ} → s ≡ neg_ℤ (pos k) → within size (pos o -ℤ pos ((k + 1) * n)) n ≡ subscript_span size o n s
  unfolding subscript_span
  subscript_down n k e = rw e (by k)
    where
      by : (k : ℕ) → within size (pos o -ℤ pos ((k + 1) * n)) n ≡ subscript_span size o n (neg_ℤ (pos k))
      by zero = refl
      by (suc k) =
          let m : suc k + 1 ≡ suc (suc (k + 0)) = omega arith in
          ap (λ (j : ℕ). within size (pos o -ℤ pos (j * n)) n) m

  pub start_end_low : (s e : ℤ) → le_z (pos 1) s ≡ false → None ≡ start_end_span size o s e
  unfolding start_end_span
  start_end_low s e h = rw h

  turned : (a b : ℕ) → b < a → None ≡ start_end_span size o (pos a) (pos b)
  unfolding start_end_span
  turned a b h = rw (lt-leb a b h) (sym (cond_same (leb 1 a) None))

  pub start_end_turned : {a b : ℕ} {s e : ℤ} → s ≡ pos a → e ≡ pos b → b < a → None ≡ start_end_span size o s e
  start_end_turned {a} {b} p q h = rw (p, q) (turned a b h)

  pub start_end_end : (s e : ℤ) → le_z (pos 1) e ≡ false → None ≡ start_end_span size o s e
  unfolding start_end_span
  start_end_end (pos zero) e h = refl
  start_end_end (pos (suc a)) (pos b) h = turned (suc a) b (omega (arith, leb-false 1 b h))
  start_end_end (pos (suc a)) (negsuc b) h = sym (cond_same (leb 1 (suc a)) None)
  start_end_end (negsuc a) e h = refl

  pub start_end_is : {a b : ℕ} {s e : ℤ} → s ≡ pos a → e ≡ pos b → 1 ≤ a → a ≤ b
      → within size (pos (o + (a - 1))) (b - a + 1) ≡ start_end_span size o s e
  unfolding start_end_span
  start_end_is {a} {b} p q h l = rw (p, q, le-leb 1 a h, le-leb a b l, over a 1 h, over b a l)

  pub pos_length_low : (p n : ℤ) → le_z (pos 1) p ≡ false → None ≡ pos_length_span size o p n
  unfolding pos_length_span
  pos_length_low p (pos zero) h = refl
  pos_length_low p (pos (suc n)) h = rw h
  pos_length_low p (negsuc n) h = rw h

  pub pos_length_none : (p : ℤ) {n : ℤ} → n ≡ pos 0 → None ≡ pos_length_span size o p n
  unfolding pos_length_span
  pos_length_none p e = rw e

  pub pos_length_up : {a k : ℕ} {p n : ℤ} → p ≡ pos a → n ≡ pos k → 1 ≤ a → 1 ≤ k → within size (pos (o + (a - 1))) k ≡ pos_length_span size o p n
  unfolding pos_length_span
  pos_length_up {a} {k} e q h l = rw (e, q) (by k l)
    where
      by : (k : ℕ) → 1 ≤ k → within size (pos (o + (a - 1))) k ≡ pos_length_span size o (pos a) (pos k)
      by zero l = absurd (omega arith)
      by (suc k) l = rw (le-leb 1 a h, over a 1 h)

  pub pos_length_down : (k : ℕ) {a : ℕ} {p n : ℤ} → p ≡ pos a → n ≡ neg_ℤ (pos k) → 1 ≤ a → 1 ≤ k → within size (pos (o + a) -ℤ pos k) k ≡ pos_length_span size o p n
  unfolding pos_length_span
  pos_length_down k {a} e q h l = rw (e, q) (by k l)
    where
      by : (k : ℕ) → 1 ≤ k → within size (pos (o + a) -ℤ pos k) k ≡ pos_length_span size o (pos a) (neg_ℤ (pos k))
      by zero l = absurd (omega arith)
      by (suc k) l = rw (le-leb 1 a h) (ap (λ (z : ℤ). within size z (suc k)) (+ℤ_assoc (pos o) (pos a) (negsuc k)))

-- ---- what is named, both ways

-- Spans that are the same have the same start and the same length.
pub span_same : (a n b m : ℕ) → span_at a n ≡ span_at b m → (a ≡ b) × (n ≡ m)
span_same a n b m e =
    let x : ◌≡◌ {A = Span} (record { start = a; len = n }) (record { start = b; len = m }) = cc in
    (ap (λ (s : Span). s.start) x, ap (λ (s : Span). s.len) x)

pub not_at : (a n : ℕ) → None ≡ span_at a n → ⊥
not_at a n e = let z : ◌≡◌ {A = ℕ} 0 1 = cc in omega arith

module _ (size : ℕ) where
  -- n bytes from a on are found, as m bytes from z on.
  abbrev AsAt : ℕ → ℕ → ℕ → ℕ → Type 0
  AsAt z m a n = (a ≡ z) × (n ≡ m) × (a + n ≤ size)

  within_at : (z m a n : ℕ) → (within size (pos z) m ≡ span_at a n) ↔ AsAt z m a n
  unfolding within
  within_at z m a n = (by (leb (z + m) size) refl, λ h. let u : z + m ≤ size = omega (arith, h.0, h.1, h.2) in rw (le-leb (z + m) size u) (same h.0 h.1))
    where
      same : a ≡ z → n ≡ m → span_at z m ≡ span_at a n
      same p q = rw (p, q)

      by : (t : Bool) → leb (z + m) size ≡ t → cond t (span_at z m) None ≡ span_at a n → AsAt z m a n
      by true p e =
          let x = span_same z m a n e in
          (sym x.0, sym x.1, omega (arith, x.0, x.1, leb-true (z + m) size p))
      by false p e = absurd (not_at a n e)

  -- The bytes stand p before o.
  abbrev AsBefore : ℕ → ℕ → ℕ → ℕ → ℕ → Type 0
  AsBefore o p m a n = (a + p ≡ o) × (n ≡ m) × (a + n ≤ size)

  before_at : (o p m a n : ℕ) → (within size (pos o -ℤ pos p) m ≡ span_at a n) ↔ AsBefore o p m a n
  before_at o p m a n = by (ltb o p) refl
    where
      by : (t : Bool) → ltb o p ≡ t → (within size (pos o -ℤ pos p) m ≡ span_at a n) ↔ AsBefore o p m a n
      by true e =
          let h = ltb-true o p e in
          (λ q. absurd (not_at a n (before size o m p h ∙ q)), λ r. absurd (omega (arith, h, r.0)))
      by false e =
          let h = ltb-false o p e in
          let w = within_at (o - p) m a n in
          (λ q. let r = w.0 (after size o m p h ∙ q) in (omega (arith, h, r.0), r.1, r.2), λ r. sym (after size o m p h) ∙ w.1 (omega (arith, h, r.0), r.1, r.2))

-- ---- references

module _ (size : ℕ) (f : Field) (a n : ℕ) where
  element_at_lem : (x y : ℤ) → (subscript_span size f.offset f.size x ≡ span_at a n) ↔ Located f form.Subscript x y a n × (a + n ≤ size)
  element_at_lem (pos zero) y =
      let w = before_at size f.offset ((0 + 1) * f.size) f.size a n in
      let d = subscript_down size f.offset f.size 0 {s = pos 0} refl in
      let one : (0 + 1) * f.size ≡ f.size = omega arith in
      (λ q. let r = w.0 (d ∙ q) in ((omega (arith, r.0, one), r.1), r.2), λ r. sym d ∙ w.1 (omega (arith, r.0.0, one), r.0.1, r.1))
  element_at_lem (pos (suc k)) y =
      let w = within_at size (f.offset + (suc k - 1) * f.size) f.size a n in
      let d = subscript_up size f.offset f.size {k = suc k} {s = pos (suc k)} refl (omega arith) in
      let c : (suc k - 1) * f.size ≡ k * f.size = ap (λ (i : ℕ). i * f.size) (omega arith) in
      let e = suc-mul k f.size in
      (λ q. let r = w.0 (d ∙ q) in ((omega (arith, r.0, c, e), r.1), r.2), λ r. sym d ∙ w.1 (omega (arith, r.0.0, c, e), r.0.1, r.1))
  element_at_lem (negsuc j) y =
      let w = before_at size f.offset ((suc j + 1) * f.size) f.size a n in
      let d = subscript_down size f.offset f.size (suc j) {s = negsuc j} refl in
      let e : (suc j + 1) * f.size ≡ (j + 2) * f.size = ap (λ (i : ℕ). i * f.size) (omega arith) in
      (λ q. let r = w.0 (d ∙ q) in ((omega (arith, r.0, e), r.1), r.2), λ r. sym d ∙ w.1 (omega (arith, r.0.0, e), r.0.1, r.1))

  none : {P : Type 0} {s : Option Span} → None ≡ s → (P → ⊥) → (s ≡ span_at a n) ↔ P × (a + n ≤ size)
  none e f = (λ q. absurd (not_at a n (e ∙ q)), λ r. absurd (f r.0))

  range_at : (x y : ℤ) → (start_end_span size f.offset x y ≡ span_at a n) ↔ Located f form.StartEnd x y a n × (a + n ≤ size)
  range_at (pos s) (pos e) = by (leb 1 s) (leb s e) refl refl
    where
      by : (t v : Bool) → leb 1 s ≡ t → leb s e ≡ v → (start_end_span size f.offset (pos s) (pos e) ≡ span_at a n) ↔ Located f form.StartEnd (pos s) (pos e) a n × (a + n ≤ size)
      by true true p q =
          let l = leb-true 1 s p in
          let m = leb-true s e q in
          let w = within_at size (f.offset + (s - 1)) (e - s + 1) a n in
          let d = start_end_is size f.offset {a = s} {b = e} {s = pos s} {e = pos e} refl refl l m in
          (λ z. let r = w.0 (d ∙ z) in ((l, m, omega (arith, l, r.0), omega (arith, l, m, r.0, r.1)), r.2), λ r. sym d ∙ w.1 (omega (arith, l, r.0.2), omega (arith, l, m, r.0.2, r.0.3), r.1))
      by true false p q = none (start_end_turned size f.offset {a = s} {b = e} {s = pos s} {e = pos e} refl refl (leb-false s e q)) (λ r. omega (arith, leb-false s e q, r.1))
      by false v p q = none (start_end_low size f.offset (pos s) (pos e) p) (λ r. omega (arith, leb-false 1 s p, r.0))
  range_at (pos s) (negsuc e) = none (start_end_end size f.offset (pos s) (negsuc e) refl) (λ r. r)
  range_at (negsuc s) y = none (start_end_low size f.offset (negsuc s) y refl) (λ r. r)

  length_at : (x y : ℤ) → (pos_length_span size f.offset x y ≡ span_at a n) ↔ Located f form.PosLength x y a n × (a + n ≤ size)
  length_at (pos p) (pos zero) = none (pos_length_none size f.offset (pos p) {n = pos 0} refl) (λ r. omega (arith, r.1))
  length_at (pos p) (pos (suc k)) = by (leb 1 p) refl
    where
      by : (t : Bool) → leb 1 p ≡ t → (pos_length_span size f.offset (pos p) (pos (suc k)) ≡ span_at a n) ↔ Located f form.PosLength (pos p) (pos (suc k)) a n × (a + n ≤ size)
      by true q =
          let l = leb-true 1 p q in
          let w = within_at size (f.offset + (p - 1)) (suc k) a n in
          let d = pos_length_up size f.offset {a = p} {k = suc k} {p = pos p} {n = pos (suc k)} refl refl l (omega arith) in
          (λ z. let r = w.0 (d ∙ z) in ((l, omega arith, omega (arith, l, r.0), r.1), r.2), λ r. sym d ∙ w.1 (omega (arith, l, r.0.2), r.0.3, r.1))
      by false q = none (pos_length_low size f.offset (pos p) (pos (suc k)) q) (λ r. omega (arith, leb-false 1 p q, r.0))
  length_at (pos p) (negsuc k) = by (leb 1 p) refl
    where
      by : (t : Bool) → leb 1 p ≡ t → (pos_length_span size f.offset (pos p) (negsuc k) ≡ span_at a n) ↔ Located f form.PosLength (pos p) (negsuc k) a n × (a + n ≤ size)
      by true q =
          let l = leb-true 1 p q in
          let w = before_at size (f.offset + p) (suc k) (suc k) a n in
          let d = pos_length_down size f.offset (suc k) {a = p} {p = pos p} {n = negsuc k} refl refl l (omega arith) in
          (λ z. let r = w.0 (d ∙ z) in ((l, omega (arith, r.0, r.1), r.1), r.2), λ r. sym d ∙ w.1 (omega (arith, r.0.1, r.0.2), r.0.2, r.1))
      by false q = none (pos_length_low size f.offset (pos p) (negsuc k) q) (λ r. omega (arith, leb-false 1 p q, r.0))
  length_at (negsuc p) y = none (pos_length_low size f.offset (negsuc p) y refl) (λ r. r)

  pub span_exactly : (h : Form) (x y : ℤ) → (span_of size f h x y ≡ span_at a n) ↔ Located f h x y a n × (a + n ≤ size)
  unfolding span_of
  span_exactly form.First x y =
      let w = within_at size f.offset f.size a n in
      (λ q. let r = w.0 q in ((r.0, r.1), r.2), λ r. w.1 (r.0.0, r.0.1, r.1))
  span_exactly form.Subscript x y = element_at_lem x y
  span_exactly form.StartEnd x y = range_at x y
  span_exactly form.PosLength x y = length_at x y

-- elements that have some bytes
module _ (f : Field) (a n : ℕ) (some : 1 ≤ f.size) where
  located_some : (h : Form) (x y : ℤ) → Located f h x y a n → 1 ≤ n
  located_some form.First x y l = omega (arith, l.1)
  located_some form.Subscript (pos s) y l = omega (arith, l.1)
  located_some form.Subscript (negsuc s) y l = omega (arith, l.1)
  located_some form.StartEnd (pos s) (pos e) l = omega (arith, l.1, l.2, l.3)
  located_some form.StartEnd (pos s) (negsuc e) l = absurd l
  located_some form.StartEnd (negsuc s) y l = absurd l
  located_some form.PosLength (pos p) (pos k) l = omega (arith, l.1, l.3)
  located_some form.PosLength (pos p) (negsuc k) l = omega (arith, l.2)
  located_some form.PosLength (negsuc p) y l = absurd l

module _ (size : ℕ) (f : Field) (h : Form) (x y : ℤ) where
  pub outside_exactly : (span_of size f h x y ≡ None) ↔ ((a n : ℕ) → Located f h x y a n → a + n ≤ size → ⊥)
  outside_exactly = (λ q a n l u. not_at a n (sym q ∙ (span_exactly size f a n h x y).1 (l, u)), λ none. of (span_of size f h x y) refl none)
    where
      of : (s : Option Span) → span_of size f h x y ≡ s → ((a n : ℕ) → Located f h x y a n → a + n ≤ size → ⊥) → s ≡ None
      of (Some s) q none = let r = (span_exactly size f s.start s.len h x y).0 q in absurd (none s.start s.len r.0 r.1)
      of None q none = refl

  pub found_inside : {a n : ℕ} → span_of size f h x y ≡ span_at a n → a + n ≤ size
  found_inside {a} {n} e = ((span_exactly size f a n h x y).0 e).1

  pub span_some : {a n : ℕ} → 1 ≤ f.size → span_of size f h x y ≡ span_at a n → 1 ≤ n
  span_some {a} {n} some e = located_some f a n some h x y ((span_exactly size f a n h x y).0 e).0
