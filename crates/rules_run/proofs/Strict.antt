-- The two rules by which a span is found (request 5 of document 02, "Strict arrays, by choice").
--   rule_loose, rule_strict    the rule that a zero byte chooses
--   by_loose           by the loose rule a reference names the span inside the size
--   found_loose        what is found by either rule is that span
--   found_held         and one that lies inside its field is found by either rule
--   strict_past        one that does not is none by the strict rule, where the reference has bounds
--   strict_inside      what is found by the strict rule lies inside its field
--   strict_exactly     it is found exactly when it lies inside the size and inside its field
--   strict_outside     and there is none exactly when none lies there
--   place_21, read_21  a reference gives 21, as a place and read, exactly when no span is found by its field's rule
-- Assumes nothing.
use Rattle.std.specs.Prelude.{Result, Err, Ok, None, Option, Some}
use Prim.Native.Nat.{ℕ, ◌+◌, ◌*◌, ◌<◌, ◌≤◌}
use native.Mathlib.Nat.{mul-le-mul_right}
use native.Mathlib.Omega.{arith}
use mathlib.Core.Path.{◌≡◌, refl, sym, ◌∙◌}
use mathlib.Core.Bool.{Bool, true, false, cond, false≢true}
use mathlib.Core.List.{List}
use mathlib.Core.Logic.{◌↔◌}
use lib.Dec.{ltb, leb}
use lib.IntN.{ℤ}
use lib.ListN.{length, take, drop}
use borrow.Author.Tests.{leb-true, le-leb, lt-ltb, eq-eqb, ne_eqb}
use Rattle.rules.specs.declared.Fault.{Fault}
use Rattle.rules.specs.declared.Fault.TheVariants as fault
use Rattle.rules.proofs.Tests.{both}
use Rattle.rules_unit.specs.declared.Rule.{Rule}
use Rattle.rules_unit.specs.declared.Rule.TheVariants as rule
use Rattle.rules_unit.specs.declared.Field.{Field}
use Rattle.rules_unit.specs.declared.Form.{Form}
use Rattle.rules_unit.specs.declared.Form.TheVariants as form
use Rattle.rules_unit.specs.Codes.{Code, rule_of, decimalb}
use Rattle.rules_run.specs.declared.Span.{Span}
use Rattle.rules_run.specs.declared.Worked.TheVariants as worked
use Rattle.rules_run.specs.Spans.{span_of, insideb, held_to, span_by, Located, Inside, span_at}
use Rattle.rules_run.specs.Evaluation.{read_at, read_span, reference, as_place, place_by}
use Rattle.rules_run.proofs.Located.{not_at, span_exactly}
use Rattle.rules_run.proofs.Faults.{passes, read_passes}

-- ---- the rule that a field chooses

module _ (f : Field) where
  pub rule_strict : f.zero ≡ 0x80 → rule_of f ≡ rule.Strict
  rule_strict e = rw (eq-eqb f.zero 0x80 e)

  pub rule_loose : f.zero ≡ 0 → rule_of f ≡ rule.Loose
  rule_loose e = rw (ne_eqb f.zero 0x80 (λ q. omega (arith, e, q)))

-- ---- a span that was found

module _ (f : Field) where
  inside_by : (a n : ℕ) → insideb f a n ≡ true → Inside f a n
  inside_by a n q =
      let r = (both (leb f.offset a) (leb (a + n) (f.offset + f.count * f.size))).0 q in
      (leb-true f.offset a r.0, leb-true (a + n) (f.offset + f.count * f.size) r.1)

  held_same : (r : Rule) (s : Option Span) {a n : ℕ} → held_to r f s ≡ span_at a n → s ≡ span_at a n
  held_same rule.Loose s e = e
  held_same rule.Strict (Some s) {a} {n} e = by (insideb f s.start s.len) e
    where
      by : (t : Bool) → cond t (span_at s.start s.len) None ≡ span_at a n → span_at s.start s.len ≡ span_at a n
      by true e = e
      by false e = absurd (not_at a n e)
  held_same rule.Strict None {a} {n} e = absurd (not_at a n e)

  pub held_in : (r : Rule) (a n : ℕ) → Inside f a n → held_to r f (span_at a n) ≡ span_at a n
  held_in rule.Loose a n i = refl
  held_in rule.Strict a n i = rw (le-leb f.offset a i.0, le-leb (a + n) (f.offset + f.count * f.size) i.1)

  held_inside : (a n : ℕ) → held_to rule.Strict f (span_at a n) ≡ span_at a n → Inside f a n
  held_inside a n e = by (insideb f a n) refl e
    where
      by : (t : Bool) → insideb f a n ≡ t → cond t (span_at a n) None ≡ span_at a n → Inside f a n
      by true q e = inside_by a n q
      by false q e = absurd (not_at a n e)

  pub held_past : (a n : ℕ) → (Inside f a n → ⊥) → held_to rule.Strict f (span_at a n) ≡ None
  held_past a n i = by (insideb f a n) refl
    where
      by : (t : Bool) → insideb f a n ≡ t → cond t (span_at a n) None ≡ None
      by true q = absurd (i (inside_by a n q))
      by false q = refl

-- ---- a reference

module _ (size : ℕ) (f : Field) where
  pub by_loose : (h : Form) (x y : ℤ) → span_by rule.Loose size f h x y ≡ span_of size f h x y
  by_loose form.First x y = refl
  by_loose form.Subscript x y = refl
  by_loose form.StartEnd x y = refl
  by_loose form.PosLength x y = refl

  -- without bounds the rule makes no difference, and with bounds the span is held to its field
  by_form : (P : Option Span → Type 0) (r : Rule) (h : Form) (x y : ℤ) → (h ≡ form.First → P (span_of size f h x y)) → P (held_to r f (span_of size f h x y)) → P (span_by r size f h x y)
  by_form P r form.First x y p q = p refl
  by_form P r form.Subscript x y p q = q
  by_form P r form.StartEnd x y p q = q
  by_form P r form.PosLength x y p q = q

  pub found_loose : (r : Rule) (h : Form) (x y : ℤ) {a n : ℕ} → span_by r size f h x y ≡ span_at a n → span_of size f h x y ≡ span_at a n
  found_loose r h x y {a} {n} = by_form (λ (s : Option Span). s ≡ span_at a n → span_of size f h x y ≡ span_at a n) r h x y (λ _ e. e) (held_same f r (span_of size f h x y))

  pub found_held : (r : Rule) (h : Form) (x y : ℤ) {a n : ℕ} → Inside f a n → span_of size f h x y ≡ span_at a n → span_by r size f h x y ≡ span_at a n
  found_held r h x y {a} {n} i e = by_form (λ (s : Option Span). s ≡ span_at a n) r h x y (λ _. e) (rw e (held_in f r a n i))

  pub strict_past : (h : Form) (x y : ℤ) {a n : ℕ} → (h ≡ form.First → ⊥) → span_of size f h x y ≡ span_at a n → (Inside f a n → ⊥) → span_by rule.Strict size f h x y ≡ None
  strict_past h x y {a} {n} b e i = by_form (λ (s : Option Span). s ≡ None) rule.Strict h x y (λ q. absurd (b q)) (rw e (held_past f a n i))

  -- an element has no more bytes than the field
  module _ (many : 1 ≤ f.count) where
    first_inside : (x y : ℤ) {a n : ℕ} → span_of size f form.First x y ≡ span_at a n → Inside f a n
    first_inside x y {a} {n} e =
        let l = ((span_exactly size f a n form.First x y).0 e).0 in
        (omega (arith, l.0), omega (arith, l.0, l.1, mul-le-mul_right f.size many))

    pub strict_inside : (h : Form) (x y : ℤ) {a n : ℕ} → span_by rule.Strict size f h x y ≡ span_at a n → Inside f a n
    strict_inside h x y {a} {n} e =
        let q = found_loose rule.Strict h x y e in
        by_form (λ (s : Option Span). s ≡ span_at a n → Inside f a n) rule.Strict h x y
        (λ t _. first_inside x y (rw t at q))
        (λ z. held_inside f a n (rw q at z)) e

    pub strict_exactly : (a n : ℕ) (h : Form) (x y : ℤ) → (span_by rule.Strict size f h x y ≡ span_at a n) ↔ Located f h x y a n × (a + n ≤ size) × Inside f a n
    strict_exactly a n h x y = (
      λ e. let l = (span_exactly size f a n h x y).0 (found_loose rule.Strict h x y e) in (l.0, l.1, strict_inside h x y e),
      λ r. found_held rule.Strict h x y r.2 ((span_exactly size f a n h x y).1 (r.0, r.1)),
    )

    pub strict_outside : (h : Form) (x y : ℤ) → (span_by rule.Strict size f h x y ≡ None) ↔ ((a n : ℕ) → Located f h x y a n → a + n ≤ size → Inside f a n → ⊥)
    strict_outside h x y = (λ q a n l u i. not_at a n (sym q ∙ (strict_exactly a n h x y).1 (l, u, i)), λ none. of (span_by rule.Strict size f h x y) refl none)
      where
        of : (s : Option Span) → span_by rule.Strict size f h x y ≡ s → ((a n : ℕ) → Located f h x y a n → a + n ≤ size → Inside f a n → ⊥) → s ≡ None
        of (Some s) q none = let r = (strict_exactly s.start s.len h x y).0 q in absurd (none s.start s.len r.0 r.1 r.2)
        of None q none = refl

-- ---- what is done with a span

outside_place : (c : Code) (f : ℕ) (s : Option Span) → (as_place c f s ≡ Err fault.Outside) ↔ (s ≡ None)
outside_place c f None = (λ _. refl, λ _. refl)
outside_place c f (Some s) = (by (decimalb c f) (ltb c.dialect.limit s.len), λ e. absurd (not_at s.start s.len (sym e)))
  where
    by : (t u : Bool) → cond t (cond u (Err fault.TooLong) (Ok (worked.Place true s.start s.len))) (Ok (worked.Place false s.start s.len)) ≡ Err fault.Outside → span_at s.start s.len ≡ None
    by true true e = let z : ◌≡◌ {A = ℕ} 0 1 = cc in absurd (omega arith)
    by true false e = let z : ◌≡◌ {A = ℕ} 0 1 = cc in absurd (omega arith)
    by false u e = let z : ◌≡◌ {A = ℕ} 0 1 = cc in absurd (omega arith)

-- no character that is read gives 21
abbrev foundb : Fault → Bool
foundb fault.Malformed = true
foundb fault.TooLong = true
foundb fault.Outside = false
foundb fault.BadDigit = true
foundb fault.ZeroDivisor = true
foundb fault.CallsFull = true
foundb fault.NoCall = true
foundb fault.RoundCount = true
foundb fault.ZeroStep = true
foundb fault.LoopsFull = true
foundb fault.NoLoop = true

outside_read : (c : Code) (d : List ℕ) (s : Option Span) → (read_span c d s ≡ Err fault.Outside) ↔ (s ≡ None)
outside_read c d None = (λ _. refl, λ _. refl)
outside_read c d (Some s) = (λ e. absurd (by (read_at c d s.start s.len) (read_passes foundb refl refl c.dialect.limit c.dialect.sign (take s.len (drop s.start d))) e), λ e. absurd (not_at s.start s.len (sym e)))
  where
    by : (r : Result ℤ Fault) → passes foundb r ≡ true → r ≡ Err fault.Outside → ⊥
    by r p e = false≢true (rw e at p)

module _ (c : Code) (d : List ℕ) (h : Form) (f : ℕ) (x y : ℤ) (known : f < c.fields) where
  pub place_21 : (place_by c d h f x y ≡ Err fault.Outside) ↔ (span_by (rule_of (c.field f)) (length d) (c.field f) h x y ≡ None)
  unfolding place_by
  place_21 = rw (lt-ltb f c.fields known) (outside_place c f (span_by (rule_of (c.field f)) (length d) (c.field f) h x y))

  pub read_21 : decimalb c f ≡ true → (reference c d h f x y ≡ Err fault.Outside) ↔ (span_by (rule_of (c.field f)) (length d) (c.field f) h x y ≡ None)
  unfolding reference
  read_21 t = rw (lt-ltb f c.fields known, t) (outside_read c d (span_by (rule_of (c.field f)) (length d) (c.field f) h x y))
