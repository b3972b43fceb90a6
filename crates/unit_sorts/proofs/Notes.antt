-- Laws of the notes: nothing is noted where all are 0, what is noted is read back, and one more note of what is so leaves all notes so.
-- Assumes nothing.
use mathlib.Core.Path.{◌≡◌, refl, sym, subst}
use mathlib.Core.Bool.{Bool, true, false, cond}
use mathlib.Core.List.{List}
use Prim.Native.Nat.{ℕ, ◌+◌, ◌*◌, ◌/◌, ◌%◌, ◌≤◌, ◌<◌}
use native.Mathlib.Omega.{arith}
use lib.Dec.{T, eqb, ltb}
use lib.ListN.{length, get_or, set, replicate, get_or-eq_default}
use lib.Seq.{get_or-set_same, get_or-set_other, set_out}
use borrow.Author.Tests.{eqb-true, eqb-false, ltb-true, ltb-false}
use Rattle.rules.proofs.Walk.{cond_same}
use Rattle.rules_unit.specs.declared.Sort.{Sort}
use Rattle.rules_unit.specs.declared.Sort.TheVariants as sort
use Rattle.rules_unit.specs.Codes.{Code}
use Rattle.rules_unit.specs.Decode.{items_at}
use Rattle.rules_unit.specs.Expressions.{sort_from}
use Rattle.unit_decode.proofs.Rows.{zeros}
use Rattle.unit_sorts.specs.Notes.{is_wrong, note_of, sort_by, noted_at, Noted}

note_least : (k : Sort) → note_of k < 8
note_least sort.Wrong = omega arith
note_least sort.Number = omega arith
note_least sort.Text = omega arith
note_least sort.Decimal = omega arith
note_least sort.Alpha = omega arith

sort_back : (k : Sort) → sort_by (note_of k) ≡ k
unfolding sort_by
sort_back sort.Wrong = refl
sort_back sort.Number = refl
sort_back sort.Text = refl
sort_back sort.Decimal = refl
sort_back sort.Alpha = refl

-- ---- reading a note

module _ (notes : List ℕ) (e n : ℕ) where
  blank : get_or notes e 0 ≡ 0 → noted_at notes e n ≡ sort.Wrong
  unfolding noted_at sort_by
  blank h = rw h (cond_same (eqb 0 n) sort.Wrong)

  pub noted_out : length notes ≤ e → sort.Wrong ≡ noted_at notes e n
  noted_out h = sym (blank (get_or-eq_default notes 0 h))

-- ---- which notes are so

not_wrong : (k : Sort) → k ≡ sort.Wrong → is_wrong k ≡ false → ⊥
not_wrong k e h = let z : true ≡ false = rw e at h in subst T z tt

module _ (c : Code) (s : List ℕ) where
  pub noted_none : (m : ℕ) → Noted c s (replicate m 0)
  noted_none m = record { so = λ e n h. absurd (not_wrong (noted_at (replicate m 0) e n) (blank (replicate m 0) e n (zeros m e)) h) }

-- a note is read where it stands, for as many values as are held
there : (notes : List ℕ) (e n m : ℕ) (k : Sort) → get_or notes e 0 ≡ n * 8 + note_of k → noted_at notes e m ≡ cond (eqb n m) k sort.Wrong
unfolding noted_at
there notes e n m k h =
    let q : (n * 8 + note_of k) / 8 ≡ n = omega (arith, note_least k) in
    let r : (n * 8 + note_of k) % 8 ≡ note_of k = omega (arith, note_least k) in
    rw (h, q, r, sort_back k)

elsewhere : (notes : List ℕ) (e d m b : ℕ) → (d ≡ e → ⊥) → noted_at (set notes e b) d m ≡ noted_at notes d m
unfolding noted_at
elsewhere notes e d m b h = rw (get_or-set_other notes e d b 0 h)

-- k is the sort of the items from e on, where n values are held before them
module _ (c : Code) (s notes : List ℕ) (e n : ℕ) (k : Sort) (old : Noted c s notes) (f : k ≡ sort_from c (items_at s e) n sort.Number) where
  new : List ℕ
  new = set notes e (n * 8 + note_of k)

  right : ℕ → ℕ → Sort → Type 0
  right d m x = is_wrong x ≡ false → x ≡ sort_from c (items_at s d) m sort.Number

  held : (m : ℕ) (t : Bool) → eqb n m ≡ t → right e m (cond t k sort.Wrong)
  unfolding right
  held m true h w = rw (eqb-true n m h) at f
  held m false h w = absurd (not_wrong sort.Wrong refl w)

  here : (m : ℕ) (t : Bool) → ltb e (length notes) ≡ t → right e m (noted_at new e m)
  unfolding right new
  here m true h = rw (there new e n m k (get_or-set_same notes e (n * 8 + note_of k) 0 (ltb-true e (length notes) h))) (held m (eqb n m) refl)
  here m false h = rw (set_out notes e (n * 8 + note_of k) (ltb-false e (length notes) h)) (old.so e m)

  any : (d m : ℕ) (t : Bool) → eqb d e ≡ t → right d m (noted_at new d m)
  unfolding right new
  any d m true h = rw (eqb-true d e h) (here m (ltb e (length notes)) refl)
  any d m false h = rw (elsewhere notes e d m (n * 8 + note_of k) (eqb-false d e h)) (old.so d m)

  pub noted_more : Noted c s (set notes e (n * 8 + note_of k))
  unfolding right new
  noted_more = record { so = λ d m. any d m (eqb d e) refl }
