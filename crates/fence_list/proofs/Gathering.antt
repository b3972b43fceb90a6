-- What is gathered of a list: of two lists one after the other; and of a whole list from nothing it is what a host is told.
--   gathered_append    a list behind another
--   listed_all         from a count of 0
-- Assumes nothing.
use Prim.Native.Nat.{ℕ, suc, ◌+◌, ◌-◌, ◌*◌, ◌/◌, ◌<◌, ◌≤◌}
use native.Mathlib.Omega.{arith}
use mathlib.Core.Path.{◌≡◌, refl, sym, ap, ◌∙◌}
use mathlib.Core.Bool.{Bool, true, false}
use mathlib.Core.List.{List, [], ◌∷◌, ◌++◌, append_assoc, append-nil}
use lib.Dec.{ltb, leb}
use lib.ListN.{length, take, drop, take-append-drop, drop_of_length-le, length-append, length-drop}
use lib.Seq.{take_all, length-take-le, take_at, drop_at, drop-drop, drop-nil}
use borrow.Author.Tests.{ltb-true, ltb-false, leb-true, leb-false, lt-ltb, le-ltb, le-leb, lt-leb}
use Rattle.rules_fence.specs.declared.Broken.{Broken}
use Rattle.rules_fence.specs.Listed.{row_of, rows_laid, Listed, listed}
use Rattle.fence_list.specs.Gathered.{count_after, row_at, row_put, gathered}

abbrev pub G : ℕ → List ℕ → Listed
G n rows = record { count = n; rows = rows }

pub gathered_append : (skip : ℕ) (xs ys : List Broken) (g : Listed) → gathered skip (xs ++ ys) g ≡ gathered skip ys (gathered skip xs g)
unfolding gathered
gathered_append skip [] ys g = refl
gathered_append skip (b ∷ xs) ys g = gathered_append skip xs ys (G (count_after g.count) (row_put skip g.count b g.rows))

-- ---- the count

count_next : (n : ℕ) → n < 18446744073709551615 → count_after n ≡ n + 1
count_next n h = rw (lt-ltb n 18446744073709551615 h)

-- ---- the rows

-- The rows with those of a list behind the first n breaches of a whole.
abbrev laid_from : ℕ → ℕ → List Broken → List ℕ → List ℕ
laid_from skip n bs rows = take ((n - skip) * 8) rows ++ rows_laid (drop (skip - n) bs) (drop ((n - skip) * 8) rows)

laid_short : (bs : List Broken) (l : List ℕ) → length l < 8 → rows_laid bs l ≡ l
unfolding rows_laid
laid_short [] l h = refl
laid_short (b ∷ bs) l h = rw (lt-leb 8 (length l) h)

module _ (skip n : ℕ) (b : Broken) (bs : List Broken) (rows : List ℕ) where
  -- not asked for yet
  row_early : n < skip → laid_from skip (n + 1) bs (row_put skip n b rows) ≡ laid_from skip n (b ∷ bs) rows
  unfolding row_put
  row_early h =
      let a : n + 1 - skip ≡ 0 = omega arith in
      let e : n - skip ≡ 0 = omega arith in
      let f : skip - n ≡ suc (skip - (n + 1)) = omega arith in
      rw (lt-ltb n skip h, a, e, f)

  module _ (h : skip ≤ n) where
    -- where the row stands
    o : ℕ
    o = (n - skip) * 8

    next : (n + 1 - skip) * 8 ≡ o + 8
    unfolding o
    next = omega (arith, h)

    early_none : skip - n ≡ 0
    early_none = omega (arith, h)

    late_none : skip - (n + 1) ≡ 0
    late_none = omega (arith, h)

    -- no room for the whole row
    row_full : length rows / 8 ≤ n - skip → laid_from skip (n + 1) bs (row_put skip n b rows) ≡ laid_from skip n (b ∷ bs) rows
    unfolding row_put o
    row_full g =
        let few : length rows < o + 8 = omega (arith, g) in
        let past : length rows ≤ o + 8 = omega (arith, few) in
        let shorter : length (drop o rows) < 8 = omega (arith, length-drop o rows, few) in
        rw (le-ltb n skip h, le-leb (length rows / 8) (n - skip) g, next, early_none, late_none)
        (ap (λ (l : List ℕ). l ++ rows_laid bs (drop (o + 8) rows)) (take_all (o + 8) rows past)
        ∙ ap (λ (l : List ℕ). rows ++ rows_laid bs l) (drop_of_length-le rows past)
        ∙ ap (λ (l : List ℕ). rows ++ l) (laid_short bs [] (omega arith))
        ∙ append-nil rows
        ∙ sym (take-append-drop o rows)
        ∙ ap (λ (l : List ℕ). take o rows ++ l) (sym (laid_short (b ∷ bs) (drop o rows) shorter)))

    -- room for it
    row_there : n - skip < length rows / 8 → laid_from skip (n + 1) bs (row_put skip n b rows) ≡ laid_from skip n (b ∷ bs) rows
    unfolding row_put o rows_laid
    row_there g =
        let fits : o + 8 ≤ length rows = omega (arith, g) in
        let front : length (take o rows ++ row_of b) ≡ o + 8 = length-append (take o rows) (row_of b) ∙ omega (arith, length-take-le o rows (omega (arith, fits))) in
        let split : row_at rows o b ≡ (take o rows ++ row_of b) ++ drop (o + 8) rows = sym (append_assoc (take o rows) (row_of b) (drop (o + 8) rows)) in
        let room : leb 8 (length (drop o rows)) ≡ true = le-leb 8 (length (drop o rows)) (omega (arith, length-drop o rows, fits)) in
        rw (le-ltb n skip h, lt-leb (length rows / 8) (n - skip) g, next, early_none, late_none, room)
        (ap (λ (l : List ℕ). take (o + 8) l ++ rows_laid bs (drop (o + 8) l)) split
        ∙ ap (λ (l : List ℕ). l ++ rows_laid bs (drop (o + 8) ((take o rows ++ row_of b) ++ drop (o + 8) rows))) (take_at (take o rows ++ row_of b) (drop (o + 8) rows) (o + 8) front)
        ∙ ap (λ (l : List ℕ). (take o rows ++ row_of b) ++ rows_laid bs l) (drop_at (take o rows ++ row_of b) (drop (o + 8) rows) (o + 8) front)
        ∙ append_assoc (take o rows) (row_of b) (rows_laid bs (drop (o + 8) rows))
        ∙ ap (λ (l : List ℕ). take o rows ++ (row_of b ++ rows_laid bs l)) (sym (drop-drop 8 o rows)))

  row_any : laid_from skip (n + 1) bs (row_put skip n b rows) ≡ laid_from skip n (b ∷ bs) rows
  row_any = by (ltb n skip) (leb (length rows / 8) (n - skip)) refl refl
    where
      by : (x y : Bool) → ltb n skip ≡ x → leb (length rows / 8) (n - skip) ≡ y → laid_from skip (n + 1) bs (row_put skip n b rows) ≡ laid_from skip n (b ∷ bs) rows
      by true y e f = row_early (ltb-true n skip e)
      by false true e f = row_full (ltb-false n skip e) (leb-true (length rows / 8) (n - skip) f)
      by false false e f = row_there (ltb-false n skip e) (leb-false (length rows / 8) (n - skip) f)

-- ---- both

gathered_from : (skip : ℕ) (bs : List Broken) (n : ℕ) (rows : List ℕ) → n + length bs < 18446744073709551616
    → gathered skip bs (G n rows) ≡ G (n + length bs) (laid_from skip n bs rows)
unfolding gathered rows_laid
gathered_from skip [] n rows h =
    let e : n ≡ n + 0 = omega arith in
    rw (drop-nil (skip - n), take-append-drop ((n - skip) * 8) rows) (ap (λ (m : ℕ). G m rows) e)
gathered_from skip (b ∷ bs) n rows h =
    let e : n + 1 + length bs ≡ n + suc (length bs) = omega arith in
    ap (λ (m : ℕ). gathered skip bs (G m (row_put skip n b rows))) (count_next n (omega (arith, h)))
    ∙ gathered_from skip bs (n + 1) (row_put skip n b rows) (omega (arith, h))
    ∙ ap (λ (m : ℕ). G m (laid_from skip (n + 1) bs (row_put skip n b rows))) e
    ∙ ap (λ (l : List ℕ). G (n + suc (length bs)) l) (row_any skip n b bs rows)

pub listed_all : (skip : ℕ) (bs : List Broken) (rows : List ℕ) (r : Listed) → length bs < 18446744073709551616 → r ≡ gathered skip bs (G 0 rows) → r ≡ listed bs skip rows
listed_all skip bs rows r h e =
    let none : 0 - skip ≡ 0 = omega arith in
    let all : skip - 0 ≡ skip = omega arith in
    let count : 0 + length bs ≡ length bs = omega arith in
    e ∙ gathered_from skip bs 0 rows (omega (arith, h)) ∙ rw (none, all, count)
