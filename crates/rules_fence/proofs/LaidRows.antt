-- The rows that are laid for a host: each row is that of its reference, and what lies beyond them stays.
--   row_at, stays    the row j is that of the reference j, and what lies behind the last whole row stays as it was
--   laid_length      there are as many numbers as before
-- and of a call that tells how many references a list has and leaves rows of those from the number skip on:
--   none_counted     the count is 0 exactly where the list is empty
--   row_numbered     the row j is that of the reference skip + j
--   row_in, in_row   each row is that of a reference of the list, and each reference of the list has its row
--   left_alone, left_length    what lies beyond stays
--   first_numbers    the first two numbers are the statement and the rule of the first reference
-- Assumes nothing.
use Prim.Native.Nat.{ℕ, zero, suc, ◌+◌, ◌*◌, ◌<◌, ◌≤◌}
use native.Mathlib.Omega.{arith}
use mathlib.Core.Path.{◌≡◌, refl, sym, ap, ◌∙◌}
use mathlib.Core.Bool.{Bool, true, false, cond}
use mathlib.Core.List.{List, [], ◌∷◌, ◌++◌}
use mathlib.Core.Logic.{◌↔◌, ◌⊎◌, inl, inr}
use lib.Dec.{leb}
use lib.ListN.{length, get_or, take, drop, length-drop}
use lib.Seq.{drop-nil, drop-drop}
use borrow.Author.Tests.{leb-true, le-leb, lt-leb}
use Rattle.rules_fence.specs.declared.Broken.{Broken}
use Rattle.rules_fence.specs.Breaches.{breach_number}
use Rattle.rules_fence.specs.Listed.{row_of, rows_laid, Listed, listed}
use Rattle.rules_fence.specs.Stands.{In, first_rule}
use Rattle.rules_fence.proofs.Heads.{some_none, same_head}

-- ---- the numbers of the rows

pub laid_length : (bs : List Broken) (l : List ℕ) → length (rows_laid bs l) ≡ length l
unfolding rows_laid
laid_length [] l = refl
laid_length (b ∷ bs) l = by (leb 8 (length l)) refl (laid_length bs (drop 8 l))
  where
    by : (t : Bool) → leb 8 (length l) ≡ t → length (rows_laid bs (drop 8 l)) ≡ length (drop 8 l) → length (cond t (row_of b ++ rows_laid bs (drop 8 l)) l) ≡ length l
    by true e more = omega (arith, leb-true 8 (length l) e, more, length-drop 8 l)
    by false e more = refl

-- Eight more.
eight_more : (n : ℕ) → suc n * 8 ≡ suc (suc (suc (suc (suc (suc (suc (suc (n * 8))))))))
eight_more n = omega arith

pub row_at : (j : ℕ) (bs : List Broken) (l : List ℕ) (b : Broken) (rest : List Broken) → drop j bs ≡ b ∷ rest → j * 8 + 8 ≤ length l
    → take 8 (drop (j * 8) (rows_laid bs l)) ≡ row_of b
unfolding rows_laid
row_at j [] l b rest e h = absurd (some_none b rest (sym e ∙ drop-nil j))
row_at zero (x ∷ bs) l b rest e h = rw (le-leb 8 (length l) (omega arith)) (ap row_of (same_head x b bs rest e))
row_at (suc j) (x ∷ bs) l b rest e h =
    rw (le-leb 8 (length l) (omega arith), eight_more j) (row_at j bs (drop 8 l) b rest e (omega (arith, length-drop 8 l)))

-- There is no row j: the list has none, or there is no room for it.
pub stays : (j : ℕ) (bs : List Broken) (l : List ℕ) → (length bs ≤ j) ⊎ (length l < j * 8 + 8) → drop (j * 8) (rows_laid bs l) ≡ drop (j * 8) l
unfolding rows_laid
stays j [] l h = refl
stays zero (b ∷ bs) l (inl h) = absurd (omega arith)
stays zero (b ∷ bs) l (inr h) = rw (lt-leb 8 (length l) (omega arith))
stays (suc j) (b ∷ bs) l h = by (leb 8 (length l)) refl (stays j bs (drop 8 l)) h
  where
    further : drop (j * 8) (drop 8 l) ≡ drop (suc j * 8) l
    further = let q : 8 + j * 8 ≡ suc j * 8 = omega arith in drop-drop (j * 8) 8 l ∙ ap (λ (k : ℕ). drop k l) q

    less : 8 ≤ length l → (length (b ∷ bs) ≤ suc j) ⊎ (length l < suc j * 8 + 8) → (length bs ≤ j) ⊎ (length (drop 8 l) < j * 8 + 8)
    less e (inl h) = inl (omega arith)
    less e (inr h) = inr (omega (arith, length-drop 8 l))

    by : (t : Bool) → leb 8 (length l) ≡ t → ((length bs ≤ j) ⊎ (length (drop 8 l) < j * 8 + 8) → drop (j * 8) (rows_laid bs (drop 8 l)) ≡ drop (j * 8) (drop 8 l))
        → (length (b ∷ bs) ≤ suc j) ⊎ (length l < suc j * 8 + 8)
        → drop (suc j * 8) (cond t (row_of b ++ rows_laid bs (drop 8 l)) l) ≡ drop (suc j * 8) l
    by true e more h =
        ap (λ (k : ℕ). drop k (row_of b ++ rows_laid bs (drop 8 l))) (eight_more j) ∙ more (less (leb-true 8 (length l) e) h) ∙ further
    by false e more h = refl

-- ---- the numbers of the list

in_at : (b : Broken) (bs : List Broken) → In b bs → (k : ℕ) × (rest : List Broken) × (k < length bs) × (drop k bs ≡ b ∷ rest)
in_at b [] h = absurd h
in_at b (x ∷ xs) (inl e) = (0, xs, omega arith, ap (λ (y : Broken). y ∷ xs) (sym e))
in_at b (x ∷ xs) (inr h) = let r = in_at b xs h in (suc r.0, r.1, omega (arith, r.2), r.3)

at_in : (k : ℕ) (bs : List Broken) → k < length bs → (b : Broken) × (rest : List Broken) × (drop k bs ≡ b ∷ rest) × In b bs
at_in k [] h = absurd (omega arith)
at_in zero (x ∷ xs) h = (x, xs, refl, inl refl)
at_in (suc k) (x ∷ xs) h = let r = at_in k xs (omega arith) in (r.0, r.1, r.2, inr r.3)

none_long : (bs : List Broken) → length bs ≡ 0 → bs ≡ []
none_long [] e = refl
none_long (b ∷ bs) e = absurd (omega arith)

-- ---- a call that answers n and leaves the numbers m of l

module _ (bs : List Broken) (skip : ℕ) (l : List ℕ) (n : ℕ) (m : List ℕ) (post : ◌≡◌ {A = Listed} (record { count = n; rows = m }) (listed bs skip l)) where
  counted : n ≡ length bs
  counted = ap (λ (x : Listed). x.count) post

  laid : m ≡ rows_laid (drop skip bs) l
  laid = ap (λ (x : Listed). x.rows) post

  pub none_counted : (n ≡ 0) ↔ (bs ≡ [])
  none_counted = (λ e. none_long bs (sym counted ∙ e), λ e. counted ∙ ap length e)

  pub row_numbered : (j : ℕ) (b : Broken) (rest : List Broken) → drop (skip + j) bs ≡ b ∷ rest → j * 8 + 8 ≤ length l → take 8 (drop (j * 8) m) ≡ row_of b
  row_numbered j b rest e h = ap (λ (x : List ℕ). take 8 (drop (j * 8) x)) laid ∙ row_at j (drop skip bs) l b rest (drop-drop j skip bs ∙ e) h

  pub row_in : (j : ℕ) → skip + j < n → j * 8 + 8 ≤ length l → (b : Broken) × In b bs × (take 8 (drop (j * 8) m) ≡ row_of b)
  row_in j h k = let r = at_in (skip + j) bs (omega (arith, counted)) in (r.0, r.3, row_numbered j r.0 r.1 r.2 k)

  pub in_row : (b : Broken) → In b bs → (k : ℕ) × (k < n) × ((j : ℕ) → skip + j ≡ k → j * 8 + 8 ≤ length l → take 8 (drop (j * 8) m) ≡ row_of b)
  in_row b h =
      let r = in_at b bs h in
      (r.0, omega (arith, counted, r.2), λ j e k. row_numbered j b r.1 (ap (λ (x : ℕ). drop x bs) e ∙ r.3) k)

  pub left_alone : (j : ℕ) → (n ≤ skip + j) ⊎ (length l < j * 8 + 8) → drop (j * 8) m ≡ drop (j * 8) l
  left_alone j h = ap (λ (x : List ℕ). drop (j * 8) x) laid ∙ stays j (drop skip bs) l (fewer h)
    where
      fewer : (n ≤ skip + j) ⊎ (length l < j * 8 + 8) → (length (drop skip bs) ≤ j) ⊎ (length l < j * 8 + 8)
      fewer (inl h) = inl (omega (arith, counted, length-drop skip bs))
      fewer (inr h) = inr h

  pub left_length : length m ≡ length l
  left_length = ap length laid ∙ laid_length (drop skip bs) l

  pub first_numbers : (b : Broken) (rest : List Broken) → bs ≡ b ∷ rest → skip ≡ 0 → 8 ≤ length l → (get_or m 0 0 ≡ b.statement) × (get_or m 1 0 ≡ breach_number (first_rule bs))
  unfolding rows_laid
  first_numbers b rest e z h =
      let q : m ≡ row_of b ++ rows_laid rest (drop 8 l) =
      laid ∙ ap (λ (k : ℕ). rows_laid (drop k bs) l) z ∙ ap (λ (x : List Broken). rows_laid x l) e ∙ rw (le-leb 8 (length l) h) in
      (ap (λ (x : List ℕ). get_or x 0 0) q, ap (λ (x : List ℕ). get_or x 1 0) q ∙ ap (λ (x : List Broken). breach_number (first_rule x)) (sym e))
