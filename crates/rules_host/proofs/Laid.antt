-- What is put at the front of a slice: all that fits at once, or one number after the other.
-- Assumes nothing.
use Prim.Native.Nat.{ℕ, zero, suc, ◌+◌, ◌<◌, ◌≤◌, min}
use native.Mathlib.Numerals.{add-one}
use native.Mathlib.Omega.{arith}
use mathlib.Core.Path.{◌≡◌, refl, sym, ap, ◌∙◌}
use mathlib.Core.List.{List, [], ◌∷◌, ◌++◌}
use lib.ListN.{length, get_or, take, drop, set}
use lib.Seq.{take_all}
use Rattle.rules_host.specs.Laid.{laid}

-- The slice keeps its length.
pub length_laid : (xs l : List ℕ) → length (laid xs l) ≡ length l
unfolding laid
length_laid [] l = refl
length_laid (x ∷ xs) [] = refl
length_laid (x ∷ xs) (y ∷ l) = ap suc (length_laid xs l)

-- As many numbers as the slice has replace it.
pub laid_same : (xs l : List ℕ) → length xs ≡ length l → laid xs l ≡ xs
unfolding laid
laid_same [] [] h = refl
laid_same [] (y ∷ l) h = absurd (omega arith)
laid_same (x ∷ xs) [] h = absurd (omega arith)
laid_same (x ∷ xs) (y ∷ l) h = ap (λ (m : List ℕ). x ∷ m) (laid_same xs l (omega arith))

-- As many values as fit stand before the rest of the slice.
module _ {A : Type 0} where
  front : (xs l : List A) (n : ℕ) → n ≡ min (length xs) (length l) → take n xs ++ drop n l ≡ laid xs l
  unfolding laid
  front [] l zero h = refl
  front [] l (suc n) h = absurd (omega arith)
  front (x ∷ xs) [] zero h = refl
  front (x ∷ xs) [] (suc n) h = absurd (omega arith)
  front (x ∷ xs) (y ∷ l) zero h = absurd (omega arith)
  front (x ∷ xs) (y ∷ l) (suc n) h = ap (λ (m : List A). x ∷ m) (front xs l n (omega arith))

  pub laid_front : (xs l ys : List A) (n : ℕ) → n ≡ min (length xs) (length l) → ys ≡ take n xs → ys ++ drop n l ≡ laid xs l
  laid_front xs l ys n h e = ap (λ (m : List A). m ++ drop n l) e ∙ front xs l n h

-- None is put yet.
pub laid_none : (xs l : List ℕ) → l ≡ laid (take 0 xs) l
unfolding laid
laid_none xs l = refl

-- One number more.
next : (xs l : List ℕ) (k : ℕ) → k < length xs → set (laid (take k xs) l) k (get_or xs k 0) ≡ laid (take (suc k) xs) l
unfolding laid
next [] l k h = absurd (omega arith)
next (x ∷ xs) [] zero h = refl
next (x ∷ xs) [] (suc k) h = refl
next (x ∷ xs) (y ∷ l) zero h = refl
next (x ∷ xs) (y ∷ l) (suc k) h = ap (λ (m : List ℕ). x ∷ m) (next xs l k (omega arith))

pub laid_next : (xs l m : List ℕ) (k : ℕ) → k < length xs → m ≡ laid (take k xs) l → set m k (get_or xs k 0) ≡ laid (take (k + 1) xs) l
laid_next xs l m k h e = ap (λ (x : List ℕ). set x k (get_or xs k 0)) e ∙ next xs l k h ∙ ap (λ (j : ℕ). laid (take j xs) l) (sym (add-one k))

-- The slice is full, and what is left of the numbers has no room.
full : (xs l : List ℕ) (k : ℕ) → length l ≤ k → laid (take k xs) l ≡ laid xs l
unfolding laid
full [] l zero h = refl
full [] l (suc k) h = refl
full (x ∷ xs) [] zero h = refl
full (x ∷ xs) [] (suc k) h = refl
full (x ∷ xs) (y ∷ l) zero h = absurd (omega arith)
full (x ∷ xs) (y ∷ l) (suc k) h = ap (λ (m : List ℕ). x ∷ m) (full xs l k (omega arith))

pub laid_full : (xs l m : List ℕ) (k : ℕ) → length m ≤ k → m ≡ laid (take k xs) l → m ≡ laid xs l
laid_full xs l m k h e =
    let f : length m ≡ length l = ap length e ∙ length_laid (take k xs) l in
    e ∙ full xs l k (omega arith)

-- All of them are put.
pub laid_all : (xs l m : List ℕ) (k : ℕ) → length xs ≤ k → m ≡ laid (take k xs) l → m ≡ laid xs l
laid_all xs l m k h e = e ∙ ap (λ (x : List ℕ). laid x l) (take_all k xs h)
