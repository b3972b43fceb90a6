-- Laws of text put into the room that another has: what fits is taken, and spaces fill the rest.
-- Assumes nothing.
use mathlib.Core.Path.{◌≡◌, refl, sym, ap, ◌∙◌}
use mathlib.Core.List.{List, [], ◌∷◌, ◌++◌, append-nil}
use Prim.Native.Nat.{ℕ, zero, suc, ◌+◌, ◌-◌, ◌<◌, ◌≤◌, min}
use native.Mathlib.Nat.{zero-min, min-zero, suc-min-suc, suc-sub-suc, sub-zero}
use native.Mathlib.Numerals.{add-one}
use native.Mathlib.Omega.{arith}
use lib.ListN.{length, get_or, take, drop, set, replicate, drop_of_length-le}
use lib.Seq.{take-suc, take-suc-set}
use borrow.Rule.Slice.PartMut.{put_mid, Post-is, mid_len}
use Rattle.rules.specs.Moves.{fitted}

-- one byte more is copied
pub copy_next : (s from : List ℕ) (i : ℕ) → i < length s → i < length from → take i s ≡ take i from → take (i + 1) (set s i (get_or from i 0)) ≡ take (i + 1) from
copy_next s from i h k e =
    rw (add-one i, take-suc-set s i (get_or from i 0) h, take-suc from i 0 k)
    (ap (λ (l : List ℕ). l ++ (get_or from i 0 ∷ [])) e)

pub fitted_is : (n : ℕ) (from : List ℕ) → fitted n from ≡ take (min n (length from)) from ++ replicate (n - min n (length from)) 32
unfolding fitted
fitted_is zero from = rw (zero-min (length from)) refl
fitted_is (suc n) [] = rw (min-zero (suc n), sub-zero (suc n)) (ap (λ (l : List ℕ). 32 ∷ l) (fitted_is n [] ∙ rw (min-zero n, sub-zero n) refl))
fitted_is (suc n) (x ∷ xs) = rw (suc-min-suc n (length xs), suc-sub-suc n (min n (length xs))) (ap (λ (l : List ℕ). x ∷ l) (fitted_is n xs))

-- the rest is filled: what comes back of the part behind the m bytes that are copied
pub fit_end : (s from ys : List ℕ) (n m i : ℕ) → length s ≡ n → m ≡ min n (length from) → i ≤ m → m ≤ i → take i s ≡ take i from
    → ys ≡ replicate (length (take (length s - m) (drop m s))) 32
    → put_mid m (length s - m) s ys ≡ fitted n from
fit_end s from ys n m i l e h k t f =
    let j : i ≡ m = omega arith in
    let room : m ≤ length s = omega arith in
    let rest : drop (length s - m) (drop m s) ≡ [] = Post-is m (length s) s room ∙ drop_of_length-le s {i = length s} (omega arith) in
    let front : take m s ≡ take m from = rw j at t in
    let back : ys ≡ replicate (n - m) 32 = f ∙ ap (λ (x : ℕ). replicate x 32) (mid_len m (length s) s (omega arith) ∙ ap (λ (x : ℕ). x - m) l) in
    rw (rest, append-nil ys, front, back) (sym (fitted_is n from ∙ rw (sym e) refl))
