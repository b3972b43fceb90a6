-- Laws of a mask laid at the right end of a destination, and edited there.
-- Assumes nothing.
use mathlib.Core.Path.{◌≡◌, refl, sym, ap, ◌∙◌}
use mathlib.Core.List.{List, [], ◌∷◌, ◌++◌, append-nil}
use Prim.Native.Nat.{ℕ, zero, suc, ◌-◌, ◌≤◌}
use native.Mathlib.Omega.{arith}
use lib.IntN.{ℤ}
use lib.ListN.{length, take, drop, replicate, drop_of_length-le, length-append, length-drop, length-replicate}
use lib.Seq.{take_all, take-append_seam}
use borrow.Rule.Slice.PartMut.{put_mid, Post-is, mid_len}
use Rattle.rules.specs.declared.Plan.{Plan}
use Rattle.rules.specs.Moves.{fitted, blanks}
use Rattle.rules.specs.Masks.{plan_of, finished, rightmost, formatted}
use Rattle.rules.proofs.Masks.{finished_is}

-- text of its destination's length is put there as it is
fitted_same : (n : ℕ) (xs : List ℕ) → length xs ≡ n → fitted n xs ≡ xs
unfolding fitted
fitted_same zero [] h = refl
fitted_same zero (x ∷ xs) h = absurd (omega (arith, h))
fitted_same (suc n) [] h = absurd (omega (arith, h))
fitted_same (suc n) (x ∷ xs) h = ap (λ (l : List ℕ). x ∷ l) (fitted_same n xs (omega (arith, h)))

-- s₁ has the spaces, ys is what is put behind them
pub lay_end : (s s₁ xs ys m : List ℕ) (gap cut : ℕ)
    → gap ≡ length s - length m → cut ≡ length m - length s
    → xs ≡ replicate (length (take (gap - 0) (drop 0 s))) 32 → s₁ ≡ put_mid 0 (gap - 0) s xs
    → ys ≡ fitted (length (take (length s - gap) (drop gap s₁))) (take (length m - cut) (drop cut m))
    → put_mid gap (length s - gap) s₁ ys ≡ rightmost (length s) m
lay_end s s₁ xs ys m gap cut a b e f g =
    let some : gap ≤ length s = omega arith in
    let room : length (take (gap - 0) (drop 0 s)) ≡ gap = mid_len 0 gap s some ∙ omega arith in
    let spaces : xs ≡ blanks gap = e ∙ ap (λ (k : ℕ). replicate k 32) room in
    let long : length xs ≡ gap = ap length spaces ∙ length-replicate {A = ℕ} gap 32 in
    let l : length s₁ ≡ length s = ap length f ∙ length-append xs (drop (gap - 0) (drop 0 s)) ∙ omega (arith, long, length-drop (gap - 0) s) in
    let front : take gap s₁ ≡ xs = rw f (ap (λ (k : ℕ). take k (xs ++ drop (gap - 0) (drop 0 s))) (sym long) ∙ take-append_seam xs (drop (gap - 0) (drop 0 s))) in
    let rest : drop (length s - gap) (drop gap s₁) ≡ [] = Post-is gap (length s) s₁ some ∙ drop_of_length-le s₁ {i = length s} (omega (arith, l)) in
    let most : cut ≤ length m = omega arith in
    let last : take (length m - cut) (drop cut m) ≡ drop cut m = take_all (length m - cut) (drop cut m) (omega (arith, length-drop cut m)) in
    let put : ys ≡ drop cut m =
    g ∙ ap (λ (x : List ℕ). fitted (length (take (length s - gap) (drop gap s₁))) x) last
    ∙ fitted_same (length (take (length s - gap) (drop gap s₁))) (drop cut m) (length-drop cut m ∙ omega (arith, a, b) ∙ sym (mid_len gap (length s) s₁ (omega (arith, l)))) in
    rw (front, rest, append-nil ys, put, spaces, a, b) refl

pub format_end : (n : ℕ) (m : List ℕ) (v : ℤ) (g : Plan) (s z : List ℕ) → g ≡ plan_of n m v → s ≡ rightmost n m → z ≡ finished g s → z ≡ formatted n m v
format_end n m v g s z e f h = h ∙ finished_is n m v g s e f
