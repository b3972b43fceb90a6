-- Laws of a mask that was laid in the data and edited there.
-- Assumes nothing.
use mathlib.Core.Path.{◌≡◌, sym, ap, ◌∙◌}
use mathlib.Core.List.{List, ◌++◌, append_assoc}
use Prim.Native.Nat.{ℕ, ◌+◌, ◌-◌, ◌≤◌}
use native.Mathlib.Omega.{arith}
use lib.IntN.{ℤ}
use lib.ListN.{length, take, drop, length-append}
use lib.Seq.{take_at, drop_at, length-take-le}
use borrow.Rule.Slice.PartMut.{put_mid}
use Rattle.rules.specs.declared.Plan.{Plan}
use Rattle.rules.specs.Masks.{plan_of, finished, rightmost, formatted}
use Rattle.rules.proofs.Masks.{length_formatted, length_rightmost, finished_is}
use Rattle.rules_run.specs.Turns.{stored}
use Rattle.rules_run.proofs.Stored.{stored_part}

-- a part of the data that was stored, and is lent
stored_back : (d : List ℕ) (a e : ℕ) (x : List ℕ) → a ≤ length d → length x ≡ e - a → take (e - a) (drop a (stored d a x)) ≡ x
unfolding stored
stored_back d a e x h l =
    ap (take (e - a)) (drop_at (take a d) (x ++ drop (a + length x) d) a (length-take-le a d h)) ∙ take_at x (drop (a + length x) d) (e - a) l

-- of two stores in one place the last counts
stored_twice : (d : List ℕ) (a : ℕ) (x y : List ℕ) → a + length x ≤ length d → length y ≡ length x → stored (stored d a x) a y ≡ stored d a y
unfolding stored
stored_twice d a x y h l =
    let f : length (take a d) ≡ a = length-take-le a d (omega arith) in
    let r : List ℕ = drop (a + length x) d in
    let p : List ℕ = take a d ++ x in
    let m : length p ≡ a + length x = length-append (take a d) x ∙ ap (λ (k : ℕ). k + length x) f in
    let front : take a (take a d ++ (x ++ r)) ≡ take a d = take_at (take a d) (x ++ r) a f in
    let back : drop (a + length x) (take a d ++ (x ++ r)) ≡ r = rw (sym (append_assoc (take a d) x r)) (drop_at p r (a + length x) m) in
    rw (l, front, back)

-- the part came back as ys
pub format_part : (d d₁ ys m : List ℕ) (start len : ℕ) (v : ℤ) (g : Plan) → start + len ≤ length d → g ≡ plan_of len m v → d₁ ≡ stored d start (rightmost len m)
    → ys ≡ finished g (take (start + len - start) (drop start d₁)) → put_mid start (start + len - start) d₁ ys ≡ stored d start (formatted len m v)
format_part d d₁ ys m start len v g h e f q =
    let x : List ℕ = rightmost len m in
    let l : length x ≡ len = length_rightmost len m in
    let w : start + len - start ≡ len = omega arith in
    let part : take (start + len - start) (drop start d₁) ≡ x = rw f (stored_back d start (start + len) x (omega arith) (l ∙ sym w)) in
    let put : ys ≡ formatted len m v = q ∙ finished_is len m v g (take (start + len - start) (drop start d₁)) e part in
    let k : length ys ≡ len = ap length put ∙ length_formatted len m v in
    stored_part d₁ start (start + len) ys (omega arith) (k ∙ sym w)
    ∙ ap (λ (b : List ℕ). stored b start ys) f
    ∙ stored_twice d start x ys (omega (arith, l)) (k ∙ sym l)
    ∙ ap (stored d start) put
