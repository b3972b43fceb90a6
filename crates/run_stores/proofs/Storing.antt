-- A part of the data that was lent to a writer has come back: what it makes of the data is the rule's store, one law for each kind of store.
-- Assumes nothing.
use Prim.Native.Nat.{ℕ, ◌+◌, ◌-◌, ◌≤◌}
use native.Mathlib.Nat.{add-sub_cancel_left}
use native.Mathlib.Omega.{arith}
use mathlib.Core.Path.{◌≡◌, refl, sym, ap, ◌∙◌}
use mathlib.Core.Bool.{Bool, true, false, cond}
use mathlib.Core.List.{List}
use lib.IntN.{ℤ}
use lib.ListN.{length, take, drop, replicate, length-drop}
use lib.Seq.{length-take-le}
use mir.Syntax.{w64}
use mir.Val.{SFits, to_z, of_z}
use borrow.Rule.Slice.PartMut.{put_mid}
use Rattle.rules.specs.Moves.{written, shown, fitted, upcased, locased}
use Rattle.rules.specs.Masks.{formatted}
use Rattle.rules.proofs.Signed.{back}
use Rattle.rules.proofs.Decimals.{length_written, length_shown, length_fitted, length_upcased, length_locased, length_blanks, length_zeros}
use Rattle.rules.proofs.Masks.{length_formatted}
use Rattle.rules_run.specs.Turns.{stored, cased, cleared}
use Rattle.rules_run.proofs.Stored.{stored_part}

-- the n bytes of the data from a on, lent as the part from a to a + n, and what came back of them
module _ (d : List ℕ) (a n : ℕ) (room : a + n ≤ length d) where
  lent : take (a + n - a) (drop a d) ≡ take n (drop a d)
  lent = ap (λ (k : ℕ). take k (drop a d)) (add-sub_cancel_left a n)

  lent_length : length (take (a + n - a) (drop a d)) ≡ n
  lent_length = ap length lent ∙ length-take-le n (drop a d) (omega (arith, length-drop a d))

  pub lent_most : (m : ℕ) → n ≤ m → length (take (a + n - a) (drop a d)) ≤ m
  lent_most m h = omega (arith, lent_length)

  -- new characters, as many as were lent
  put_back : (ys new : List ℕ) → length new ≡ n → ys ≡ new → put_mid a (a + n - a) d ys ≡ stored d a new
  put_back ys new l e =
      stored_part d a (a + n) ys (omega arith) (ap length e ∙ l ∙ sym (add-sub_cancel_left a n)) ∙ ap (stored d a) e

  -- characters that are made by their number
  made : (ys : List ℕ) (f : ℕ → List ℕ) → length (f n) ≡ n → ys ≡ f (length (take (a + n - a) (drop a d))) → put_mid a (a + n - a) d ys ≡ stored d a (f n)
  made ys f l e = put_back ys (f n) l (e ∙ ap f lent_length)

  pub part_written : (ys : List ℕ) (sign : ℕ) {v : ℤ} → SFits w64 v → ys ≡ written sign (length (take (a + n - a) (drop a d))) (to_z w64 (of_z w64 v))
      → put_mid a (a + n - a) d ys ≡ stored d a (written sign n v)
  part_written ys sign {v} f e =
      made ys (λ k. written sign k v) (length_written sign n v) (e ∙ ap (written sign (length (take (a + n - a) (drop a d)))) (back f))

  pub part_shown : (ys : List ℕ) {v : ℤ} → SFits w64 v → ys ≡ shown (length (take (a + n - a) (drop a d))) (to_z w64 (of_z w64 v))
      → put_mid a (a + n - a) d ys ≡ stored d a (shown n v)
  part_shown ys {v} f e = made ys (λ k. shown k v) (length_shown n v) (e ∙ ap (shown (length (take (a + n - a) (drop a d)))) (back f))

  -- b is the code's character
  pub part_cleared : (ys : List ℕ) (decimal : Bool) (b : ℕ) → b ≡ cond decimal 48 32 → ys ≡ replicate (length (take (a + n - a) (drop a d))) b
      → put_mid a (a + n - a) d ys ≡ stored d a (cleared decimal n)
  part_cleared ys true b h e = made ys (λ k. replicate k 48) (length_zeros n) (rw h at e)
  part_cleared ys false b h e = made ys (λ k. replicate k 32) (length_blanks n) (rw h at e)

  pub part_upcased : (ys : List ℕ) (upper : Bool) → upper ≡ true → ys ≡ upcased (take (a + n - a) (drop a d))
      → put_mid a (a + n - a) d ys ≡ stored d a (cased upper (take n (drop a d)))
  part_upcased ys upper h e =
      rw h (put_back ys (upcased (take n (drop a d))) (length_upcased (take n (drop a d)) ∙ ap length (sym lent) ∙ lent_length) (e ∙ ap upcased lent))

  pub part_locased : (ys : List ℕ) (upper : Bool) → upper ≡ false → ys ≡ locased (take (a + n - a) (drop a d))
      → put_mid a (a + n - a) d ys ≡ stored d a (cased upper (take n (drop a d)))
  part_locased ys upper h e =
      rw h (put_back ys (locased (take n (drop a d))) (length_locased (take n (drop a d)) ∙ ap length (sym lent) ∙ lent_length) (e ∙ ap locased lent))

-- the count characters of the literals at place, as the part of them that is read: x and y are the code's own copies of place and count
module _ (literals : List ℕ) (place count : ℕ) where
  part : (read : List ℕ) (x y : ℕ) → read ≡ literals → x ≡ place → y ≡ count → take (x + y - x) (drop x read) ≡ take count (drop place literals)
  part read x y e p q = rw (e, p, q, add-sub_cancel_left place count)

  module _ (d : List ℕ) (a n : ℕ) (ys read : List ℕ) (room : a + n ≤ length d) (same : read ≡ literals) where
    pub part_literal : (x y : ℕ) → x ≡ place → y ≡ count → ys ≡ fitted (length (take (a + n - a) (drop a d))) (take (x + y - x) (drop x read))
        → put_mid a (a + n - a) d ys ≡ stored d a (fitted n (take count (drop place literals)))
    part_literal x y p q e =
        let new : List ℕ = take count (drop place literals) in
        made d a n room ys (λ k. fitted k new) (length_fitted n new) (e ∙ ap (fitted (length (take (a + n - a) (drop a d)))) (part read x y same p q))

    -- the same of a mask that is a literal
    pub part_formatted : {v : ℤ} → SFits w64 v → ys ≡ formatted (length (take (a + n - a) (drop a d))) (take (place + count - place) (drop place read)) (to_z w64 (of_z w64 v))
        → put_mid a (a + n - a) d ys ≡ stored d a (formatted n (take count (drop place literals)) v)
    part_formatted {v} f e =
        let new : List ℕ = take count (drop place literals) in
        let long : ℕ = length (take (a + n - a) (drop a d)) in
        made d a n room ys (λ k. formatted k new v) (length_formatted n new v)
        (e ∙ ap (λ (m : List ℕ). formatted long m (to_z w64 (of_z w64 v))) (part read place count same refl refl) ∙ ap (formatted long new) (back f))
