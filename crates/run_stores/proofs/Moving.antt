-- Laws of moving text inside the data: one byte of either direction, the spaces behind a text that is too short, and those before a mask.
-- Assumes nothing.
use Prim.Native.Nat.{ℕ, ◌+◌, ◌-◌, ◌<◌, ◌≤◌, min}
use native.Mathlib.Nat.{add-zero, sub_self, sub-zero, min-eq_left, min-eq_right}
use native.Mathlib.Numerals.{add-one}
use native.Mathlib.Omega.{arith}
use mathlib.Core.Path.{◌≡◌, refl, sym, ap, ◌∙◌}
use mathlib.Core.List.{List, ◌++◌, append-nil}
use lib.ListN.{length, take, drop, get_or, set, replicate, length-replicate}
use lib.Seq.{drop-cons, drop-drop, take-add, take-take, take-length, set_split, drop_at}
use borrow.Rule.Slice.PartMut.{put_mid, mid_len}
use Rattle.rules.specs.Moves.{fitted}
use Rattle.rules.specs.Masks.{rightmost}
use Rattle.rules.proofs.Sizes.{part_length}
use Rattle.alpha.proofs.Fitting.{fitted_is}
use Rattle.rules_run.specs.Turns.{stored}
use Rattle.rules_run.proofs.Stored.{stored_low, stored_high, stored_length, stored_none, stored_append, stored_prepend, stored_part}

module _ (d : List ℕ) where
  -- ---- both directions

  -- two parts that touch
  joined : (b m n : ℕ) → take m (drop b d) ++ take n (drop (b + m) d) ≡ take (m + n) (drop b d)
  joined b m n = sym (take-add m n (drop b d) ∙ ap (λ (l : List ℕ). take m (drop b d) ++ take n l) (drop-drop m b d))

  -- a byte that is still as it was goes to k
  byte : (x : List ℕ) (k b : ℕ) → k < length x → b < length d → get_or x b 0 ≡ get_or d b 0
      → set x k (get_or x b 0) ≡ stored x k (take 1 (drop b d))
  unfolding stored
  byte x k b hk hb e = rw (e, set_split x k (get_or d b 0) hk, drop-cons d b 0 hb, ← add-one k)

  -- ---- a turn of each

  pub up_turn : (to from n : ℕ) → to ≤ from → from + n < length d
      → set (stored d to (take n (drop from d))) (to + n) (get_or (stored d to (take n (drop from d))) (from + n) 0)
      ≡ stored d to (take (n + 1) (drop from d))
  up_turn to from n h k =
      let s : List ℕ = take n (drop from d) in
      let l : length s ≡ n = part_length d from n (omega arith) in
      let e : to + n ≡ to + length s = omega arith in
      let room : to + n < length (stored d to s) = omega (arith, stored_length d to s (omega arith)) in
      byte (stored d to s) (to + n) (from + n) room k (stored_high d to s (from + n) (omega arith) (omega arith))
      ∙ ap (λ (a : ℕ). stored (stored d to s) a (take 1 (drop (from + n) d))) e
      ∙ stored_append d to s (take 1 (drop (from + n) d)) (omega arith)
      ∙ ap (stored d to) (joined from n 1)

  down_byte : (a b n : ℕ) → b ≤ a → a + 1 + n ≤ length d
      → set (stored d (a + 1) (take n (drop (b + 1) d))) a (get_or (stored d (a + 1) (take n (drop (b + 1) d))) b 0)
      ≡ stored d a (take (1 + n) (drop b d))
  down_byte a b n h k =
      let s : List ℕ = take n (drop (b + 1) d) in
      let l : length s ≡ n = part_length d (b + 1) n (omega arith) in
      let one : length (take 1 (drop b d)) ≡ 1 = part_length d b 1 (omega arith) in
      let e : a + 1 ≡ a + length (take 1 (drop b d)) = omega arith in
      let room : a < length (stored d (a + 1) s) = omega (arith, stored_length d (a + 1) s (omega arith)) in
      byte (stored d (a + 1) s) a b room (omega arith) (stored_low d (a + 1) s b (omega arith) (omega arith))
      ∙ ap (λ (j : ℕ). stored (stored d j s) a (take 1 (drop b d))) e
      ∙ stored_prepend d a (take 1 (drop b d)) s (omega arith)
      ∙ ap (stored d a) (joined b 1 n)

  pub down_turn : (to from n i : ℕ) → from ≤ to → to + n ≤ length d → 0 < i → i ≤ n
      → set (stored d (to + i) (take (n - i) (drop (from + i) d))) (to + (i - 1)) (get_or (stored d (to + i) (take (n - i) (drop (from + i) d))) (from + (i - 1)) 0)
      ≡ stored d (to + (i - 1)) (take (n - (i - 1)) (drop (from + (i - 1)) d))
  down_turn to from n i h k p q =
      let a : to + i ≡ to + (i - 1) + 1 = omega arith in
      let b : from + i ≡ from + (i - 1) + 1 = omega arith in
      let m : n - (i - 1) ≡ 1 + (n - i) = omega arith in
      rw (a, b, m) (down_byte (to + (i - 1)) (from + (i - 1)) (n - i) (omega arith) (omega arith))

  -- ---- where the loops start and end

  pub up_start : (to from : ℕ) → d ≡ stored d to (take 0 (drop from d))
  up_start to from = sym (stored_none d to)

  pub down_start : (to from n : ℕ) → d ≡ stored d (to + n) (take (n - n) (drop (from + n) d))
  down_start to from n = rw (sub_self n) (sym (stored_none d (to + n)))

  pub down_end : (to from n : ℕ) → stored d (to + 0) (take (n - 0) (drop (from + 0) d)) ≡ stored d to (take n (drop from d))
  down_end to from n = rw (add-zero to, add-zero from, sub-zero n)

  -- ---- text cut or filled

  pub cut : (start len from count : ℕ) → len ≤ count → from + count ≤ length d
      → stored d start (take len (drop from d)) ≡ stored d start (fitted len (take count (drop from d)))
  cut start len from count h k =
      let s : List ℕ = take count (drop from d) in
      let m : min len (length s) ≡ len = min-eq_left (omega (arith, part_length d from count k)) in
      ap (stored d start)
      (sym (fitted_is len s ∙ rw (m, sub_self len, append-nil (take len s)) (take-take len count (drop from d) h)))

  -- the part from a to e came back as ys, all spaces
  pub filled : (start len from count : ℕ) (ys : List ℕ) → count ≤ len → start + len ≤ length d → from + count ≤ length d
      → ys ≡ replicate (length (take (start + len - (start + count)) (drop (start + count) (stored d start (take count (drop from d)))))) 32
      → put_mid (start + count) (start + len - (start + count)) (stored d start (take count (drop from d))) ys
      ≡ stored d start (fitted len (take count (drop from d)))
  filled start len from count ys h k l q =
      let s : List ℕ = take count (drop from d) in
      let x : List ℕ = stored d start s in
      let n : length s ≡ count = part_length d from count l in
      let room : start + len ≤ length x = omega (arith, stored_length d start s (omega arith)) in
      let w : start + len - (start + count) ≡ len - length s = omega arith in
      let f : ys ≡ replicate (len - length s) 32 = q ∙ ap (λ (j : ℕ). replicate j 32) (mid_len (start + count) (start + len) x room ∙ w) in
      let m : min len (length s) ≡ length s = min-eq_right (omega arith) in
      let a : start + count ≡ start + length s = omega arith in
      stored_part x (start + count) (start + len) ys (omega arith) (ap length f ∙ length-replicate (len - length s) 32 ∙ sym w)
      ∙ ap (λ (j : ℕ). stored x j ys) a
      ∙ stored_append d start s ys (omega arith)
      ∙ ap (stored d start) (rw f (sym (fitted_is len s ∙ rw (m, take-length s))))

  -- ---- text at the right end

  pub cut_left : (start len from count : ℕ) → len ≤ count → from + count ≤ length d
      → stored d start (take len (drop (from + (count - len)) d)) ≡ stored d start (rightmost len (take count (drop from d)))
  cut_left start len from count h k =
      let s : List ℕ = take count (drop from d) in
      let n : length s ≡ count = part_length d from count k in
      let none : len - length s ≡ 0 = omega arith in
      let some : length s - len ≡ count - len = omega arith in
      let whole : count - len + len ≡ count = omega arith in
      let front : List ℕ = take (count - len) (drop from d) in
      let last : List ℕ = take len (drop (from + (count - len)) d) in
      let split : front ++ last ≡ s = joined from (count - len) len ∙ ap (λ (j : ℕ). take j (drop from d)) whole in
      let kept : drop (count - len) s ≡ last = ap (drop (count - len)) (sym split) ∙ drop_at front last (count - len) (part_length d from (count - len) (omega arith)) in
      ap (stored d start) (sym (rw (none, some) kept))

  -- the part before the text came back as ys, all spaces
  pub spaced : (start len from count : ℕ) (ys : List ℕ) → count ≤ len → start + len ≤ length d → from + count ≤ length d
      → ys ≡ replicate (length (take (start + (len - count) - start) (drop start (stored d (start + (len - count)) (take count (drop from d)))))) 32
      → put_mid start (start + (len - count) - start) (stored d (start + (len - count)) (take count (drop from d))) ys
      ≡ stored d start (rightmost len (take count (drop from d)))
  spaced start len from count ys h k l q =
      let s : List ℕ = take count (drop from d) in
      let a : ℕ = start + (len - count) in
      let x : List ℕ = stored d a s in
      let n : length s ≡ count = part_length d from count l in
      let room : a ≤ length x = omega (arith, stored_length d a s (omega arith)) in
      let w : a - start ≡ len - length s = omega arith in
      let f : ys ≡ replicate (len - length s) 32 = q ∙ ap (λ (j : ℕ). replicate j 32) (mid_len start a x room ∙ w) in
      let m : length ys ≡ len - length s = ap length f ∙ length-replicate (len - length s) 32 in
      let e : a ≡ start + length ys = omega arith in
      let none : length s - len ≡ 0 = omega arith in
      stored_part x start a ys (omega arith) (m ∙ sym w)
      ∙ ap (λ (j : ℕ). stored (stored d j s) start ys) e
      ∙ stored_prepend d start ys s (omega arith)
      ∙ ap (stored d start) (rw (f, none) refl)
