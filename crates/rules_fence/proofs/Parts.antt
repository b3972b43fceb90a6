-- Parts of the data, before and after a store: a part that the store does not touch is the same, and one that the store ends with has a new tail.
-- Assumes nothing.
use Prim.Native.Nat.{ℕ, ◌+◌, ◌-◌, ◌<◌, ◌≤◌}
use native.Mathlib.Omega.{arith}
use mathlib.Core.Path.{◌≡◌, refl, sym, ap, ◌∙◌}
use mathlib.Core.Bool.{Bool, true, false}
use mathlib.Core.List.{List, ◌++◌}
use lib.Dec.{ltb}
use lib.ListN.{length, take, drop, get_or, length-append, get_or-append}
use lib.Seq.{length-take-le, get_or-append-add, get_or-take, get_or-drop, ext_get_or}
use borrow.Author.Tests.{ltb-true, ltb-false}
use Rattle.rules.proofs.Sizes.{part_length}
use Rattle.rules_run.specs.Turns.{stored}
use Rattle.rules_run.proofs.Stored.{stored_low, stored_mid, stored_high, stored_length}

module _ (d : List ℕ) (a n : ℕ) where
  pub part_char : (i : ℕ) → i < n → get_or (take n (drop a d)) i 0 ≡ get_or d (a + i) 0
  part_char i l = get_or-take n (drop a d) i 0 l ∙ get_or-drop a d i 0

-- A part of a part is a part.
pub part_part : (d : List ℕ) (e z a n : ℕ) → e + z ≤ length d → e ≤ a → a + n ≤ e + z → take n (drop (a - e) (take z (drop e d))) ≡ take n (drop a d)
part_part d e z a n u h k =
    ext_get_or 0 (take n (drop (a - e) s)) (take n (drop a d)) (len ∙ sym (part_length d a n (omega arith)))
    (λ i l.
    let l' : i < n = omega (arith, len) in
    let q : e + (a - e + i) ≡ a + i = omega arith in
    part_char s (a - e) n i l' ∙ part_char d e z (a - e + i) (omega arith) ∙ ap (λ (p : ℕ). get_or d p 0) q ∙ sym (part_char d a n i l'))
  where
    s : List ℕ
    s = take z (drop e d)

    len : length (take n (drop (a - e) (take z (drop e d)))) ≡ n
    len = part_length (take z (drop e d)) (a - e) n (omega (arith, part_length d e z u))

-- ---- after a store

module _ (d : List ℕ) (a : ℕ) (new : List ℕ) (h : a + length new ≤ length d) (e z : ℕ) (u : e + z ≤ length d) where
  len : length (take z (drop e (stored d a new))) ≡ z
  len = part_length (stored d a new) e z (omega (arith, stored_length d a new h))

  same_part : ((i : ℕ) → i < z → get_or (stored d a new) (e + i) 0 ≡ get_or d (e + i) 0) → take z (drop e (stored d a new)) ≡ take z (drop e d)
  same_part f =
      ext_get_or 0 (take z (drop e (stored d a new))) (take z (drop e d)) (len ∙ sym (part_length d e z u))
      (λ i k.
      let k' : i < z = omega (arith, len) in
      part_char (stored d a new) e z i k' ∙ f i k' ∙ sym (part_char d e z i k'))

  pub part_before : e + z ≤ a → take z (drop e (stored d a new)) ≡ take z (drop e d)
  part_before q = same_part (λ i k. stored_low d a new (e + i) (omega arith) (omega arith))

  pub part_behind : a + length new ≤ e → take z (drop e (stored d a new)) ≡ take z (drop e d)
  part_behind q = same_part (λ i k. stored_high d a new (e + i) (omega arith) (omega arith))

  -- A store that ends with the part writes its tail.
  pub part_tail : e ≤ a → a + length new ≡ e + z → take z (drop e (stored d a new)) ≡ take (a - e) (take z (drop e d)) ++ new
  part_tail q w =
      ext_get_or 0 (take z (drop e (stored d a new))) (take (a - e) (take z (drop e d)) ++ new) (len ∙ sym whole) (λ i k. at i (omega (arith, len)) (ltb i (a - e)) refl)
    where
      front : length (take (a - e) (take z (drop e d))) ≡ a - e
      front = length-take-le (a - e) (take z (drop e d)) (omega (arith, part_length d e z u))

      whole : length (take (a - e) (take z (drop e d)) ++ new) ≡ z
      whole = length-append (take (a - e) (take z (drop e d))) new ∙ omega (arith, front)

      at : (i : ℕ) → i < z → (t : Bool) → ltb i (a - e) ≡ t → get_or (take z (drop e (stored d a new))) i 0 ≡ get_or (take (a - e) (take z (drop e d)) ++ new) i 0
      at i k true t =
          let i' : i < a - e = ltb-true i (a - e) t in
          part_char (stored d a new) e z i k
          ∙ stored_low d a new (e + i) (omega arith) (omega arith)
          ∙ sym (part_char d e z i k)
          ∙ sym (get_or-take (a - e) (take z (drop e d)) i 0 i')
          ∙ sym (get_or-append (take (a - e) (take z (drop e d))) new 0 i (omega (arith, front)))
      at i k false t =
          let i' : a - e ≤ i = ltb-false i (a - e) t in
          let j = i - (a - e) in
          let x : e + i ≡ a + j = omega arith in
          let y : length (take (a - e) (take z (drop e d))) + j ≡ i = omega (arith, front) in
          part_char (stored d a new) e z i k
          ∙ ap (λ (p : ℕ). get_or (stored d a new) p 0) x
          ∙ stored_mid d a new j (omega arith) (omega arith)
          ∙ sym (get_or-append-add (take (a - e) (take z (drop e d))) new j 0)
          ∙ ap (λ (p : ℕ). get_or (take (a - e) (take z (drop e d)) ++ new) p 0) y
