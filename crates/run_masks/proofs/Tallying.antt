-- Laws of the walk over a mask from the right, and of the picture that it gives.
-- Assumes nothing.
use mathlib.Core.Path.{◌≡◌, refl, sym, ap, ◌∙◌}
use mathlib.Core.Bool.{Bool, true, false}
use mathlib.Core.List.{List, [], ◌∷◌}
use Prim.Native.Nat.{ℕ, suc, ◌+◌, ◌-◌, ◌^◌, ◌≤◌, ◌<◌}
use native.Mathlib.Omega.{arith}
use lib.Dec.{eqb}
use lib.ListN.{length, get_or, drop, drop_of_length-le, length-drop}
use lib.Seq.{drop-cons}
use Rattle.rules.specs.declared.Tally.{Tally}
use Rattle.rules.specs.Masks.{placeb, more_by, tallied, tally_of}

counted_most : (b : Bool) (n k : ℕ) → n ≤ k → more_by b n ≤ suc k
counted_most true n k h = omega arith
counted_most false n k h = omega arith

moneys_most : (m : List ℕ) → (tally_of m).moneys ≤ length m
unfolding tally_of tallied
moneys_most [] = omega arith
moneys_most (c ∷ cs) = counted_most (eqb c 36) (tally_of cs).moneys (length cs) (moneys_most cs)

places_most : (m : List ℕ) → (tally_of m).places ≤ length m
unfolding tally_of tallied
places_most [] = omega arith
places_most (c ∷ cs) = counted_most (placeb c (tally_of cs).moneys) (tally_of cs).places (length cs) (places_most cs)

-- a count of some of the characters has room for one more
module _ (m : List ℕ) (t : Tally) (i : ℕ) (h : 0 < i) (k : i ≤ length m) (l : length m < 2 ^ 64) (e : t ≡ tally_of (drop i m)) where
  pub moneys_room : t.moneys + 1 < 2 ^ 64
  moneys_room = rw e (omega (arith, moneys_most (drop i m), length-drop i m))

  pub places_room : t.places + 1 < 2 ^ 64
  places_room = rw e (omega (arith, places_most (drop i m), length-drop i m))

pub tally_start : (m : List ℕ) (i : ℕ) → length m ≤ i → record { moneys = 0; places = 0; plain = false } ≡ tally_of (drop i m)
unfolding tally_of
tally_start m i h = rw (drop_of_length-le m h) refl

pub tally_turn : (m : List ℕ) (i : ℕ) (t r : Tally) → 0 < i → i ≤ length m → t ≡ tally_of (drop i m) → r ≡ tallied (get_or m (i - 1) 0) t → r ≡ tally_of (drop (i - 1) m)
unfolding tally_of
tally_turn m i t r h k e f =
    let j : suc (i - 1) ≡ i = omega arith in
    f ∙ ap (tallied (get_or m (i - 1) 0)) (e ∙ ap (λ (x : ℕ). tally_of (drop x m)) (sym j)) ∙ sym (ap tally_of (drop-cons m (i - 1) 0 (omega arith)))
