-- Laws of the walks over a mask from the left: what is still to be walked answers as the whole does.
-- Assumes nothing.
use mathlib.Core.Path.{◌≡◌, sym, ap, ◌∙◌}
use mathlib.Core.Bool.{Bool, cond}
use mathlib.Core.List.{List, ◌∷◌, ◌++◌, append-nil}
use Prim.Native.Nat.{ℕ, suc, ◌+◌, ◌≤◌, ◌<◌}
use native.Mathlib.Numerals.{add-one}
use native.Mathlib.Omega.{arith}
use lib.ListN.{length, get_or, take, drop, set, drop_of_length-le}
use lib.Seq.{drop-cons, take-suc-set, drop-set-lt, take_all, append_snoc}
use Rattle.rules.specs.declared.Class.{Class}
use Rattle.rules.specs.declared.Picture.{Picture}
use Rattle.rules.specs.declared.Sight.{Sight}
use Rattle.rules.specs.Masks.{class_of, sighted_by, sighted, skipped, money_by, moneyb, spot_from, character_by, character_of, edit_from}

-- what is done, with what is still to do
abbrev pub edited_from : Picture → ℕ → Sight → ℕ → List ℕ → List ℕ
edited_from p spot w i s = take i s ++ edit_from p spot w (drop i s)

-- the rest from i on, its first character apart
rest_at : (s : List ℕ) (i : ℕ) → i < length s → drop i s ≡ get_or s i 0 ∷ drop (i + 1) s
rest_at s i h = rw (add-one i) (drop-cons s i 0 h)

module _ (p : Picture) where
  sight_is : (w n : Sight) (c : ℕ) (k : Class) → k ≡ class_of p w c → n ≡ sighted_by p w c k → n ≡ sighted p w c
  unfolding sighted
  sight_is w n c k e f = cc

  -- skipping
  pub skip_turn : (w n : Sight) (m : List ℕ) (i : ℕ) (k : Class) (z : Sight) → i < length m → k ≡ class_of p w (get_or m i 0) → n ≡ sighted_by p w (get_or m i 0) k
      → skipped p w (drop i m) ≡ z → skipped p n (drop (i + 1) m) ≡ z
  unfolding skipped
  skip_turn w n m i k z h e f q =
      ap (λ (x : Sight). skipped p x (drop (i + 1) m)) (sight_is w n (get_or m i 0) k e f) ∙ sym (ap (skipped p w) (rest_at m i h)) ∙ q

  pub skip_end : (w : Sight) (m : List ℕ) (i : ℕ) (z : Sight) → length m ≤ i → skipped p w (drop i m) ≡ z → w ≡ z
  unfolding skipped
  skip_end w m i z h q = sym (ap (skipped p w) (drop_of_length-le m h)) ∙ q

  -- the money sign's place
  money_is : (w n : Sight) (c : ℕ) (k : Class) (b : Bool) → k ≡ class_of p w c → n ≡ sighted_by p w c k → b ≡ money_by n k → b ≡ moneyb p w c
  unfolding moneyb sighted
  money_is w n c k b e f g = cc

  pub spot_turn : (w n : Sight) (m : List ℕ) (i : ℕ) (k : Class) (b : Bool) (old at z : ℕ) → i < length m → k ≡ class_of p w (get_or m i 0) → n ≡ sighted_by p w (get_or m i 0) k
      → b ≡ money_by n k → at ≡ cond b w.left old → spot_from p old w (drop i m) ≡ z → spot_from p at n (drop (i + 1) m) ≡ z
  unfolding spot_from
  spot_turn w n m i k b old at z h e f g a q =
      ap (λ (x : Sight). spot_from p at x (drop (i + 1) m)) (sight_is w n (get_or m i 0) k e f)
      ∙ ap (λ (x : ℕ). spot_from p x (sighted p w (get_or m i 0)) (drop (i + 1) m)) (a ∙ ap (λ (x : Bool). cond x w.left old) (money_is w n (get_or m i 0) k b e f g))
      ∙ sym (ap (spot_from p old w) (rest_at m i h))
      ∙ q

  pub spot_end : (w : Sight) (m : List ℕ) (i at z : ℕ) → length m ≤ i → spot_from p at w (drop i m) ≡ z → at ≡ z
  unfolding spot_from
  spot_end w m i at z h q = sym (ap (spot_from p at w) (drop_of_length-le m h)) ∙ q

  -- editing
  module _ (spot : ℕ) where
    character_is : (w n : Sight) (c x : ℕ) (k : Class) → k ≡ class_of p w c → n ≡ sighted_by p w c k → x ≡ character_by p spot w n c k → x ≡ character_of p spot w c
    unfolding character_of sighted
    character_is w n c x k e f g = cc

    edit_next : (w v : Sight) (s : List ℕ) (i x : ℕ) → i < length s → x ≡ character_of p spot w (get_or s i 0) → v ≡ sighted p w (get_or s i 0)
        → edited_from p spot v (i + 1) (set s i x) ≡ edited_from p spot w i s
    unfolding edit_from
    edit_next w v s i x h e q =
        rw (add-one i, take-suc-set s i x h, drop-set-lt (suc i) s i x (omega arith), drop-cons s i 0 h, q)
        (append_snoc (take i s) x (edit_from p spot (sighted p w (get_or s i 0)) (drop (suc i) s))
        ∙ ap (λ (y : ℕ). take i s ++ y ∷ edit_from p spot (sighted p w (get_or s i 0)) (drop (suc i) s)) e)

    pub edit_turn : (w n : Sight) (s : List ℕ) (i x : ℕ) (k : Class) (z : List ℕ) → i < length s → k ≡ class_of p w (get_or s i 0) → n ≡ sighted_by p w (get_or s i 0) k
        → x ≡ character_by p spot w n (get_or s i 0) k → edited_from p spot w i s ≡ z → edited_from p spot n (i + 1) (set s i x) ≡ z
    edit_turn w n s i x k z h e f g q =
        edit_next w n s i x h (character_is w n (get_or s i 0) x k e f g) (sight_is w n (get_or s i 0) k e f) ∙ q

    pub edit_end : (w : Sight) (s : List ℕ) (i : ℕ) (z : List ℕ) → length s ≤ i → edited_from p spot w i s ≡ z → s ≡ z
    unfolding edit_from
    edit_end w s i z h q = sym (rw (drop_of_length-le s h) (append-nil (take i s) ∙ take_all i s h)) ∙ q
