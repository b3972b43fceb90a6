-- Laws of a loop that puts f of each byte in the byte's place, for any f.
-- Assumes nothing.
use mathlib.Core.Path.{◌≡◌, ap, ◌∙◌}
use mathlib.Core.List.{List, ◌∷◌, ◌++◌, map, append-nil}
use Prim.Native.Nat.{ℕ, suc, ◌+◌, ◌≤◌, ◌<◌}
use native.Mathlib.Numerals.{add-one}
use native.Mathlib.Omega.{arith}
use lib.ListN.{length, get_or, take, drop, set, drop_of_length-le}
use lib.Seq.{drop-cons, take-suc-set, drop-set-lt, take_all, append_snoc}

-- what is done, with what is still to do: at the start it is `map f s` by computation
abbrev pub mapped_from : (ℕ → ℕ) → ℕ → List ℕ → List ℕ
mapped_from f i s = take i s ++ map f (drop i s)

module _ (f : ℕ → ℕ) where
  pub map_next : (s : List ℕ) (i x : ℕ) → i < length s → x ≡ f (get_or s i 0) → mapped_from f (i + 1) (set s i x) ≡ mapped_from f i s
  map_next s i x h e =
      rw (add-one i, take-suc-set s i x h, drop-set-lt (suc i) s i x (omega arith), drop-cons s i 0 h)
      (append_snoc (take i s) x (map f (drop (suc i) s)) ∙ ap (λ (y : ℕ). take i s ++ y ∷ map f (drop (suc i) s)) e)

  pub map_end : (s : List ℕ) (i : ℕ) → length s ≤ i → mapped_from f i s ≡ s
  map_end s i h = rw (drop_of_length-le s h) (append-nil (take i s) ∙ take_all i s h)
