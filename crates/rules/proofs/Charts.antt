-- Tables and charts: the chart of a rule has its values, one after the other.
--   charted    a table that is the chart of a rule has the rule's value at each place
--   same_at    two rules with the same chart have the same value at each place
-- That two lists are the same is for antt to compute. Assumes nothing.
use mathlib.Core.Path.{◌≡◌, refl, sym, ap, ◌∙◌}
use mathlib.Core.List.{List, [], ◌∷◌}
use Prim.Native.Nat.{ℕ, zero, suc, ◌+◌, ◌<◌}
use native.Mathlib.Nat.{add-zero, zero-add, add-suc, suc-add, le_of_suc-le-suc, not-suc-le-zero}
use lib.ListN.{get_or}

module _ {A : Type 0} where
  -- The n values of the rule f from the place i on.
  abbrev pub chart : (ℕ → A) → ℕ → ℕ → List A
  chart f i zero = []
  chart f i (suc n) = f i ∷ chart f (suc i) n

  entry : (f : ℕ → A) (z : A) (i n k : ℕ) → k < n → get_or (chart f i n) k z ≡ f (i + k)
  entry f z i zero k h = absurd (not-suc-le-zero h)
  entry f z i (suc n) zero h = ap f (sym (add-zero i))
  entry f z i (suc n) (suc k) h = entry f z (suc i) n k (le_of_suc-le-suc h) ∙ ap f (suc-add i k ∙ sym (add-suc i k))

  pub charted : (f : ℕ → A) (z : A) (n : ℕ) (xs : List A) → xs ≡ chart f 0 n → (k : ℕ) → k < n → get_or xs k z ≡ f k
  charted f z n xs e k h = ap (λ (t : List A). get_or t k z) e ∙ entry f z 0 n k h ∙ ap f (zero-add k)

  pub same_at : (f g : ℕ → A) (n : ℕ) → chart f 0 n ≡ chart g 0 n → (k : ℕ) → k < n → f k ≡ g k
  same_at f g n e k h = sym (charted f (f k) n (chart f 0 n) refl k h) ∙ charted g (f k) n (chart f 0 n) e k h
