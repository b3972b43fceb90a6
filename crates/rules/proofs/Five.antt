-- The errors that a handler traps (request 6 of document 02, "ONERROR and OFFERROR"): the test and the statement say the same, and the code tests the same.
-- Assumes nothing.
use Prim.Native.Nat.{ℕ, ◌<◌, ◌≤◌}
use mathlib.Core.Path.{◌≡◌, refl, ◌∙◌}
use mathlib.Core.Bool.{Bool, true, false, ◌||◌, false≢true}
use mathlib.Core.Logic.{inl, inr}
use lib.Dec.{leb, eqb}
use borrow.Author.Tests.{leb-true, le-leb, lt-leb, eqb-true, ne_eqb}
use Rattle.rules.specs.Tests.{◌and◌}
use Rattle.rules.specs.Stops.{trappedb, Trappable}

pub trapped_to : (n : ℕ) → trappedb n ≡ true → Trappable n
trapped_to n = by (leb 20 n) refl (leb n 23) refl (eqb n 26) refl
  where
    by : (t : Bool) → leb 20 n ≡ t → (u : Bool) → leb n 23 ≡ u → (v : Bool) → eqb n 26 ≡ v → (t and u) || v ≡ true → Trappable n
    by true e true f v g h = inl (leb-true 20 n e, leb-true n 23 f)
    by true e false f true g h = inr (eqb-true n 26 g)
    by true e false f false g h = absurd (false≢true h)
    by false e u f true g h = inr (eqb-true n 26 g)
    by false e u f false g h = absurd (false≢true h)

pub trapped_of : (n : ℕ) → Trappable n → trappedb n ≡ true
trapped_of n (inl h) = rw (le-leb 20 n h.0, le-leb n 23 h.1)
trapped_of n (inr e) = rw e

-- ---- one law for each way out of the code

pub trapped_26 : (n : ℕ) → n ≡ 26 → true ≡ trappedb n
trapped_26 n e = rw e

pub trapped_low : (n : ℕ) → (n ≡ 26 → ⊥) → n < 20 → false ≡ trappedb n
trapped_low n h l = rw (lt-leb 20 n l, ne_eqb n 26 h)

pub trapped_high : (n : ℕ) (r : Bool) → (n ≡ 26 → ⊥) → 20 ≤ n → r ≡ leb n 23 → r ≡ trappedb n
trapped_high n r h l e = by (leb n 23) refl
  where
    by : (t : Bool) → leb n 23 ≡ t → r ≡ trappedb n
    by true f = rw (le-leb 20 n l, f) (e ∙ f)
    by false f = rw (le-leb 20 n l, f, ne_eqb n 26 h) (e ∙ f)
