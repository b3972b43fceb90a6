-- The resume state read from its numbers w, one law for each way out of the code.
-- Assumes nothing.
use Rattle.std.specs.Prelude.{Option}
use Prim.Native.Nat.{ℕ, zero, suc, ◌+◌, ◌-◌, ◌*◌, ◌%◌, ◌<◌, ◌≤◌}
use native.Mathlib.Numerals.{add-one}
use native.Mathlib.Omega.{arith}
use mathlib.Core.Path.{◌≡◌, refl, sym, ap, ◌∙◌}
use mathlib.Core.Bool.{Bool, true, false, not}
use mathlib.Core.List.{List, [], ◌∷◌}
use lib.Dec.{eqb}
use lib.IntN.{ℤ}
use lib.ListN.{length, get_or, take, drop, set, drop_of_length-le}
use lib.Seq.{drop-cons, take_all}
use borrow.Author.Tests.{lt-ltb, le-ltb, le-leb, lt-leb, leb-true, eqb-true, ne_eqb, not-true, not-false}
use Rattle.rules.proofs.Tests.{both}
use Rattle.rules_run.specs.declared.Caught.{Caught}
use Rattle.rules_run.specs.declared.Loop.{Loop}
use Rattle.rules_run.specs.declared.State.{State}
use Rattle.rules_run.specs.States.{no_loop}
use Rattle.rules_host.specs.Numbers.{listed, valueb, value_of, signedb, goodb, good_from, stateb, return_at, loop_at, handler_of, caught_of, state_of}
use Rattle.rules_host.proofs.Listed.{length_listed, get_d_listed}

-- ---- all numbers: those from k on answer what all of them answer

module _ (w : List ℕ) (k : ℕ) (rest : good_from k (drop k w) ≡ good_from 0 w) where
  module _ (b : Bool) (h : k < length w) (e : b ≡ goodb k (get_or w k 0)) where
    pub all_wrong : not b ≡ true → false ≡ good_from 0 w
    unfolding good_from
    all_wrong t = let f : goodb k (get_or w k 0) ≡ false = sym e ∙ not-true b t in rw (← rest, drop-cons w k 0 h, f)

    pub all_onward : not b ≡ false → good_from (k + 1) (drop (k + 1) w) ≡ good_from 0 w
    unfolding good_from
    all_onward t = let f : goodb k (get_or w k 0) ≡ true = sym e ∙ not-false b t in rw (← rest, drop-cons w k 0 h, f, add-one k)

  pub all_end : length w ≤ k → true ≡ good_from 0 w
  unfolding good_from
  all_end h = rw (← rest, drop_of_length-le w h)

good_at : (w : List ℕ) (j i : ℕ) → good_from j w ≡ true → i < length w → goodb (j + i) (get_or w i 0) ≡ true
unfolding good_from
good_at [] j i g h = absurd (omega arith)
good_at (x ∷ w) j zero g h = let e : j + 0 ≡ j = omega arith in rw e ((both (goodb j x) _).0 g).0
good_at (x ∷ w) j (suc i) g h = let e : j + suc i ≡ j + 1 + i = omega arith in rw e (good_at w (j + 1) i ((both (goodb j x) _).0 g).1 (omega arith))

zero_on : (w : List ℕ) (k : ℕ) → good_from 0 w ≡ true → k < length w → goodb k (get_or w k 0) ≡ true
zero_on w k g h = let e : 0 + k ≡ k = omega arith in rw e at (good_at w 0 k g h)

module _ (w : List ℕ) (l : length w ≡ 104) (g : good_from 0 w ≡ true) where
  pub small_at : (k : ℕ) → k < 104 → (k ≡ 102 → ⊥) → signedb k ≡ false → get_or w k 0 ≤ 65535
  unfolding goodb
  small_at k h n e = let f = zero_on w k g (omega arith) in leb-true (get_or w k 0) 65535 (rw (e, ne_eqb k 102 n) at f)

  pub error_small : get_or w 102 0 ≤ 255
  unfolding goodb
  error_small = leb-true (get_or w 102 0) 255 (zero_on w 102 g (omega arith))

  pub value_at_lem : (k : ℕ) → k < 104 → signedb k ≡ true → valueb (get_or w k 0) ≡ true
  unfolding goodb
  value_at_lem k h e = let f = zero_on w k g (omega arith) in rw e at f

  pub return_small : (i : ℕ) → i < 50 → get_or w (i + 2) 0 ≤ 65535
  return_small i h = small_at (i + 2) (omega arith) (λ z. omega arith) (rw (lt-leb 53 (i + 2) (omega arith)))

  module _ (k : ℕ) (h : k < 16) where
    pub entry_small : get_or w (k * 3 + 53) 0 ≤ 65535
    entry_small = small_at (k * 3 + 53) (omega arith) (λ z. omega arith) (rw (le-leb 53 (k * 3 + 53) (omega arith), lt-ltb (k * 3 + 53) 101 (omega arith), le-ltb 0 ((k * 3 + 53 - 53) % 3) (omega arith)))

    pub limit_good : valueb (get_or w (k * 3 + 54) 0) ≡ true
    limit_good = value_at_lem (k * 3 + 54) (omega arith) (rw (le-leb 53 (k * 3 + 54) (omega arith), lt-ltb (k * 3 + 54) 101 (omega arith), lt-ltb 0 ((k * 3 + 54 - 53) % 3) (omega arith)))

    pub step_good : valueb (get_or w (k * 3 + 55) 0) ≡ true
    step_good = value_at_lem (k * 3 + 55) (omega arith) (rw (le-leb 53 (k * 3 + 55) (omega arith), lt-ltb (k * 3 + 55) 101 (omega arith), lt-ltb 0 ((k * 3 + 55 - 53) % 3) (omega arith)))

-- ---- lists, put one after the other

module _ {A : Type 0} (z : A) where
  next : (xs l : List A) (i : ℕ) → length l ≡ length xs → i < length xs → take i l ≡ take i xs → take (suc i) (set l i (get_or xs i z)) ≡ take (suc i) xs
  next [] l i e h q = absurd (omega arith)
  next (x ∷ xs) [] i e h q = absurd (omega arith)
  next (x ∷ xs) (y ∷ l) zero e h q = refl
  next (x ∷ xs) (y ∷ l) (suc i) e h q = let t : (y ≡ x) × (take i l ≡ take i xs) = (cc, cc) in rw t.0 (ap (λ (m : List A). x ∷ m) (next xs l i (omega arith) (omega arith) t.1))

module _ (w : List ℕ) where
  pub returns_next : (i : ℕ) (m : List ℕ) (v : ℕ) → length m ≡ 50 → i < 50 → take i m ≡ take i (listed 50 (return_at w)) → v ≡ get_or w (i + 2) 0
      → take (i + 1) (set m i v) ≡ take (i + 1) (listed 50 (return_at w))
  returns_next i m v e h q r =
      let n = length_listed 50 (return_at w) in
      let x : v ≡ get_or (listed 50 (return_at w)) i 0 = r ∙ sym (get_d_listed 50 (return_at w) i 0 h) in
      rw (x, add-one i) (next 0 (listed 50 (return_at w)) m i (e ∙ sym n) (omega (arith, n)) q)

  pub loops_next : (k : ℕ) (m : List Loop) (v : Loop) → length m ≡ 16 → k < 16 → take k m ≡ take k (listed 16 (loop_at w)) → v ≡ loop_at w k
      → take (k + 1) (set m k v) ≡ take (k + 1) (listed 16 (loop_at w))
  loops_next k m v e h q r =
      let n = length_listed 16 (loop_at w) in
      let x : v ≡ get_or (listed 16 (loop_at w)) k no_loop = r ∙ sym (get_d_listed 16 (loop_at w) k no_loop h) in
      rw (x, add-one k) (next no_loop (listed 16 (loop_at w)) m k (e ∙ sym n) (omega (arith, n)) q)

  pub returns_all : (i : ℕ) (m : List ℕ) → length m ≡ 50 → 50 ≤ i → take i m ≡ take i (listed 50 (return_at w)) → m ≡ listed 50 (return_at w)
  returns_all i m e h q = sym (take_all i m (omega arith)) ∙ q ∙ take_all i (listed 50 (return_at w)) (omega (arith, length_listed 50 (return_at w)))

  pub loops_all : (k : ℕ) (m : List Loop) → length m ≡ 16 → 16 ≤ k → take k m ≡ take k (listed 16 (loop_at w)) → m ≡ listed 16 (loop_at w)
  loops_all k m e h q = sym (take_all k m (omega arith)) ∙ q ∙ take_all k (listed 16 (loop_at w)) (omega (arith, length_listed 16 (loop_at w)))
  -- ---- the whole

-- ---- a slot

pub loop_read : (w : List ℕ) (k : ℕ) (x x' y y' : ℤ) → x ≡ value_of (get_or w (k * 3 + 54) 0) → x' ≡ x → y ≡ value_of (get_or w (k * 3 + 55) 0) → y' ≡ y
    → ◌≡◌ {A = Loop} (record { entry = get_or w (k * 3 + 53) 0; limit = x'; step = y' }) (loop_at w k)
loop_read w k x x' y y' e f g h = rw (f, e, h, g)

-- The numbers of a state.
module _ (w : List ℕ) (t : stateb w ≡ true) where
  pub all_there : length w ≡ 104
  unfolding stateb
  all_there = eqb-true (length w) 104 ((both (eqb (length w) 104) _).0 t).0

  pub all_told : good_from 0 w ≡ true
  unfolding stateb
  all_told = ((both (good_from 0 w) _).0 ((both (eqb (length w) 104) _).0 t).1).0

  pub one_there : (k : ℕ) → k < 104 → k < length w
  one_there k h = omega (arith, all_there)

  pub plain_small : (k : ℕ) → k < 53 → get_or w k 0 < 65536
  plain_small k f = omega (arith, small_at w all_there all_told k (omega arith) (λ z. omega arith) (rw (lt-leb 53 k f)))

  pub handler_small : get_or w 101 0 ≤ 65535
  handler_small = small_at w all_there all_told 101 (omega arith) (λ z. omega arith) refl

  pub number_small : get_or w 102 0 ≤ 255
  number_small = error_small w all_there all_told

  pub place_small : get_or w 103 0 ≤ 65535
  place_small = small_at w all_there all_told 103 (omega arith) (λ z. omega arith) refl

pub ruleset told = (all_there, all_told, one_there, plain_small, handler_small, number_small, place_small)
