-- The numbers of a resume state, by their places: what is written is read back.
--   length_listed, get_d_listed    a list by its places
--   word_value, word_below        a value and the number that stands for it
--   first_number, calls_number, return_number, loops_number, entry_number, limit_number, step_number,
--   handler_number_lem, error_number_lem, place_number    which number of a state stands where
--   read_written                  a state and its numbers
-- Assumes nothing.
use Rattle.std.specs.Prelude.{Option, None, Some}
use Prim.Native.Nat.{ℕ, zero, suc, ◌+◌, ◌-◌, ◌*◌, ◌/◌, ◌%◌, ◌^◌, ◌<◌, ◌≤◌}
use native.Mathlib.Omega.{arith}
use mathlib.Core.Path.{◌≡◌, refl, sym, ap, ◌∙◌}
use mathlib.Core.Bool.{Bool, true, false, cond}
use mathlib.Core.List.{List, [], ◌∷◌}
use lib.Dec.{ltb, leb, eqb}
use lib.IntN.{ℤ, pos, negsuc}
use lib.ListN.{length, get_or}
use lib.Seq.{ext_get_or}
use borrow.Author.Tests.{ltb-true, ltb-false, lt-ltb, le-ltb, le-leb, lt-leb, eqb-false, eq-eqb, ne_eqb}
use Rattle.rules.specs.Values.{Val}
use Rattle.rules_run.specs.declared.Caught.{Caught}
use Rattle.rules_run.specs.declared.State.{State}
use Rattle.rules_run.specs.States.{no_loop}
use Rattle.rules_host.specs.Numbers.{listed, word, valueb, value_of, loop_number, handler_number, error_number, error_place, handled_number, number_at, numbers_of, HandlerFits, CaughtFits, Fits, goodb, good_from, pairb, stateb, return_at, loop_at, handler_of, caught_of, state_of}

-- ---- a list by its places

module _ {A : Type 0} where
  pub length_listed : (n : ℕ) (f : ℕ → A) → length (listed n f) ≡ n
  unfolding listed
  length_listed zero f = refl
  length_listed (suc n) f = ap suc (length_listed n (λ k. f (suc k)))

  pub get_d_listed : (n : ℕ) (f : ℕ → A) (k : ℕ) (z : A) → k < n → get_or (listed n f) k z ≡ f k
  unfolding listed
  get_d_listed zero f k z h = absurd (omega arith)
  get_d_listed (suc n) f zero z h = refl
  get_d_listed (suc n) f (suc k) z h = get_d_listed n (λ j. f (suc j)) k z (omega arith)

  -- A list of n elements is that of what stands at its places.
  pub listed_all : (n : ℕ) (f : ℕ → A) (z : A) (l : List A) → length l ≡ n → ((k : ℕ) → k < n → f k ≡ get_or l k z) → listed n f ≡ l
  listed_all n f z l e h =
      ext_get_or z (listed n f) l (length_listed n f ∙ sym e)
      (λ k b. let b' : k < n = omega (arith, b, length_listed n f) in get_d_listed n f k z b' ∙ h k b')

-- ---- values

pub word_value : (v : ℤ) → Val (10 ^ 18) v → value_of (word v) ≡ v
word_value (pos n) x = rw (lt-ltb n 1000000000000000000 (omega (arith, x.small)))
word_value (negsuc n) x =
    let e : 18446744073709551615 - (18446744073709551615 - n) ≡ n = omega (arith, x.small) in
    rw (le-ltb (18446744073709551615 - n) 1000000000000000000 (omega (arith, x.small)), e)

-- As C turns a value below 0 into a number without a sign.
pub word_below : (n : ℕ) → n < 2 ^ 64 → word (negsuc n) + suc n ≡ 2 ^ 64
word_below n h = omega arith

word_good : (v : ℤ) → Val (10 ^ 18) v → valueb (word v) ≡ true
word_good (pos n) x = rw (lt-ltb n 1000000000000000000 (omega (arith, x.small)))
word_good (negsuc n) x =
    rw (le-ltb (18446744073709551615 - n) 1000000000000000000 (omega (arith, x.small)), lt-ltb 17446744073709551616 (18446744073709551615 - n) (omega (arith, x.small)))

-- ---- the number at a place

module _ (s : State) where
  pub first_number : number_at s 0 ≡ s.at
  unfolding number_at
  first_number = refl

  pub calls_number : number_at s 1 ≡ s.depth
  unfolding number_at
  calls_number = refl

  pub loops_number : number_at s 52 ≡ s.opened
  unfolding number_at
  loops_number = refl

  pub return_number : (i : ℕ) → i < 50 → number_at s (i + 2) ≡ get_or s.returns i 0
  unfolding number_at
  return_number i h =
      let e : i + 2 - 2 ≡ i = omega arith in
      rw (ne_eqb (i + 2) 0 (λ z. omega arith), ne_eqb (i + 2) 1 (λ z. omega arith), lt-ltb (i + 2) 52 (omega arith), e)

  -- The number r of the slot k.
  loop_number_lem : (k r : ℕ) → k < 16 → r < 3 → number_at s (k * 3 + (53 + r)) ≡ loop_number (get_or s.loops k no_loop) r
  unfolding number_at
  loop_number_lem k r b h =
      let n = k * 3 + (53 + r) in
      let e : (n - 53) / 3 ≡ k = omega arith in
      let f : (n - 53) % 3 ≡ r = omega arith in
      rw (ne_eqb n 0 (λ z. omega arith), ne_eqb n 1 (λ z. omega arith), le-ltb n 52 (omega arith), ne_eqb n 52 (λ z. omega arith), lt-ltb n 101 (omega arith), e, f)

  -- The numbers of the slot k.
  module _ (k : ℕ) (h : k < 16) where
    pub entry_number : number_at s (k * 3 + 53) ≡ (get_or s.loops k no_loop).entry
    entry_number = loop_number_lem k 0 h (omega arith)

    pub limit_number : number_at s (k * 3 + 54) ≡ word (get_or s.loops k no_loop).limit
    limit_number = loop_number_lem k 1 h (omega arith)

    pub step_number : number_at s (k * 3 + 55) ≡ word (get_or s.loops k no_loop).step
    step_number = loop_number_lem k 2 h (omega arith)

  pub handler_number_lem : number_at s 101 ≡ handler_number s.trap.handler
  unfolding number_at
  handler_number_lem = refl

  pub error_number_lem : number_at s 102 ≡ error_number s.trap.caught
  unfolding number_at
  error_number_lem = refl

  pub place_number : number_at s 103 ≡ error_place s.trap.caught
  unfolding number_at
  place_number = refl

-- ---- every number of a state stands for something

good_all : (k : ℕ) (l : List ℕ) → ((i : ℕ) → i < length l → goodb (k + i) (get_or l i 0) ≡ true) → good_from k l ≡ true
unfolding good_from
good_all k [] h = refl
good_all k (x ∷ l) h =
    let e : k + 0 ≡ k = omega arith in
    rw (rw e at (h 0 (omega arith)), good_all (k + 1) l (λ i b. let f : k + 1 + i ≡ k + suc i = omega arith in rw f (h (suc i) (omega arith))))

module _ (s : State) (x : Fits s) where
  small_number : (k : ℕ) → k < 53 → number_at s k ≤ 65535
  unfolding number_at
  small_number k h = by (eqb k 0) (eqb k 1) (ltb k 52) (eqb k 52) refl refl refl refl
    where
      by : (t u v w : Bool) → eqb k 0 ≡ t → eqb k 1 ≡ u → ltb k 52 ≡ v → eqb k 52 ≡ w
          → cond t s.at
          (cond u s.depth
          (cond v (get_or s.returns (k - 2) 0)
          (cond w s.opened (cond (ltb k 101) (loop_number (get_or s.loops ((k - 53) / 3) no_loop) ((k - 53) % 3)) (handled_number s k)))))
          ≤ 65535
      by true u v w e f g q = x.at
      by false true v w e f g q = x.depth
      by false false true w e f g q =
          x.each (k - 2) (omega (arith, eqb-false k 0 e, eqb-false k 1 f, ltb-true k 52 g))
      by false false false true e f g q = x.opened
      by false false false false e f g q = absurd (omega (arith, ltb-false k 52 g, eqb-false k 52 q))

  loop_good : (k r : ℕ) → k < 16 → r < 3 → cond (ltb 0 r) (valueb (loop_number (get_or s.loops k no_loop) r)) (leb (loop_number (get_or s.loops k no_loop) r) 65535) ≡ true
  loop_good k zero h b = le-leb (get_or s.loops k no_loop).entry 65535 (x.entries k h)
  loop_good k (suc zero) h b = word_good (get_or s.loops k no_loop).limit (x.limits k h)
  loop_good k (suc (suc zero)) h b = word_good (get_or s.loops k no_loop).step (x.steps k h)
  loop_good k (suc (suc (suc r))) h b = absurd (omega arith)

  handler_small : (h : Option ℕ) → HandlerFits h → handler_number h ≤ 65535
  handler_small None f = omega arith
  handler_small (Some i) f = omega (arith, f)

  error_small : (e : Option Caught) → CaughtFits e → (error_number e ≤ 255) × (error_place e ≤ 65535)
  error_small None f = (omega arith, omega arith)
  error_small (Some e) f = (f.1, f.2)

  -- The handler and the last error.
  last_good : (k : ℕ) → k < 3 → goodb (101 + k) (number_at s (101 + k)) ≡ true
  unfolding goodb number_at
  last_good zero h = le-leb (handler_number s.trap.handler) 65535 (handler_small s.trap.handler x.handled)
  last_good (suc zero) h = le-leb (error_number s.trap.caught) 255 (error_small s.trap.caught x.told).0
  last_good (suc (suc zero)) h = le-leb (error_place s.trap.caught) 65535 (error_small s.trap.caught x.told).1
  last_good (suc (suc (suc k))) h = absurd (omega arith)

  good_number : (k : ℕ) → k < 104 → goodb k (number_at s k) ≡ true
  unfolding goodb
  good_number k h = by (ltb k 53) refl (ltb k 101) refl
    where
      by : (t : Bool) → ltb k 53 ≡ t → (v : Bool) → ltb k 101 ≡ v → goodb k (number_at s k) ≡ true
      by true e v g =
          let l : k < 53 = ltb-true k 53 e in
          rw (lt-leb 53 k l, ne_eqb k 102 (λ z. omega arith)) (le-leb (number_at s k) 65535 (small_number k l))
      by false e false g =
          let b : 101 ≤ k = ltb-false k 101 g in
          let q : 101 + (k - 101) ≡ k = omega arith in
          rw q at (last_good (k - 101) (omega arith))
      by false e true g =
          let b : 53 ≤ k = ltb-false k 53 e in
          let m : k < 101 = ltb-true k 101 g in
          let j = (k - 53) / 3 in
          let r = (k - 53) % 3 in
          let q : j * 3 + (53 + r) ≡ k = omega arith in
          let n : number_at s k ≡ loop_number (get_or s.loops j no_loop) r = ap (number_at s) (sym q) ∙ loop_number_lem s j r (omega arith) (omega arith) in
          rw (le-leb 53 k b, lt-ltb k 101 m, ne_eqb k 102 (λ z. omega arith), n) (loop_good j r (omega arith) (omega arith))

  pair_good : (e : Option Caught) → CaughtFits e → pairb (error_number e) (error_place e) ≡ true
  pair_good None f = refl
  pair_good (Some e) f = rw (ne_eqb e.number 0 (λ z. omega (arith, f.0)))

  at_place : (k : ℕ) → k < 104 → get_or (numbers_of s) k 0 ≡ number_at s k
  at_place k h = get_d_listed 104 (number_at s) k 0 h

  state_good : stateb (numbers_of s) ≡ true
  unfolding stateb
  state_good =
      let l = length_listed 104 (number_at s) in
      let g =
      good_all 0 (numbers_of s)
      (λ i b. let b' : i < 104 = omega (arith, b, l) in let e : 0 + i ≡ i = omega arith in rw (e, at_place i b') (good_number i b')) in
      let n : get_or (numbers_of s) 102 0 ≡ error_number s.trap.caught = at_place 102 (omega arith) ∙ error_number_lem s in
      let p : get_or (numbers_of s) 103 0 ≡ error_place s.trap.caught = at_place 103 (omega arith) ∙ place_number s in
      rw (eq-eqb (length (numbers_of s)) 104 l, g, n, p) (pair_good s.trap.caught x.told)

  -- ---- and is read back

  loop_back : (k : ℕ) → k < 16 → loop_at (numbers_of s) k ≡ get_or s.loops k no_loop
  loop_back k h =
      let a : get_or (numbers_of s) (k * 3 + 53) 0 ≡ (get_or s.loops k no_loop).entry = at_place (k * 3 + 53) (omega arith) ∙ entry_number s k h in
      let b : get_or (numbers_of s) (k * 3 + 54) 0 ≡ word (get_or s.loops k no_loop).limit = at_place (k * 3 + 54) (omega arith) ∙ limit_number s k h in
      let c : get_or (numbers_of s) (k * 3 + 55) 0 ≡ word (get_or s.loops k no_loop).step = at_place (k * 3 + 55) (omega arith) ∙ step_number s k h in
      rw (a, b, c, word_value (get_or s.loops k no_loop).limit (x.limits k h), word_value (get_or s.loops k no_loop).step (x.steps k h))

  handler_back : (h : Option ℕ) → HandlerFits h → handler_of (handler_number h) ≡ h
  handler_back None f = refl
  handler_back (Some i) f = let e : i + 1 - 1 ≡ i = omega arith in rw (ne_eqb (i + 1) 0 (λ z. omega arith), e)

  caught_back : (e : Option Caught) → CaughtFits e → caught_of (error_number e) (error_place e) ≡ e
  caught_back None f = refl
  caught_back (Some e) f = rw (ne_eqb e.number 0 (λ z. omega (arith, f.0)))

  pub read_written : state_of (numbers_of s) ≡ s
  unfolding state_of
  read_written =
      let returns = listed_all 50 (return_at (numbers_of s)) 0 s.returns x.count (λ i h. at_place (i + 2) (omega arith) ∙ return_number s i h) in
      let loops = listed_all 16 (loop_at (numbers_of s)) no_loop s.loops x.slots loop_back in
      let a : get_or (numbers_of s) 0 0 ≡ s.at = at_place 0 (omega arith) ∙ first_number s in
      let b : get_or (numbers_of s) 1 0 ≡ s.depth = at_place 1 (omega arith) ∙ calls_number s in
      let c : get_or (numbers_of s) 52 0 ≡ s.opened = at_place 52 (omega arith) ∙ loops_number s in
      let n : get_or (numbers_of s) 101 0 ≡ handler_number s.trap.handler = at_place 101 (omega arith) ∙ handler_number_lem s in
      let e : get_or (numbers_of s) 102 0 ≡ error_number s.trap.caught = at_place 102 (omega arith) ∙ error_number_lem s in
      let p : get_or (numbers_of s) 103 0 ≡ error_place s.trap.caught = at_place 103 (omega arith) ∙ place_number s in
      rw (state_good, a, b, c, returns, loops, n, e, p, handler_back s.trap.handler x.handled, caught_back s.trap.caught x.told)
