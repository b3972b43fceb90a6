-- What the checks of a literal cite: its digits one by one, and the rule of an alpha literal, test by test.
-- Assumes nothing.
use mathlib.Core.Path.{◌≡◌, sym, ap, ◌∙◌}
use mathlib.Core.Bool.{Bool, true, false, cond}
use mathlib.Core.List.{List}
use Prim.Native.Nat.{ℕ, ◌+◌, ◌-◌, ◌≤◌, ◌<◌}
use native.Mathlib.Numerals.{add-one}
use native.Mathlib.Omega.{arith}
use lib.Dec.{leb}
use lib.ListN.{length, get_or, take, drop, drop_of_length-le}
use lib.Seq.{drop-cons}
use borrow.Author.Tests.{le-leb, lt-leb, lt-ltb, le-ltb}
use Rattle.rules.specs.Values.{is_from}
use Rattle.rules_unit.specs.declared.Parts.{Parts}
use Rattle.rules_unit.specs.Decode.{Fills, literals_at, code_of}
use Rattle.rules_unit.specs.Expressions.{digitsb, numberb, textb}
use Rattle.unit_decode.proofs.Literals.{literals_length, literal_is, number_empty, number_long, number_past, number_there}

-- ---- digits

digits_step : (s : List ℕ) (i : ℕ) → i < length s → digitsb (drop i s) ≡ cond (is_from 48 (get_or s i 0)) (digitsb (drop (i + 1) s)) false
unfolding digitsb
digits_step s i h = rw (drop-cons s i 0 h, add-one i)

-- z is the answer for the whole, which what is left from i on gives
module _ (s : List ℕ) (i : ℕ) (z : Bool) where
  pub digits_low : digitsb (drop i s) ≡ z → i < length s → get_or s i 0 < 48 → false ≡ z
  digits_low e h l = sym (simp (lt-leb 48 (get_or s i 0) l) at (digits_step s i h)) ∙ e

  pub digits_high : digitsb (drop i s) ≡ z → i < length s → 57 < get_or s i 0 → false ≡ z
  digits_high e h l =
      let k : 48 ≤ get_or s i 0 = omega arith in
      let m : 58 ≤ get_or s i 0 = omega arith in
      sym (simp (le-leb 48 (get_or s i 0) k, le-ltb (get_or s i 0) 58 m) at (digits_step s i h)) ∙ e

  pub digits_more : digitsb (drop i s) ≡ z → i < length s → 48 ≤ get_or s i 0 → get_or s i 0 ≤ 57 → digitsb (drop (i + 1) s) ≡ z
  digits_more e h l g =
      let m : get_or s i 0 < 58 = omega arith in
      sym (simp (le-leb 48 (get_or s i 0) l, lt-ltb (get_or s i 0) 58 m) at (digits_step s i h)) ∙ e

  pub digits_end : digitsb (drop i s) ≡ z → length s ≤ i → true ≡ z
  unfolding digitsb
  digits_end e h = rw (drop_of_length-le s h) at e

pub ruleset digits_loop = (digits_low, digits_high, digits_more, digits_end)

-- ---- literals

-- f, n and m are the code's own copies of the place, the length and P
module _ (u : List ℕ) (p : Parts) (place len : ℕ) where
  module _ (fills : Fills u p) (some : 1 ≤ len) (f n m : ℕ) (ef : f ≡ place) (en : n ≡ len) (em : m ≡ p.p) where
    pub digits_there : (start : ℕ) (r : Bool) → len ≤ p.dialect.limit → f + n ≤ m → start ≡ literals_at p
        → r ≡ digitsb (take (start + f + n - (start + f)) (drop (start + f) u)) → r ≡ numberb (code_of u p) place len
    digits_there start r g h es q =
        let inside : place + len ≤ length (code_of u p).literals = omega (arith, literals_length u p fills) in
        q ∙ ap digitsb (literal_is u p fills place len start f n es ef en inside) ∙ number_there u p place len fills some f n m ef en em g h

    pub text_there : leb (f + n) m ≡ textb (code_of u p) place len
    unfolding textb
    text_there = rw (le-leb 1 len some, literals_length u p fills, ef, en, em)

pub ruleset number_laws = (number_empty, number_long, number_past, digits_there)
