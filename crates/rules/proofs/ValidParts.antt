-- Parts of valid decimals (document 01, "Values and references"): a part of a valid one is valid, and so is the head of one with a tail without spaces.
-- Assumes nothing.
use mathlib.Core.Path.{◌≡◌, refl, sym, ap, ◌∙◌}
use mathlib.Core.Bool.{Bool, true, false}
use mathlib.Core.Logic.{◌⊎◌, inl}
use mathlib.Core.List.{List, ◌++◌}
use Prim.Native.Nat.{ℕ, ◌+◌, ◌-◌, ◌≤◌, ◌<◌, min}
use native.Mathlib.Omega.{arith}
use lib.Dec.{ltb, eqb}
use lib.ListN.{length, take, drop, get_or, length-append, length-drop, get_or-append}
use lib.Seq.{length-take-le, get_or-append-add, get_or-take, get_or-drop}
use borrow.Author.Tests.{ltb-true, ltb-false, eqb-true, eqb-false}
use Rattle.rules.specs.Values.{is_from, Valid, Figures}

-- A part that is not empty is a decimal of its own. Of the spaces it has those that lie in it.
pub part_valid : {limit sign : ℕ} {s : List ℕ} (a n : ℕ) → Valid limit sign s → 1 ≤ n → a + n ≤ length s → Valid limit sign (take n (drop a s))
part_valid {limit} {sign} {s} a n v h k =
    record {
      some = omega (arith, len);
      most = omega (arith, len, v.most);
      blanks = min n (v.blanks - a);
      few = omega (arith, len);
      spaces = λ j l. at j (omega arith) ∙ v.spaces (a + j) (omega arith);
      digits = λ j l m. rw (at j (omega (arith, len))) (v.digits (a + j) (omega (arith, len)) (omega (arith, len)));
      last = λ l. rw (len, at (n - 1) (omega arith)) (by (omega (arith, len)) (eqb (a + n) (length s)) refl);
    }
  where
    len : length (take n (drop a s)) ≡ n
    len = length-take-le n (drop a s) (omega (arith, length-drop a s))

    at : (j : ℕ) → j < n → get_or (take n (drop a s)) j 0 ≡ get_or s (a + j) 0
    at j l = get_or-take n (drop a s) j 0 l ∙ get_or-drop a s j 0

    by : v.blanks < a + n → (t : Bool) → eqb (a + n) (length s) ≡ t → (is_from 48 (get_or s (a + (n - 1)) 0) ≡ true) ⊎ (is_from sign (get_or s (a + (n - 1)) 0) ≡ true)
    by l true e = let q : a + (n - 1) ≡ length s - 1 = omega (arith, eqb-true (a + n) (length s) e) in rw q (v.last (omega arith))
    by l false e = let q = eqb-false (a + n) (length s) e in inl (v.digits (a + (n - 1)) (omega arith) (omega arith))

-- A tail without spaces, written over the end of a valid decimal, leaves it valid. A tail that is only valid may begin with a space, and that would stand behind a digit.
pub keep_valid : {limit sign : ℕ} {s new : List ℕ} (i : ℕ) → Valid limit sign s → Figures limit sign new → i + length new ≡ length s → Valid limit sign (take i s ++ new)
keep_valid {limit} {sign} {s} {new} i v w h =
    record {
      some = omega (arith, len, v.some);
      most = omega (arith, len, v.most);
      blanks = min i v.blanks;
      few = omega (arith, len);
      spaces = λ j l. head j (omega arith) ∙ v.spaces j (omega arith);
      digits = λ j l m. by j l (omega (arith, len)) (ltb j i) refl;
      last = λ l. rw (len, e, tail (length new - 1)) w.last;
    }
  where
    front : length (take i s) ≡ i
    front = length-take-le i s (omega arith)

    len : length (take i s ++ new) ≡ length s
    len = length-append (take i s) new ∙ omega (arith, front)

    e : length s - 1 ≡ i + (length new - 1)
    e = omega (arith, w.some)

    head : (j : ℕ) → j < i → get_or (take i s ++ new) j 0 ≡ get_or s j 0
    head j l = get_or-append (take i s) new 0 j (omega (arith, front)) ∙ get_or-take i s j 0 l

    tail : (j : ℕ) → get_or (take i s ++ new) (i + j) 0 ≡ get_or new j 0
    tail j = ap (λ (k : ℕ). get_or (take i s ++ new) (k + j) 0) (sym front) ∙ get_or-append-add (take i s) new j 0

    by : (j : ℕ) → min i v.blanks ≤ j → j + 1 < length s → (t : Bool) → ltb j i ≡ t → is_from 48 (get_or (take i s ++ new) j 0) ≡ true
    by j b l true q =
        let k : j < i = ltb-true j i q in
        rw (head j k) (v.digits j (omega arith) l)
    by j b l false q =
        let k : i ≤ j = ltb-false j i q in
        let m : j ≡ i + (j - i) = omega arith in
        ap (λ (p : ℕ). is_from 48 (get_or (take i s ++ new) p 0)) m ∙ rw (tail (j - i)) (w.digits (j - i) (omega arith))
