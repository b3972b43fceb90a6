-- The tests of the return numbers, one for each way out of the code: b is what the test of the return number i answered, and z what all of them come to.
-- Assumes nothing.
use Prim.Native.Nat.{ℕ, ◌+◌, ◌<◌, ◌≤◌}
use native.Mathlib.Numerals.{add-one}
use native.Mathlib.Omega.{arith}
use mathlib.Core.Path.{◌≡◌, sym, ◌∙◌}
use mathlib.Core.Bool.{Bool, true, false, not}
use mathlib.Core.List.{List}
use lib.ListN.{length, get_or, drop, drop_of_length-le}
use lib.Seq.{drop-cons}
use borrow.Author.Tests.{not-true, not-false}
use Rattle.rules_run.specs.States.{returnb, returnsb}

module _ (n depth i : ℕ) (l : List ℕ) (z : Bool) (rest : returnsb n depth i (drop i l) ≡ z) where
  -- A return number that is wrong.
  pub returns_wrong : (b : Bool) → i < length l → not b ≡ true → b ≡ returnb n depth i (get_or l i 0) → false ≡ z
  unfolding returnsb
  returns_wrong b h t e =
      let f : returnb n depth i (get_or l i 0) ≡ false = sym e ∙ not-true b t in
      rw (← rest, drop-cons l i 0 h, f)

  -- One that is right: those behind it answer for all.
  pub returns_onward : (b : Bool) → i < length l → not b ≡ false → b ≡ returnb n depth i (get_or l i 0) → returnsb n depth (i + 1) (drop (i + 1) l) ≡ z
  unfolding returnsb
  returns_onward b h t e =
      let f : returnb n depth i (get_or l i 0) ≡ true = sym e ∙ not-false b t in
      rw (← rest, drop-cons l i 0 h, f, add-one i)

  -- The last one passed.
  pub returns_end : length l ≡ 50 → 50 ≤ i → true ≡ z
  unfolding returnsb
  returns_end e h = let k : length l ≤ i = omega arith in rw (← rest, drop_of_length-le l k)
