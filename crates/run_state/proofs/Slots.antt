-- The tests of the open loops, one for each way out of the code.
-- Assumes nothing.
use Prim.Native.Nat.{ℕ, ◌+◌, ◌<◌, ◌≤◌}
use native.Mathlib.Numerals.{add-one}
use native.Mathlib.Omega.{arith}
use mathlib.Core.Path.{◌≡◌, sym, ◌∙◌}
use mathlib.Core.Bool.{Bool, true, false, not}
use mathlib.Core.List.{List}
use lib.ListN.{length, get_or, drop, drop_of_length-le}
use lib.Seq.{drop-cons}
use borrow.Author.Tests.{not-true, not-false}
use Rattle.rules_unit.specs.Codes.{Code}
use Rattle.rules_run.specs.declared.Loop.{Loop}
use Rattle.rules_run.specs.States.{no_loop, slotb, slotsb}

module _ (c : Code) (opened i : ℕ) (l : List Loop) (z : Bool) (rest : slotsb c opened i (drop i l) ≡ z) where
  pub slots_wrong : (b : Bool) → i < length l → not b ≡ true → b ≡ slotb c opened i (get_or l i no_loop) → false ≡ z
  unfolding slotsb
  slots_wrong b h t e =
      let f : slotb c opened i (get_or l i no_loop) ≡ false = sym e ∙ not-true b t in
      rw (← rest, drop-cons l i no_loop h, f)

  pub slots_onward : (b : Bool) → i < length l → not b ≡ false → b ≡ slotb c opened i (get_or l i no_loop) → slotsb c opened (i + 1) (drop (i + 1) l) ≡ z
  unfolding slotsb
  slots_onward b h t e =
      let f : slotb c opened i (get_or l i no_loop) ≡ true = sym e ∙ not-false b t in
      rw (← rest, drop-cons l i no_loop h, f, add-one i)

  pub slots_end : length l ≡ 16 → 16 ≤ i → true ≡ z
  unfolding slotsb
  slots_end e h = let k : length l ≤ i = omega arith in rw (← rest, drop_of_length-le l k)
