-- Laws of the whole check, as its code meets them. Assumes nothing.
use Rattle.std.specs.Prelude.{Result, Err}
use Rattle.rules_unit.specs.declared.Refusal.{Refusal}
use Prim.Native.Nat.{ℕ, ◌≤◌}
use mathlib.Core.Path.{◌≡◌, sym, ◌∙◌}
use mathlib.Core.Bool.{Bool, true, false, not}
use mathlib.Core.List.{List}
use lib.ListN.{length}
use borrow.Author.Tests.{not-true, not-false}
use Rattle.rules_unit.specs.declared.Parts.{Parts}
use Rattle.rules_unit.specs.declared.Refusal.TheVariants as refusal
use Rattle.rules_unit.specs.Decode.{Fills, parts_of}
use Rattle.rules_unit.specs.Checks.{filledb, parts_check, check_of}
use Rattle.rules_unit.proofs.Sound.{filled_tells}

-- check 1, where b is what the code has of it
module _ (u : List ℕ) (b : Bool) (e : b ≡ filledb u) where
  pub refuse_1 : not b ≡ true → Err refusal.NotFilled ≡ check_of u
  unfolding check_of
  refuse_1 h = rw (← e, not-true b h)

  module _ (h : not b ≡ false) where
    pub filled_least : 12 ≤ length u
    filled_least = ((filled_tells u).to (sym e ∙ not-false b h)).least

    module _ (q : Parts) (f : q ≡ parts_of u) where
      pub filled_fills : Fills u q
      filled_fills = rw f ((filled_tells u).to (sym e ∙ not-false b h)).fills

      pub check_parts : (z : Result Parts Refusal) → z ≡ parts_check u q → z ≡ check_of u
      unfolding check_of
      check_parts z w = rw (← e, not-false b h, ← f) w

pub ruleset check_laws = (refuse_1, check_parts)
