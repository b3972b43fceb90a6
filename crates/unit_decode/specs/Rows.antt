-- Notes of expressions in a row: where the expression behind the one at an offset starts, so that it is found once.
--   Rows s rows         whatever is noted of the expressions s is so
-- A note is a number for each offset. Where it is 0, nothing is noted.
-- Assumes nothing.
use Rattle.std.specs.Prelude.{◌≡◌, List, ℕ, ◌+◌, ◌<◌, get_or}
use Rattle.rules_unit.specs.Decode.{items_at}
use Rattle.rules_unit.specs.Expressions.{extent_of}

pub record Rows (s rows : List ℕ) : Type 0 where
  pub so : (e : ℕ) → 0 < get_or rows e 0 → get_or rows e 0 ≡ e + extent_of (items_at s e)
