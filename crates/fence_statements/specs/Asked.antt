-- What the fence's code asks of the items and the uses that it is given.
--   AllKnown c is    every item keeps its own rule, so that field numbers lie inside the fields
--   AllGood c us     every use is of the sort that it wants
-- Assumes nothing.
use Rattle.std.specs.Prelude.{◌≡◌, true, List, ℕ, ◌<◌, length, get_or, None, Option}
use Rattle.rules_unit.specs.declared.Item.{Item}
use Rattle.rules_unit.specs.declared.Use.{Use}
use Rattle.rules_unit.specs.Codes.{Code}
use Rattle.rules_unit.specs.Expressions.{Known, useb}

pub record AllKnown (c : Code) (is : List Item) : Type 0 where
  pub each : Known c is

pub record AllGood (c : Code) (us : List (Option Use)) : Type 0 where
  pub each : (k : ℕ) → k < length us → useb c (get_or us k None) ≡ true
