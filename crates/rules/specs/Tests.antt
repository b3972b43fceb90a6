-- Tests of several conditions.
--   t and x    both: x is asked for where t is so
-- Assumes nothing.
use Rattle.std.specs.Prelude.{Bool, false, cond}

infixr 35 ◌and◌
abbrev pub ◌and◌ : Bool → Bool → Bool
t and x = cond t x false
