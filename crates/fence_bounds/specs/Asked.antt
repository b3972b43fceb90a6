-- What the code asks of the bounds that stand before a reference, and two readings of them.
--   first_bound, last_bound s    the two bounds, 0 where there is none; start_bound h s the one that a reference starts from
--   Small s                    the bounds are in the range of values
-- Assumes nothing.
use Rattle.std.specs.Prelude.{◌^◌, ℤ, pos}
use Rattle.rules.specs.Values.{Val}
use Rattle.rules_unit.specs.declared.Form.{Form}
use Rattle.rules_unit.specs.declared.Form.TheVariants as form
use Rattle.rules_fence.specs.declared.Seen.{Seen}
use Rattle.rules_fence.specs.declared.Seen.TheVariants as seen

abbrev pub first_bound : Seen → ℤ
first_bound seen.Nothing = pos 0
first_bound (seen.One y plain) = pos 0
first_bound (seen.Two x y plain) = x

abbrev pub last_bound : Seen → ℤ
last_bound seen.Nothing = pos 0
last_bound (seen.One y plain) = y
last_bound (seen.Two x y plain) = y

-- A subscript is the last bound alone; a start or a position stands before another one.
abbrev pub start_bound : Form → Seen → ℤ
start_bound form.First s = first_bound s
start_bound form.Subscript s = last_bound s
start_bound form.StartEnd s = first_bound s
start_bound form.PosLength s = first_bound s

pub record Small (s : Seen) : Type 0 where
  pub first : Val (10 ^ 18) (first_bound s)
  pub last : Val (10 ^ 18) (last_bound s)
