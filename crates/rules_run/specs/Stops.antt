-- The stops and their numbers (document 01, "Stops and their numbers").
--   stop_number s         the number that the table gives
--   stop_place n at s     the place that it names, in a unit of n statements, where the state is at the statement given
-- Assumes nothing.
use Rattle.std.specs.Prelude.{ℕ}
use Rattle.rules.specs.Stops.{fault_number}
use Rattle.rules_unit.specs.Checks.{refusal_number, refusal_place}
use Rattle.rules_run.specs.declared.Stop.{Stop}
use Rattle.rules_run.specs.declared.Stop.TheVariants as stop

-- "0 | end reached", "6 | data buffer isn't D bytes", "7 | resume state unsound", "30 | allowance spent before the end"
abbrev pub stop_number : Stop → ℕ
stop_number stop.End = 0
stop_number (stop.Refused r) = refusal_number r
stop_number stop.WrongSize = 6
stop_number stop.Unsound = 7
stop_number (stop.Failed f) = fault_number f
stop_number stop.Spent = 30

-- "0 | .. | N", "20 | .. | statement", "30 | .. | next statement"
abbrev pub stop_place : ℕ → ℕ → Stop → ℕ
stop_place n at stop.End = n
stop_place n at (stop.Refused r) = refusal_place r
stop_place n at stop.WrongSize = 0
stop_place n at stop.Unsound = 0
stop_place n at (stop.Failed f) = at
stop_place n at stop.Spent = at
