-- The faults' numbers (document 01, "Stops and their numbers"; requests 4 and 6 of document 02, "FOR loops", "ONERROR and OFFERROR").
--   fault_number f    the number that the table gives
--   trappedb n       n is the number of an error that a handler traps; Trappable n says the same
-- Assumes nothing.
use Rattle.std.specs.Prelude.{ℕ, ◌≤◌, ◌≡◌, ◌⊎◌, Bool, ◌||◌, leb, eqb}
use Rattle.rules.specs.Tests.{◌and◌}
use Rattle.rules.specs.declared.Fault.{Fault}
use Rattle.rules.specs.declared.Fault.TheVariants.{Malformed, TooLong, Outside, BadDigit, ZeroDivisor, CallsFull, NoCall, RoundCount, ZeroStep, LoopsFull, NoLoop}

-- "4 | an expression is badly formed", "20 | more than 18 digits", "21 | subscript or substring", "22 | bad digit", "23 | zero divisor",
-- "24 | CALL with 50 calls open", "25 | RETURN with none open", "26 | rounding count"; "27 zero step", "28 more than 16 open loops", "29 loop end, EXITLOOP or
-- NEXTLOOP with no loop open"
abbrev pub fault_number : Fault → ℕ
fault_number Malformed = 4
fault_number TooLong = 20
fault_number Outside = 21
fault_number BadDigit = 22
fault_number ZeroDivisor = 23
fault_number CallsFull = 24
fault_number NoCall = 25
fault_number RoundCount = 26
fault_number ZeroStep = 27
fault_number LoopsFull = 28
fault_number NoLoop = 29

-- "one of the errors 20, 21, 22, 23 or 26"; "Errors 24, 25, 27, 28 and 29 are not trapped."
abbrev pub trappedb : ℕ → Bool
trappedb n = (leb 20 n and leb n 23) || eqb n 26

abbrev pub Trappable : ℕ → Type 0
Trappable n = ((20 ≤ n) × (n ≤ 23)) ⊎ (n ≡ 26)
