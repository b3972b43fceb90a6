-- What demand 3 promises of a run of a unit with a yes (the owner's letter; request 6 of document 02: "demand 3 says "given" also of a trapped error").
--   Safe c d r            the run r of the unit c, from the data d
--   ErrorsSafe c m s d    every error given in a run of at most m statements of the unit c, from the state s and the data d, trapped or not
-- Assumes nothing.
use Rattle.std.specs.Prelude.{ℕ, ◌<◌, ◌≡◌, List, length, get_or}
use Rattle.rules.specs.declared.Fault.{Fault}
use Rattle.rules.specs.Stops.{fault_number}
use Rattle.rules_unit.specs.Codes.{Code}
use Rattle.rules_run.specs.declared.State.{State}
use Rattle.rules_run.specs.Stops.{stop_number}
use Rattle.rules_run.specs.Runs.{Ran}
use Rattle.rules_run.specs.Answers.{Gives}
use Rattle.rules_fence.specs.Destinations.{Destination, AllValid, BadText}

-- "However that run stops"
pub record Safe (c : Code) (d : List ℕ) (r : Ran) : Type 0 where
  pub length_kept : length r.bytes ≡ length d
  -- "no byte outside the destinations written in the unit has changed"
  pub outside : (b : ℕ) → (Destination c b → ⊥) → get_or r.bytes b 0 ≡ get_or d b 0
  -- "every decimal element is valid"
  pub valid : AllValid c r.bytes
  -- "no subscript error was given"
  pub no_21 : stop_number r.outcome.stop ≡ 21 → ⊥
  -- "and a bad digit can come only from moving alpha text to a decimal place": the statement that is named does that, over the data that are left
  pub only_22 : stop_number r.outcome.stop ≡ 22 → (r.outcome.place < c.statements) × BadText c r.bytes (c.statement r.outcome.place)

-- "given", wherever in the run, trapped or not
pub record ErrorsSafe (c : Code) (m : ℕ) (s : State) (d : List ℕ) : Type 0 where
  -- "no subscript error was given"
  pub never_21 : (f : Fault) → fault_number f ≡ 21 → Gives c m s d f → ⊥
  -- "a bad digit can come only from moving alpha text to a decimal place": the statement that gives it does that, over the data that it sees
  pub always_text : (f : Fault) → fault_number f ≡ 22 → (g : Gives c m s d f) → BadText c g.seen (c.statement g.at.at)
