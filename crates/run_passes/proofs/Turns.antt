-- What a statement answers that works on loops: one law for every verb.
-- Assumes nothing.
use Rattle.rules.specs.declared.Fault.{Fault}
use Rattle.std.specs.Prelude.{Result}
use Prim.Native.Nat.{ℕ, ◌<◌}
use mathlib.Core.Path.{◌≡◌}
use mathlib.Core.List.{List}
use Rattle.rules_unit.specs.declared.Statement.{Statement}
use Rattle.rules_unit.specs.declared.Verb.{Verb}
use Rattle.rules_unit.specs.declared.Verb.TheVariants as verb
use Rattle.rules_unit.specs.Codes.{Code}
use Rattle.rules_run.specs.declared.Look.{Look}
use Rattle.rules_run.specs.declared.Turn.{Turn}
use Rattle.run_passes.specs.Passes.{loop_turn}

-- v is the verb of s; t is what the arm of w answers
pub loop_as : (c : Code) (l : Look) (d : List ℕ) (v w : Verb) (s : Statement) (t : Result Turn Fault) → v ≡ w → t ≡ loop_turn c l d w s → t ≡ loop_turn c l d v s
loop_as c l d v w s t h q = rw h q
