-- What is done at a place that is found, one law for each way.
-- Assumes nothing.
use Rattle.std.specs.Prelude.{Result}
use Rattle.rules.specs.declared.Fault.{Fault}
use Prim.Native.Nat.{ℕ}
use mathlib.Core.Path.{◌≡◌, ◌∙◌, ap}
use mathlib.Core.Bool.{Bool}
use mathlib.Core.List.{List}
use Rattle.rules_unit.specs.declared.Statement.{Statement}
use Rattle.rules_unit.specs.Codes.{Code}
use Rattle.rules_run.specs.declared.Worked.{Worked}
use Rattle.rules_run.specs.declared.Turn.{Turn}
use Rattle.rules_run.specs.Evaluation.{worked_of}
use Rattle.rules_run.specs.Turns.{move_worked, act_at}
use Rattle.rules_unit.specs.declared.Act.{Act}
use Rattle.rules_unit.specs.declared.Act.TheVariants as act

-- x is what the statement does there

module _ (c : Code) (d : List ℕ) (x : Act) (s : Statement) (decimal : Bool) (a n : ℕ) (t : Result Turn Fault) where
  -- y is what the callee found of the source
  pub at_set : (y : Result Worked Fault) → x ≡ act.Set → y ≡ worked_of c d (c.items s.b) → t ≡ move_worked c d decimal a n y → t ≡ act_at c d x s decimal a n
  at_set y h e q = rw h (q ∙ ap (move_worked c d decimal a n) e)

  -- the others
  pub at_as : (y : Act) → x ≡ y → t ≡ act_at c d y s decimal a n → t ≡ act_at c d x s decimal a n
  at_as y h q = rw h q
