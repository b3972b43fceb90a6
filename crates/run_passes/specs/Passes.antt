-- What is left of an entry and of a pass, one number after the other, and the four statements as one. The rules themselves are `enter_at`, `pass_at` and
-- `turn_by` of rules_run.
--   enter_limit c d e end a n v         what a FOR with the start v answers, whose limit is the number at e
--   enter_step c d e end a n v limit    what it answers with that limit, whose step is the number at e
--   pass_by c l a n x                   what a pass answers that reads x
--   loop_turn c l d v s                 what the statement s with the verb v answers that works on loops; any other verb is none of them
-- Assumes nothing.
use Rattle.rules.specs.declared.Fault.{Fault}
use Rattle.std.specs.Prelude.{ℕ, List, ℤ, Result, Err}
use Rattle.rules.specs.declared.Fault.TheVariants as fault
use Rattle.rules.specs.Arithmetic.{add_of}
use Rattle.rules_unit.specs.declared.Statement.{Statement}
use Rattle.rules_unit.specs.declared.Verb.{Verb}
use Rattle.rules_unit.specs.declared.Verb.TheVariants as verb
use Rattle.rules_unit.specs.Codes.{Code}
use Rattle.rules_unit.specs.Expressions.{next_at}
use Rattle.rules_run.specs.declared.Turn.{Turn}
use Rattle.rules_run.specs.declared.Look.{Look}
use Rattle.rules_run.specs.Evaluation.{value_at}
use Rattle.rules_run.specs.Turns.{on_value, controls, enter_by, enters, pass_flow, repeats, exits}

unfoldable pub enter_step : Code → List ℕ → ℕ → ℕ → ℕ → ℕ → ℤ → ℤ → Result Turn Fault
enter_step c d e end a n v limit = on_value (value_at c d e) (λ step. enter_by end a n v limit step)

unfoldable pub enter_limit : Code → List ℕ → ℕ → ℕ → ℕ → ℕ → ℤ → Result Turn Fault
enter_limit c d e end a n v = on_value (value_at c d e) (λ limit. enter_step c d (next_at c e) end a n v limit)

unfoldable pub pass_by : Code → Look → ℕ → ℕ → ℤ → Result Turn Fault
pass_by c l a n x = on_value (add_of c.dialect.top x l.last.step) (λ v. controls a n v (pass_flow c l v))

unfoldable pub loop_turn : Code → Look → List ℕ → Verb → Statement → Result Turn Fault
loop_turn c l d (verb.At x) s = Err fault.Malformed
loop_turn c l d verb.Goto s = Err fault.Malformed
loop_turn c l d verb.IfZero s = Err fault.Malformed
loop_turn c l d verb.Call s = Err fault.Malformed
loop_turn c l d verb.Return s = Err fault.Malformed
loop_turn c l d verb.Stop s = Err fault.Malformed
loop_turn c l d verb.Computed s = Err fault.Malformed
loop_turn c l d verb.For s = enters c l d s
loop_turn c l d verb.LoopEnd s = repeats c l d
loop_turn c l d verb.ExitLoop s = exits c l
loop_turn c l d verb.NextLoop s = repeats c l d
loop_turn c l d verb.OnError s = Err fault.Malformed
loop_turn c l d verb.OffError s = Err fault.Malformed
loop_turn c l d verb.Bad s = Err fault.Malformed
