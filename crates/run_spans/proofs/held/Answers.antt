-- `run_spans::held` meets its contract: at each `return` the tests say that the span leaves the field, or that it lies inside.
-- Assumes nothing.
use mathlib.Core.Path.{sym}
use native.Mathlib.Omega.{arith}
use Rattle.rules_unit.specs.declared.Rule.TheVariants as rule
use Rattle.rules_run.proofs.Strict.{held_in, held_past}
use Rattle.run_spans.proofs.held.Goals as goal

pub returns-then-start-long : goal.returns-then-start-long
returns-then-start-long c =
    let s = c.args in
    sym (held_past s.field s.start s.len (λ i. grind (arith, i.0, i.1)))

pub returns : goal.returns
returns c =
    let s = c.args in
    sym (held_in s.field rule.Strict s.start s.len (omega arith, omega arith))
