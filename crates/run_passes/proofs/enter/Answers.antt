-- `run_passes::enter` meets its contract: the open loops are tested first; a decimal place that is found is short enough.
-- Assumes nothing.
use Rattle.std.proofs.Common.{rules, ◌≡◌, Err}
use Rattle.run_evaluate.proofs.Answers.{found_short, on_places}
use Rattle.run_passes.proofs.Entries.{enters_full, enters_at}
use Rattle.rules.specs.declared.Fault.TheVariants as fault
use Rattle.rules_run.specs.Evaluation.{worked_of}
use Rattle.rules_run.specs.Turns.{on_place, enter_at}
use Rattle.unit_decode.specs.Units.{code_in}
use Rattle.run_passes.proofs.enter.Goals as goal

pub returns-then-look-ge16 : goal.returns-then-look-ge16
returns-then-look-ge16 c = search enters_full depth 3

pub returns-in_err-decimal : goal.returns-in_err-decimal
returns-in_err-decimal c =
    let was = c.in_err-decimal.was in
    let same : c.from_residual.result ≡ Err c.in_err-decimal.field-0.0 = search rules in
    search (enters_at, on_places) depth 4

pub enter_at-requires-clause-len_bound : goal.enter_at-requires-clause-len_bound
enter_at-requires-clause-len_bound c = let was = c.in_ok-decimal.was in search found_short depth 3

pub returns-in-Place : goal.returns-in-Place
returns-in-Place c = let was = c.in_ok-decimal.was in search (enters_at, on_places) depth 4

pub returns-in_default : goal.returns-in_default
returns-in_default c =
    let inner : Err fault.Malformed ≡ on_place (worked_of (code_in c.args.coded.now) c.args.bytes.now ((code_in c.args.coded.now).items c.args.s.a)) (enter_at (code_in c.args.coded.now) c.args.bytes.now c.args.s) = search rules in
    search enters_at depth 3
