-- `run_evaluate::worked_in` meets its contract: each step leads to what the whole comes to.
-- Assumes nothing.
use borrow.Author.Rules.{rules}
use Prim.Native.Nat.{◌-◌, ◌<◌}
use Rattle.rules_unit.specs.Decode.{items_at, code_of}
use Rattle.run_evaluate.proofs.Held.{vals_zero}
use Rattle.run_evaluate.proofs.Steps.{rest_start, loop_beyond, loop_done, loop_kept, loop_shrinks, loop_next, vals_stored}
use Rattle.run_evaluate.proofs.worked_in.Goals as goal

pub loop-i-init : goal.loop-i-init
loop-i-init c = (
  rest_start (code_of c.args.coded.now.unit.now c.args.coded.now.parts) c.args.bytes.now (items_at c.args.es.now c.args.at) _,
  search rules,
  vals_zero 17,
)

pub offset_bounds-held-kept : goal.offset_bounds-held-kept
offset_bounds-held-kept c =
    let kept_low : c.in-Hold.kept < 16 = search loop_kept depth 3 in
    let k = kept_low in search rules

pub bounds-held-kept : goal.bounds-held-kept
bounds-held-kept c =
    let kept_low : c.in-Hold.kept < 16 = search loop_kept depth 3 in
    let k = kept_low in search rules

pub overflow_add-n : goal.overflow_add-n
overflow_add-n c =
    let kept_low : c.in-Hold.kept < 16 = search loop_kept depth 3 in
    let k = kept_low in search rules

pub loop-i-smaller : goal.loop-i-smaller
loop-i-smaller c = search loop_shrinks depth 3

pub loop-i-preserved : goal.loop-i-preserved
loop-i-preserved c = (search loop_next depth 3, search rules, search vals_stored depth 3)

pub returns-in-Done : goal.returns-in-Done
returns-in-Done c = search loop_done depth 3

pub returns : goal.returns
returns c = search loop_beyond depth 3
