-- `run_evaluate::other_step` meets its contract: a code below 6 is that of a reference, and one above it that of an operator or none.
-- Assumes nothing.
use native.Mathlib.Omega.{arith}
use Rattle.run_evaluate.proofs.Coded.{bounds_item, code_none}
use Rattle.run_evaluate.proofs.Steps.{bad_leads}
use Rattle.run_evaluate.proofs.other_step.Goals as goal

pub reference_step-requires-clause-i_value : goal.reference_step-requires-clause-i_value
reference_step-requires-clause-i_value c = search bounds_item depth 3

pub operator_step-requires-clause-i_value : goal.operator_step-requires-clause-i_value
operator_step-requires-clause-i_value c = cc

pub returns : goal.returns
returns c =
    bad_leads
    c.args.coded.now c.args.bytes.now c.args.es.now c.args.i c.args.n c.args.held.now c.requires.ready c.malformed.result
    (code_none c.args.es.now c.args.i c.args.code c.operator_at-item.result c.requires.i_value c.operator_at-item.ensures (omega arith) c.requires.lt_code.1 c.in_default.not-Operator)
    c.malformed.ensures
