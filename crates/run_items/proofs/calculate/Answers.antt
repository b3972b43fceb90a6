-- `run_items::calculate` meets its contract: each arm knows the operator, and calls the function that the rule names for it.
-- Assumes nothing.
use Rattle.std.specs.Prelude.{Ok}
use mathlib.Core.Path.{ap}
use Rattle.rules_unit.specs.declared.Op.TheVariants as op
use Rattle.rules_run.specs.Evaluation.{calc}
use Rattle.run_items.proofs.Operators.{by_num, by_value}
use Rattle.run_items.proofs.calculate.Goals as goal

pub returns-in-Add : goal.returns-in-Add
unfolding calc
returns-in-Add c = by_num c.args.top c.args.op c.args.x c.args.y c.ranges.x c.ranges.y op.Add c.in-Add.is c.add.result c.add.ensures

pub returns-in-Subtract : goal.returns-in-Subtract
unfolding calc
returns-in-Subtract c = by_num c.args.top c.args.op c.args.x c.args.y c.ranges.x c.ranges.y op.Subtract c.in-Subtract.is c.subtract.result c.subtract.ensures

pub returns-in-Multiply : goal.returns-in-Multiply
unfolding calc
returns-in-Multiply c = by_num c.args.top c.args.op c.args.x c.args.y c.ranges.x c.ranges.y op.Multiply c.in-Multiply.is c.multiply.result c.multiply.ensures

pub returns-in-Divide : goal.returns-in-Divide
unfolding calc
returns-in-Divide c = by_num c.args.top c.args.op c.args.x c.args.y c.ranges.x c.ranges.y op.Divide c.in-Divide.is c.divide.result c.divide.ensures

pub returns-in-Round : goal.returns-in-Round
unfolding calc
returns-in-Round c = by_num c.args.top c.args.op c.args.x c.args.y c.ranges.x c.ranges.y op.Round c.in-Round.is c.round.result c.round.ensures

pub returns-in-Negate : goal.returns-in-Negate
unfolding calc
returns-in-Negate c = by_value c.args.top c.args.op c.args.x c.args.y c.ranges.x c.ranges.y op.Negate c.in-Negate.is (record { sfits = c.negate.type_inv }) (ap Ok c.negate.ensures)

pub returns-in-Eq : goal.returns-in-Eq
unfolding calc
returns-in-Eq c = by_value c.args.top c.args.op c.args.x c.args.y c.ranges.x c.ranges.y op.Eq c.in-Eq.is (record { sfits = c.equal.type_inv }) (ap Ok c.equal.ensures)

pub returns-in-Ne : goal.returns-in-Ne
unfolding calc
returns-in-Ne c = by_value c.args.top c.args.op c.args.x c.args.y c.ranges.x c.ranges.y op.Ne c.in-Ne.is (record { sfits = c.differ.type_inv }) (ap Ok c.differ.ensures)

pub returns-in-Gt : goal.returns-in-Gt
unfolding calc
returns-in-Gt c = by_value c.args.top c.args.op c.args.x c.args.y c.ranges.x c.ranges.y op.Gt c.in-Gt.is (record { sfits = c.greater.type_inv }) (ap Ok c.greater.ensures)

pub returns-in-Lt : goal.returns-in-Lt
unfolding calc
returns-in-Lt c = by_value c.args.top c.args.op c.args.x c.args.y c.ranges.x c.ranges.y op.Lt c.in-Lt.is (record { sfits = c.less.type_inv }) (ap Ok c.less.ensures)

pub returns-in-Ge : goal.returns-in-Ge
unfolding calc
returns-in-Ge c = by_value c.args.top c.args.op c.args.x c.args.y c.ranges.x c.ranges.y op.Ge c.in-Ge.is (record { sfits = c.at_least.type_inv }) (ap Ok c.at_least.ensures)

pub returns-in-Le : goal.returns-in-Le
unfolding calc
returns-in-Le c = by_value c.args.top c.args.op c.args.x c.args.y c.ranges.x c.ranges.y op.Le c.in-Le.is (record { sfits = c.at_most.type_inv }) (ap Ok c.at_most.ensures)

pub returns-in-Not : goal.returns-in-Not
unfolding calc
returns-in-Not c = by_value c.args.top c.args.op c.args.x c.args.y c.ranges.x c.ranges.y op.Not c.in-Not.is (record { sfits = c.not_of.type_inv }) (ap Ok c.not_of.ensures)

pub returns-in-And : goal.returns-in-And
unfolding calc
returns-in-And c = by_value c.args.top c.args.op c.args.x c.args.y c.ranges.x c.ranges.y op.And c.in-And.is (record { sfits = c.and_of.type_inv }) (ap Ok c.and_of.ensures)

pub returns-in-Or : goal.returns-in-Or
unfolding calc
returns-in-Or c = by_value c.args.top c.args.op c.args.x c.args.y c.ranges.x c.ranges.y op.Or c.in-Or.is (record { sfits = c.or_of.type_inv }) (ap Ok c.or_of.ensures)

pub returns-in-Xor : goal.returns-in-Xor
unfolding calc
returns-in-Xor c = by_value c.args.top c.args.op c.args.x c.args.y c.ranges.x c.ranges.y op.Xor c.in-Xor.is (record { sfits = c.xor_of.type_inv }) (ap Ok c.xor_of.ensures)
