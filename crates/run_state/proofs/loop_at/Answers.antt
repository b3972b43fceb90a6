-- `run_state::loop_at` meets its contract: the three numbers of a slot stand for values.
-- Assumes nothing.
use borrow.Author.Rules.{rules}
use native.Mathlib.Omega.{arith}
use Rattle.rules.proofs.Signed.{back}
use Rattle.run_state.proofs.Reading.{entry_small, limit_good, step_good, loop_read}
use Rattle.run_state.proofs.loop_at.Goals as goal

pub overflow_cast-entry : goal.overflow_cast-entry
overflow_cast-entry c = omega (arith, entry_small _ c.requires.numbers_len c.requires.numbers_value _ c.requires.k_bound)

pub value_of-limit-requires : goal.value_of-limit-requires
value_of-limit-requires c = search (limit_good, rules) depth 3

pub value_of-step-requires : goal.value_of-step-requires
value_of-step-requires c = search (step_good, rules) depth 3

pub returns : goal.returns
returns c =
    loop_read c.args.numbers.now c.args.k _ _ _ _ c.value_of-limit.ensures (back (record { sfits = c.value_of-limit.type_inv }))
    c.value_of-step.ensures (back (record { sfits = c.value_of-step.type_inv }))
