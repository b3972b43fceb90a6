-- `run_evaluate::item_step` meets its contract: the byte says which item it is, and its step leads on.
-- Assumes nothing.
use Rattle.run_evaluate.proofs.Coded.{code_item, code_end, code_number, code_field, code_text}
use Rattle.run_evaluate.proofs.item_step.Goals as goal

pub end_step-requires-clause-i_value : goal.end_step-requires-clause-i_value
end_step-requires-clause-i_value c = search code_end depth 3

pub number_step-requires-clause-i_value : goal.number_step-requires-clause-i_value
number_step-requires-clause-i_value c = search code_number depth 3

pub field_step-requires-clause-i_value : goal.field_step-requires-clause-i_value
field_step-requires-clause-i_value c = search code_field depth 3

pub text_step-requires-clause-i_value : goal.text_step-requires-clause-i_value
text_step-requires-clause-i_value c = search code_text depth 3

pub other_step-requires-clause-i_value : goal.other_step-requires-clause-i_value
other_step-requires-clause-i_value c = search code_item depth 3
