-- `run_stores::store` meets its contract: each arm knows the store, which has room, and its callee makes of the data what the rule makes.
-- Assumes nothing.
use Rattle.run_stores.proofs.Writes.{number_room, number_short, number_value, show_room, show_value, move_room, move_source, literal_room, literal_source, clear_room, case_room, edit_room, edit_value, edit_mask, edit_literal_room, edit_literal_value, edit_literal_mask, stores_made}
use Rattle.run_stores.proofs.store.Goals as goal

pub store_number-requires-clause-len_in_bounds : goal.store_number-requires-clause-len_in_bounds
store_number-requires-clause-len_in_bounds c = search (number_room, number_short, number_value) depth 3

pub store_number-requires-clause-val : goal.store_number-requires-clause-val
store_number-requires-clause-val c = search (number_room, number_short, number_value) depth 3

pub store_shown-requires : goal.store_shown-requires
store_shown-requires c = search (show_room, show_value) depth 3

pub move_text-requires : goal.move_text-requires
move_text-requires c = search (move_room, move_source) depth 3

pub store_literal-requires-clause-len_in_bounds : goal.store_literal-requires-clause-len_in_bounds
store_literal-requires-clause-len_in_bounds c = search (literal_room, literal_source) depth 3

pub store_literal-requires-clause-count_in_bounds : goal.store_literal-requires-clause-count_in_bounds
store_literal-requires-clause-count_in_bounds c = search (literal_room, literal_source) depth 3

pub store_cleared-requires : goal.store_cleared-requires
store_cleared-requires c = search clear_room depth 3

pub store_cased-requires : goal.store_cased-requires
store_cased-requires c = search case_room depth 3

pub format_in-requires-clause-len_in_bounds : goal.format_in-requires-clause-len_in_bounds
format_in-requires-clause-len_in_bounds c = (search edit_room depth 3, search edit_mask depth 3)

pub format_in-requires-clause-val : goal.format_in-requires-clause-val
format_in-requires-clause-val c = search edit_value depth 3

pub format_literal-requires-clause-len_in_bounds : goal.format_literal-requires-clause-len_in_bounds
format_literal-requires-clause-len_in_bounds c = search edit_literal_room depth 3

pub format_literal-requires-clause-val : goal.format_literal-requires-clause-val
format_literal-requires-clause-val c = search edit_literal_value depth 3

pub format_literal-requires-clause-count_in_bounds : goal.format_literal-requires-clause-count_in_bounds
format_literal-requires-clause-count_in_bounds c = search edit_literal_mask depth 3

pub returns-in-Nothing : goal.returns-in-Nothing
returns-in-Nothing c = search stores_made depth 3

pub returns-in-Number : goal.returns-in-Number
returns-in-Number c = search stores_made depth 3

pub returns-in-Show : goal.returns-in-Show
returns-in-Show c = search stores_made depth 3

pub returns-in-Move : goal.returns-in-Move
returns-in-Move c = search stores_made depth 3

pub returns-in-Literal : goal.returns-in-Literal
returns-in-Literal c = search stores_made depth 3

pub returns-in-Clear : goal.returns-in-Clear
returns-in-Clear c = search stores_made depth 3

pub returns-in-Case : goal.returns-in-Case
returns-in-Case c = search stores_made depth 3

pub returns-in-Edit : goal.returns-in-Edit
returns-in-Edit c = search stores_made depth 3

pub returns-in-EditLiteral : goal.returns-in-EditLiteral
returns-in-EditLiteral c = search stores_made depth 3
