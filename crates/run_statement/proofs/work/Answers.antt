-- `run_statement::work` meets its contract: each arm knows the verb, and its callee answers what the rule has for that.
-- Assumes nothing.
use Rattle.rules_run.specs.Turns.{turn_by}
use Rattle.run_passes.specs.Passes.{loop_turn}
use Rattle.run_statement.proofs.Statements.{turn_as, turn_loop, table_fits, end_fits}
use Rattle.run_statement.proofs.work.Goals as goal

pub computed-requires-clause-a_bound : goal.computed-requires-clause-a_bound
computed-requires-clause-a_bound c = search table_fits depth 3

pub loop_turn-requires-clause-c_bound : goal.loop_turn-requires-clause-c_bound
loop_turn-requires-clause-c_bound c = search end_fits depth 3

pub loop_turn-requires-in-LoopEnd-clause-c_bound : goal.loop_turn-requires-in-LoopEnd-clause-c_bound
loop_turn-requires-in-LoopEnd-clause-c_bound c = search end_fits depth 3

pub loop_turn-requires-in-ExitLoop-clause-c_bound : goal.loop_turn-requires-in-ExitLoop-clause-c_bound
loop_turn-requires-in-ExitLoop-clause-c_bound c = search end_fits depth 3

pub loop_turn-requires-in-NextLoop-clause-c_bound : goal.loop_turn-requires-in-NextLoop-clause-c_bound
loop_turn-requires-in-NextLoop-clause-c_bound c = search end_fits depth 3

pub returns-in-At : goal.returns-in-At
unfolding turn_by
returns-in-At c = search turn_as depth 3

pub returns-in-Goto : goal.returns-in-Goto
unfolding turn_by
returns-in-Goto c = search turn_as depth 3

pub returns-in-IfZero : goal.returns-in-IfZero
unfolding turn_by
returns-in-IfZero c = search turn_as depth 3

pub returns-in-Call : goal.returns-in-Call
unfolding turn_by
returns-in-Call c = search turn_as depth 3

pub returns-in-Return : goal.returns-in-Return
unfolding turn_by
returns-in-Return c = search turn_as depth 3

pub returns-in-Stop : goal.returns-in-Stop
unfolding turn_by
returns-in-Stop c = search turn_as depth 3

pub returns-in-Computed : goal.returns-in-Computed
unfolding turn_by
returns-in-Computed c = search turn_as depth 3

pub returns-in-For : goal.returns-in-For
unfolding turn_by loop_turn
returns-in-For c = search turn_loop depth 3

pub returns-in-LoopEnd : goal.returns-in-LoopEnd
unfolding turn_by loop_turn
returns-in-LoopEnd c = search turn_loop depth 3

pub returns-in-ExitLoop : goal.returns-in-ExitLoop
unfolding turn_by loop_turn
returns-in-ExitLoop c = search turn_loop depth 3

pub returns-in-NextLoop : goal.returns-in-NextLoop
unfolding turn_by loop_turn
returns-in-NextLoop c = search turn_loop depth 3

pub returns-in-OnError : goal.returns-in-OnError
unfolding turn_by
returns-in-OnError c = search turn_as depth 3

pub returns-in-OffError : goal.returns-in-OffError
unfolding turn_by
returns-in-OffError c = search turn_as depth 3

pub returns-in-Bad : goal.returns-in-Bad
unfolding turn_by
returns-in-Bad c = search turn_as depth 3
