-- `stop_words::words` meets its contract: each number's text is the one that `stop_text` names, and every arm puts its text in the same way.
-- Assumes nothing.
use Rattle.rules_host.specs.Words.{words_of, codes}
use Rattle.stop_words.proofs.Said.{said_by, unsaid}
use Rattle.stop_words.proofs.words.Goals as goal

pub returns-in-0 : goal.returns-in-0
unfolding words_of codes
returns-in-0 c = search said_by depth 3

pub returns-in-1 : goal.returns-in-1
unfolding words_of codes
returns-in-1 c = search said_by depth 3

pub returns-in-2 : goal.returns-in-2
unfolding words_of codes
returns-in-2 c = search said_by depth 3

pub returns-in-3 : goal.returns-in-3
unfolding words_of codes
returns-in-3 c = search said_by depth 3

pub returns-in-4 : goal.returns-in-4
unfolding words_of codes
returns-in-4 c = search said_by depth 3

pub returns-in-5 : goal.returns-in-5
unfolding words_of codes
returns-in-5 c = search said_by depth 3

pub returns-in-6 : goal.returns-in-6
unfolding words_of codes
returns-in-6 c = search said_by depth 3

pub returns-in-7 : goal.returns-in-7
unfolding words_of codes
returns-in-7 c = search said_by depth 3

pub returns-in-20 : goal.returns-in-20
unfolding words_of codes
returns-in-20 c = search said_by depth 3

pub returns-in-21 : goal.returns-in-21
unfolding words_of codes
returns-in-21 c = search said_by depth 3

pub returns-in-22 : goal.returns-in-22
unfolding words_of codes
returns-in-22 c = search said_by depth 3

pub returns-in-23 : goal.returns-in-23
unfolding words_of codes
returns-in-23 c = search said_by depth 3

pub returns-in-24 : goal.returns-in-24
unfolding words_of codes
returns-in-24 c = search said_by depth 3

pub returns-in-25 : goal.returns-in-25
unfolding words_of codes
returns-in-25 c = search said_by depth 3

pub returns-in-26 : goal.returns-in-26
unfolding words_of codes
returns-in-26 c = search said_by depth 3

pub returns-in-27 : goal.returns-in-27
unfolding words_of codes
returns-in-27 c = search said_by depth 3

pub returns-in-28 : goal.returns-in-28
unfolding words_of codes
returns-in-28 c = search said_by depth 3

pub returns-in-29 : goal.returns-in-29
unfolding words_of codes
returns-in-29 c = search said_by depth 3

pub returns-in-30 : goal.returns-in-30
unfolding words_of codes
returns-in-30 c = search said_by depth 3

pub returns-in_default : goal.returns-in_default
returns-in_default c = search unsaid depth 23
