-- `stop_words::breach_words` meets its contract: each number's text is the one that `breach_text` names, and every arm puts its text in the same way.
-- Assumes nothing.
use Rattle.rules_host.specs.Words.{breach_words_of, codes}
use Rattle.stop_words.proofs.Said.{breach_by_lem, unbroken}
use Rattle.stop_words.proofs.breach_words.Goals as goal

pub returns-in-1 : goal.returns-in-1
unfolding breach_words_of codes
returns-in-1 c = search breach_by_lem depth 3

pub returns-in-2 : goal.returns-in-2
unfolding breach_words_of codes
returns-in-2 c = search breach_by_lem depth 3

pub returns-in-3 : goal.returns-in-3
unfolding breach_words_of codes
returns-in-3 c = search breach_by_lem depth 3

pub returns-in-4 : goal.returns-in-4
unfolding breach_words_of codes
returns-in-4 c = search breach_by_lem depth 3

pub returns-in-5 : goal.returns-in-5
unfolding breach_words_of codes
returns-in-5 c = search breach_by_lem depth 3

pub returns-in-6 : goal.returns-in-6
unfolding breach_words_of codes
returns-in-6 c = search breach_by_lem depth 3

pub returns-in_default : goal.returns-in_default
returns-in_default c = search unbroken depth 10
