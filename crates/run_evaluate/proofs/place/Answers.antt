-- `run_evaluate::place` meets its contract: what a field alone comes to is what the items of its expression come to, and any other expression is worked out.
-- Assumes nothing.
use Rattle.run_evaluate.proofs.Alone.{lone_word, lone_place}
use Rattle.std.proofs.Common.{◌≡◌}
use Rattle.rules_unit.specs.Decode.{items_at}
use Rattle.rules_run.specs.Evaluation.{worked_of}
use Rattle.unit_decode.specs.Units.{code_in}
use Rattle.run_evaluate.proofs.place.Goals as goal

pub word-field-requires : goal.word-field-requires
word-field-requires c = search lone_word depth 3

pub returns-then-lone : goal.returns-then-lone
returns-then-lone c =
    let same : c.place_first.result ≡ worked_of (code_in c.args.coded.now) c.args.bytes.now (items_at c.expressions-es.result.now c.long-at.result) = search lone_place depth 3 in
    rw (c.expressions-es.ensures.value, c.long-at.ensures) at same
