-- `run_spans::held_to` meets its contract: a span that was found is held to its field, and none stays none.
-- Assumes nothing.
use Rattle.std.specs.Prelude.{None}
use mathlib.Core.Path.{◌≡◌, ◌∙◌}
use borrow.Author.Rules.{rules}
use Rattle.run_spans.proofs.Finding.{field_at, field_none}
use Rattle.run_spans.proofs.held_to.Goals as goal

pub returns-in_err-span : goal.returns-in_err-span
returns-in_err-span c =
    let same : c.from_residual.result ≡ None = search rules in
    same ∙ field_none c.args.field c.args.span c.from_residual.result (search rules)

pub returns : goal.returns
returns c = field_at c.args.field c.args.span c.held.result _ _ (search rules) c.held.ensures
