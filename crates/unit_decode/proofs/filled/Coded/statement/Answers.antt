-- `unit_decode::Coded::statement` meets its contract: the statement is read from the tail.
-- Assumes nothing.
use mathlib.Core.Path.{◌∙◌, ap}
use Prim.Native.Nat.{ℕ, ◌*◌}
use mathlib.Core.List.{List}
use Rattle.rules_unit.specs.Decode.{statement_at, statements_at}
use Rattle.unit_decode.proofs.Statements.{statement_behind}
use Rattle.unit_decode.proofs.filled.Coded.statement.Goals as goal

pub returns : goal.returns
returns c =
    let s = c.args.self.now in
    (rw c.long.ensures at c.statement_at.ensures) ∙ ap (λ (u : List ℕ). statement_at u (c.args.i * 8)) s.starts ∙ statement_behind (statements_at s.parts) (c.args.i * 8) s.unit.now
