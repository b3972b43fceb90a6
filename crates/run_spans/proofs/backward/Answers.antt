-- `run_spans::backward` meets its contract: a count past the offset is past it all the more when it is multiplied, and any other is small.
-- Assumes nothing.
use Rattle.std.specs.Prelude.{None}
use Prim.Native.Nat.{ℕ, ◌-◌, ◌*◌}
use mathlib.Core.Path.{◌≡◌, ◌∙◌, ap}
use lib.IntN.{pos}
use borrow.Author.Rules.{rules}
use Rattle.rules_run.specs.Spans.{within}
use native.Mathlib.Omega.{arith}
use Rattle.rules.proofs.Sizes.{product}
use Rattle.rules_run.proofs.Located.{before, after}
use Rattle.run_spans.proofs.Finding.{grows}
use Rattle.run_spans.proofs.backward.Goals as goal

pub returns-then-offset-k : goal.returns-then-offset-k
returns-then-offset-k c =
    let s = c.args in
    before s.size s.offset s.n (s.k * s.n) (omega (arith, grows s.k s.n (omega arith)))

pub overflow_mul-k : goal.overflow_mul-k
overflow_mul-k c = omega (arith, product c.args.k c.args.n (omega arith) (omega arith))

pub returns-in_err-checked_sub : goal.returns-in_err-checked_sub
returns-in_err-checked_sub c =
    let s = c.args in
    let same : c.from_residual.result ≡ None = search rules in
    same ∙ before s.size s.offset s.n (s.k * s.n) (grind arith)

pub returns : goal.returns
returns c =
    let s = c.args in
    let start : c.in_ok-checked_sub.field-0 ≡ s.offset - s.k * s.n = grind arith in
    c.inside.ensures ∙ ap (λ (i : ℕ). within s.size (pos i) s.n) start ∙ after s.size s.offset s.n (s.k * s.n) (grind arith)
