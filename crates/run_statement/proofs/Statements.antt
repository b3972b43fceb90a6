-- What a statement answers: one law for every verb, and one for the verbs that work on loops. And the numbers of statements that are words, since what
-- they number lies inside the unit.
-- Assumes nothing.
use Rattle.rules.specs.declared.Fault.{Fault}
use Rattle.std.specs.Prelude.{Result}
use Prim.Native.Nat.{ℕ, ◌+◌, ◌<◌}
use native.Mathlib.Omega.{arith}
use mathlib.Core.Path.{◌≡◌, ap, sym, ◌∙◌, subst}
use mathlib.Core.List.{List}
use Rattle.rules_unit.specs.declared.Statement.{Statement}
use Rattle.rules_unit.specs.declared.Verb.{Verb}
use Rattle.rules_unit.specs.declared.Verb.TheVariants as verb
use Rattle.rules_unit.specs.Codes.{Code}
use Rattle.rules_unit.specs.Table.{verb_of, row_of}
use Rattle.rules_unit.specs.Sound.{RowSound, SoundCode}
use Rattle.rules_run.specs.declared.Look.{Look}
use Rattle.rules_run.specs.declared.Turn.{Turn}
use Rattle.rules_run.specs.Turns.{turn_by, turn_of}
use Rattle.run_passes.specs.Passes.{loop_turn}

-- s is the statement as the code decodes it, v its verb
module _ (c : Code) (i : ℕ) (s : Statement) (v w : Verb) (e : s ≡ c.statement i) (f : v ≡ verb_of s.code) (h : v ≡ w) where
  -- t is what the arm of w answers
  pub turn_as : (l : Look) (d : List ℕ) (t : Result Turn Fault) → t ≡ turn_by c l i d w s → t ≡ turn_of c l i d
  unfolding turn_of
  turn_as l d t q = rw (← e, ← f, h) q

  -- t is what the callee answers that the statements which work on loops share
  pub turn_loop : (l : Look) (d : List ℕ) (t : Result Turn Fault) → t ≡ loop_turn c l d v s → loop_turn c l d w s ≡ turn_by c l i d w s → t ≡ turn_of c l i d
  unfolding turn_of
  turn_loop l d t q g = rw (← e, ← f, h) ((rw h at q) ∙ g)

  row_sound : SoundCode c → i < c.statements → RowSound c i (row_of w) s
  row_sound code low =
      let known : verb_of (c.statement i).code ≡ w = sym (f ∙ ap (λ (x : Statement). verb_of x.code) e) ∙ h in
      subst (λ (x : Statement). RowSound c i (row_of w) x) (sym e) (subst (λ (x : Verb). RowSound c i (row_of x) (c.statement i)) known (code.statements i low).shape.parts)

module _ (c : Code) (i : ℕ) (s : Statement) (v : Verb) (code : SoundCode c) (low : i < c.statements) (most : c.statements < 65536) (e : s ≡ c.statement i) (f : v ≡ verb_of s.code) where
  -- The statements behind a computed GOTO.
  pub table_fits : v ≡ verb.Computed → i + s.a < 65535
  table_fits h = omega (arith, (row_sound c i s v verb.Computed e f h code low).of_a.inside)

  -- The loop end of a FOR.
  pub end_fits : v ≡ verb.For → s.c < 65535
  end_fits h = omega (arith, (row_sound c i s v verb.For e f h code low).of_c.low)
