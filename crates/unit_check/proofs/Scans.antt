-- Laws of checks 4 and 5, as their code meets them: s is the statement that the code has read. Assumes nothing.
use Rattle.std.specs.Prelude.{Result, Err, Ok}
use Rattle.rules_unit.specs.declared.Refusal.{Refusal}
use Prim.Native.Nat.{ℕ, ◌+◌, ◌-◌, ◌<◌, ◌≤◌}
use mathlib.Core.Path.{◌≡◌, sym, ap, ◌∙◌}
use mathlib.Core.Bool.{Bool, true, false, not}
use mathlib.Core.List.{List}
use native.Mathlib.Nat.{add-sub_cancel_left}
use borrow.Author.Tests.{not-true, not-false}
use Rattle.rules_unit.specs.declared.Parts.{Parts}
use Rattle.rules_unit.specs.declared.Statement.{Statement}
use Rattle.rules_unit.specs.Codes.{Code}
use Rattle.rules_unit.specs.Decode.{code_of}
use Rattle.rules_unit.specs.declared.Found.{Found}
use Rattle.rules_unit.specs.declared.Found.TheVariants as found
use Rattle.rules_unit.specs.declared.Refusal.TheVariants as refusal
use Rattle.rules_unit.specs.Checks.{is_goto, gotosb, found_of, statements_from}
use Rattle.rules_unit.proofs.Statements.{left_suc, left_none, statements_more, statements_stop, statements_end}

-- ---- the loop over a table: it ends at n, j is the next statement, and z is what the whole loop answers

module _ (c : Code) (n j : ℕ) (z : Bool) where
  pub gotos_on : (s : Statement) (b : Bool) → j < n → s ≡ c.statement j → b ≡ is_goto s → not b ≡ false → gotosb c (n - j) j ≡ z
      → gotosb c (n - (j + 1)) (j + 1) ≡ z
  unfolding gotosb
  gotos_on s b h e f g w = sym (rw (left_suc n j h, ← e, ← f, not-false b g)) ∙ w

  pub gotos_stop : (s : Statement) (b : Bool) → j < n → s ≡ c.statement j → b ≡ is_goto s → not b ≡ true → gotosb c (n - j) j ≡ z → false ≡ z
  unfolding gotosb
  gotos_stop s b h e f g w = sym (rw (left_suc n j h, ← e, ← f, not-true b g)) ∙ w

  pub gotos_end : n ≤ j → gotosb c (n - j) j ≡ z → true ≡ z
  unfolding gotosb
  gotos_end h w = sym (rw (left_none n j h)) ∙ w

pub gotos_start : (c : Code) (i n : ℕ) → gotosb c (i + n - i) i ≡ gotosb c n i
gotos_start c i n = ap (λ (k : ℕ). gotosb c k i) (add-sub_cancel_left i n)

-- ---- the loop over the statements: n of them, i is the next one, and z is what the whole loop answers

module _ (u : List ℕ) (p : Parts) (n i : ℕ) (z : Result Parts Refusal) (w : statements_from u p (n - i) i ≡ z) where
  pub scan_end : n ≤ i → Ok p ≡ z
  scan_end h = statements_end u p n i h ∙ w

  module _ (f : Found) (h : i < n) (e : f ≡ found_of (code_of u p) i) where
    pub scan_on : f ≡ found.Good → statements_from u p (n - (i + 1)) (i + 1) ≡ z
    scan_on g = statements_more u p n i h (sym e ∙ g) ∙ w

    pub scan_5 : f ≡ found.BadShape → Err (refusal.BadStatement i) ≡ z
    scan_5 g = statements_stop u p n i found.BadShape h (sym e ∙ g) ∙ w

    pub scan_4 : f ≡ found.BadExpression → Err (refusal.BadExpression i) ≡ z
    scan_4 g = statements_stop u p n i found.BadExpression h (sym e ∙ g) ∙ w

pub ruleset scan_out = (scan_end, scan_5, scan_4)

pub ruleset goto_laws = (gotos_start, gotos_on, gotos_end)
