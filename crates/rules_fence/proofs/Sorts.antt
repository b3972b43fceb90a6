-- Expressions that suit their use (document 01, "The coded unit"): each of their items keeps its own rule.
-- Assumes nothing.
use Prim.Native.Nat.{ℕ, ◌+◌, ◌-◌}
use mathlib.Core.Path.{◌≡◌}
use mathlib.Core.Bool.{true}
use mathlib.Core.List.{List, [], ◌∷◌}
use lib.Dec.{leb}
use Rattle.rules_unit.specs.declared.Item.{Item}
use Rattle.rules_unit.specs.declared.Sort.{Sort}
use Rattle.rules_unit.specs.declared.Sort.TheVariants as sort
use Rattle.rules_unit.specs.declared.Want.{Want}
use Rattle.rules_unit.specs.Codes.{Code}
use Rattle.rules_unit.specs.Expressions.{takes, itemb, Known, sort_of, goes_on, sort_from, sort_at, suits}
use Rattle.rules_unit.proofs.Sorts.{rightb, sure, suits_right}

known_from : (c : Code) (is : List Item) (n : ℕ) (k : Sort) → rightb (sort_from c is n k) ≡ true → Known c is
unfolding sort_from
known_from c [] n k e = tt
known_from c (i ∷ is) n k e =
    let e₀ = sure (goes_on k) _ e in
    let e₁ = sure (itemb c i) _ e₀.1 in
    let e₂ = sure (leb (takes i) n) _ e₁.1 in
    let e₃ = sure (leb (n - takes i + 1) 16) _ e₂.1 in
    (e₁.0, known_from c is (n - takes i + 1) (sort_of c i) e₃.1)

pub known_of : (c : Code) (w : Want) (at : ℕ) → suits w (sort_at c at) ≡ true → Known c (c.items at)
unfolding sort_at
known_of c w at q = known_from c (c.items at) 0 sort.Number (suits_right w (sort_at c at) q)
