-- A well-formed expression of a sort comes to a value of that sort, or to a fault that is not Malformed, whatever the data are (document 01,
-- "The coded unit").
-- Assumes nothing.
use Prim.Native.Nat.{ℕ, ◌+◌, ◌-◌, ◌≤◌}
use native.Mathlib.Omega.{arith}
use mathlib.Core.Path.{◌≡◌, refl, sym, ◌∙◌, subst}
use mathlib.Core.Bool.{true}
use mathlib.Core.List.{List, [], ◌∷◌}
use lib.Dec.{leb, eqb}
use lib.IntN.{ℤ}
use lib.ListN.{length}
use borrow.Author.Tests.{leb-true, eqb-true}
use Rattle.rules_unit.specs.declared.Item.{Item}
use Rattle.rules_unit.specs.declared.Sort.{Sort}
use Rattle.rules_unit.specs.declared.Sort.TheVariants as sort
use Rattle.rules_unit.specs.Codes.{Code}
use Rattle.rules_unit.specs.Expressions.{takes, itemb, sort_of, goes_on, sort_from, sort_at}
use Rattle.rules_unit.proofs.Items.{takes_two}
use Rattle.rules_unit.proofs.Sorts.{rightb, sure}
use Rattle.rules_run.specs.Evaluation.{apply, step_by, on_held, last_of, worked_from, worked_of}
use Rattle.rules_run.proofs.Formed.{item_formed, step_formed}
use Rattle.rules_run.proofs.Comes.{Comes, last_comes}

module _ (c : Code) (d : List ℕ) where
  -- These are the tests that the check has passed at an item.
  record Passed (i : Item) (is : List Item) (n : ℕ) (k : Sort) : Type 0 where
    on : goes_on k ≡ true
    own : itemb c i ≡ true
    enough : takes i ≤ n
    few : n - takes i + 1 ≤ 16
    rest : rightb (sort_from c is (n - takes i + 1) (sort_of c i)) ≡ true
    same : sort_from c (i ∷ is) n k ≡ sort_from c is (n - takes i + 1) (sort_of c i)

  passed : (i : Item) (is : List Item) (n : ℕ) (k : Sort) → rightb (sort_from c (i ∷ is) n k) ≡ true → Passed i is n k
  unfolding sort_from
  passed i is n k e =
      let e₀ = sure (goes_on k) _ e in
      let e₁ = sure (itemb c i) _ e₀.1 in
      let e₂ = sure (leb (takes i) n) _ e₁.1 in
      let e₃ = sure (leb (n - takes i + 1) 16) _ e₂.1 in
      record {
        on = e₀.0;
        own = e₁.0;
        enough = leb-true (takes i) n e₂.0;
        few = leb-true (n - takes i + 1) 16 e₃.0;
        rest = e₃.1;
        same = rw (e₀.0, e₁.0, e₂.0, e₃.0);
      }

  one_left : (n : ℕ) (k : Sort) → rightb (sort_from c [] n k) ≡ true → (n ≡ 1) × (sort_from c [] n k ≡ k)
  unfolding sort_from
  one_left n k e = let t = sure (eqb n 1) k e in (eqb-true n 1 t.0, rw t.0)

  from_comes : (i : Item) (is : List Item) (st : List ℤ) (n : ℕ) (k : Sort) → length st ≡ n → rightb (sort_from c (i ∷ is) n k) ≡ true
      → Comes (sort_from c (i ∷ is) n k) (worked_from c d i is st)
  unfolding worked_from
  from_comes i [] st n k l e =
      let p = passed i [] n k e in
      let z = one_left (n - takes i + 1) (sort_of c i) p.rest in
      subst (λ (s : Sort). Comes s (last_of c d i st)) (sym (p.same ∙ z.1)) (last_comes c d i st p.own (omega (arith, z.0)))
  from_comes i (j ∷ is) st n k l e =
      let p = passed i (j ∷ is) n k e in
      let q = passed j is (n - takes i + 1) (sort_of c i) p.rest in
      subst (λ (s : Sort). Comes s (on_held (step_by (takes i) (apply c d i) st) (λ st'. worked_from c d j is st'))) (sym p.same)
      (step_formed (Comes (sort_from c (j ∷ is) (n - takes i + 1) (sort_of c i))) (λ x m. m) (takes i) (apply c d i) st (λ st'. worked_from c d j is st')
      (takes_two i) (omega arith) (omega arith) (λ x y. item_formed c d i x y p.own q.on)
      (λ st' g. from_comes j is st' (n - takes i + 1) (sort_of c i) (omega arith) p.rest))

  -- An expression that is not Wrong comes to a value of its sort.
  pub sort_comes : (e : ℕ) → rightb (sort_at c e) ≡ true → Comes (sort_at c e) (worked_of c d (c.items e))
  unfolding sort_at worked_of
  sort_comes e q = by (c.items e) q
    where
      by : (is : List Item) → rightb (sort_from c is 0 sort.Number) ≡ true → Comes (sort_from c is 0 sort.Number) (worked_of c d is)
      by [] q = let z = (one_left 0 sort.Number q).0 in absurd (omega arith)
      by (i ∷ is) q = from_comes i is [] 0 sort.Number refl q
