-- Uses, statements and the whole unit: one law for each way out of the code.
-- Assumes nothing.
use Rattle.std.specs.Prelude.{Result, Err, Ok, None, Option, Some}
use mathlib.Core.Path.{◌≡◌, refl, sym, ap, ◌∙◌}
use mathlib.Core.Bool.{true}
use mathlib.Core.List.{List, [], ◌∷◌, ◌++◌}
use Prim.Native.Nat.{ℕ, zero, suc, ◌+◌, ◌-◌, ◌≤◌, ◌<◌}
use native.Mathlib.Numerals.{add-one}
use native.Mathlib.Omega.{arith}
use lib.ListN.{length, get_or, drop, drop_of_length-le}
use lib.Seq.{drop-nil}
use borrow.Author.Tests.{lt-ltb, le-ltb}
use Rattle.rules_unit.specs.declared.Parts.{Parts}
use Rattle.rules_unit.specs.declared.Refusal.{Refusal}
use Rattle.rules_unit.specs.declared.Statement.{Statement}
use Rattle.rules_unit.specs.declared.Verb.{Verb}
use Rattle.rules_unit.specs.declared.Row.{Row}
use Rattle.rules_unit.specs.declared.Use.{Use}
use Rattle.rules_unit.specs.Codes.{Code}
use Rattle.rules_unit.specs.Decode.{code_of}
use Rattle.rules_unit.specs.Expressions.{useb}
use Rattle.rules_unit.specs.Table.{verb_of, row_of, uses_by, uses_of}
use Rattle.rules_unit.specs.Checks.{check_of}
use Rattle.rules_unit.proofs.Statements.{left_suc, left_none}
use Rattle.rules_fence.specs.declared.Broken.{Broken}
use Rattle.rules_fence.specs.declared.Seen.TheVariants as seen
use Rattle.rules_fence.specs.Listed.{broken_from, use_broken, uses_broken, broken_of, statements_broken, breaches_of, broken_in_by, broken_in, rows_laid, Listed, listed}
use Rattle.rules_fence.proofs.Few.{few, few_in}
use Rattle.fence_statements.specs.Asked.{AllGood}
use Rattle.fence_list.specs.Gathered.{gathered}
use Rattle.fence_list.proofs.Gathering.{G, gathered_append, listed_all}

-- ---- one use

module _ (c : Code) (i skip : ℕ) (g : Listed) (x : Option Use) where
  pub use_none : x ≡ None → g ≡ gathered skip (use_broken c i x) g
  unfolding gathered
  use_none e = rw e

  pub use_some : (y : Use) (r : Listed) → x ≡ Some y → r ≡ gathered skip (broken_from c i y.written seen.Nothing y.at (c.items y.at)) g → r ≡ gathered skip (use_broken c i x) g
  use_some y r e q = rw e q

-- ---- the uses of a statement: k is the number of the next one, x it, and z what the whole loop answers

uses_suc : (c : Code) (i : ℕ) (us : List (Option Use)) (k : ℕ)
    → uses_broken c i (drop k us) ≡ use_broken c i (get_or us k None) ++ uses_broken c i (drop (suc k) us)
unfolding uses_broken
uses_suc c i [] zero = refl
uses_suc c i [] (suc k) = refl
uses_suc c i (x ∷ us) zero = refl
uses_suc c i (x ∷ us) (suc k) = uses_suc c i us k

module _ (c : Code) (i : ℕ) (us : List (Option Use)) (k skip : ℕ) (g z : Listed) (left : gathered skip (uses_broken c i (drop k us)) g ≡ z) where
  pub uses_over : (n : ℕ) → n ≡ length us → n ≤ k → g ≡ z
  unfolding gathered uses_broken
  uses_over n e h =
      let past : length us ≤ k = omega (arith, e, h) in
      ap (λ (xs : List (Option Use)). gathered skip (uses_broken c i xs) g) (sym (drop_of_length-le us past)) ∙ left

  pub use_good : (x : Option Use) (n : ℕ) → AllGood c us → x ≡ get_or us k None → n ≡ length us → k < n → useb c x ≡ true
  use_good x n good ex e h = rw ex (good.each k (omega (arith, e, h)))

  pub uses_on : (x : Option Use) (next : Listed) → x ≡ get_or us k None → next ≡ gathered skip (use_broken c i x) g → gathered skip (uses_broken c i (drop (k + 1) us)) next ≡ z
  uses_on x next ex en =
      ap (λ (j : ℕ). gathered skip (uses_broken c i (drop j us)) next) (add-one k)
      ∙ ap (gathered skip (uses_broken c i (drop (suc k) us))) (en ∙ ap (λ (y : Option Use). gathered skip (use_broken c i y) g) ex)
      ∙ sym (gathered_append skip (use_broken c i (get_or us k None)) (uses_broken c i (drop (suc k) us)) g)
      ∙ ap (λ (bs : List Broken). gathered skip bs g) (sym (uses_suc c i us k))
      ∙ left

-- ---- one statement: s, v and w are the statement, its verb and its row, as the code has asked for them

pub statement_own : (u : List ℕ) (p : Parts) (i : ℕ) (s : Statement) (v : Verb) (w : Row) (es : s ≡ (code_of u p).statement i) (ev : v ≡ verb_of s.code) (ew : w ≡ row_of v) (skip : ℕ) (g r : Listed)
    → r ≡ gathered skip (uses_broken (code_of u p) i (uses_by (code_of u p) w s)) g → r ≡ gathered skip (broken_of (code_of u p) i) g
unfolding broken_of
statement_own u p i s v w es ev ew skip g r q =
    q
    ∙ ap (λ (us : List (Option Use)). gathered skip (uses_broken (code_of u p) i us) g)
    (ap (λ (x : Row). uses_by (code_of u p) x s) (ew ∙ ap row_of ev) ∙ ap (uses_of (code_of u p)) es)

-- ---- the statements: n of them, i is the next one, and z is what the whole loop answers

module _ (c : Code) (n i skip : ℕ) (g z : Listed) (left : gathered skip (statements_broken c (n - i) i) g ≡ z) where
  pub statements_over : n ≤ i → g ≡ z
  unfolding gathered statements_broken
  statements_over h = ap (λ (k : ℕ). gathered skip (statements_broken c k i) g) (sym (left_none n i h)) ∙ left

  pub statements_on : (next : Listed) → i < n → next ≡ gathered skip (broken_of c i) g → gathered skip (statements_broken c (n - (i + 1)) (i + 1)) next ≡ z
  unfolding statements_broken
  statements_on next h en =
      ap (gathered skip (statements_broken c (n - (i + 1)) (i + 1))) en
      ∙ sym (gathered_append skip (broken_of c i) (statements_broken c (n - (i + 1)) (i + 1)) g)
      ∙ ap (λ (k : ℕ). gathered skip (statements_broken c k i) g) (sym (left_suc n i h))
      ∙ left

-- ---- the unit

-- What is gathered from nothing is what a host is told: no unit has as many references as a count may have.
module _ (u : List ℕ) (p : Parts) (passed : check_of u ≡ Ok p) (skip : ℕ) (rows : List ℕ) (r : Listed) where
  pub unit_listed : r ≡ gathered skip (statements_broken (code_of u p) p.n 0) (G 0 rows) → r ≡ listed (statements_broken (code_of u p) p.n 0) skip rows
  unit_listed q = listed_all skip (statements_broken (code_of u p) p.n 0) rows r (omega (arith, few u p passed)) q

  pub statement_listed : (i : ℕ) → r ≡ gathered skip (broken_of (code_of u p) i) (G 0 rows) → r ≡ listed (broken_of (code_of u p) i) skip rows
  statement_listed i q = listed_all skip (broken_of (code_of u p) i) rows r (omega (arith, few_in u p passed i)) q

-- No rows are put of an empty list.
none_listed : (skip : ℕ) (rows : List ℕ) → G 0 rows ≡ listed [] skip rows
unfolding rows_laid
none_listed skip rows = rw (drop-nil {A = Broken} skip)

-- n is N as the code compares it
module _ (u : List ℕ) (p : Parts) (i n : ℕ) (en : n ≡ p.n) (skip : ℕ) (rows : List ℕ) where
  pub by_past : n ≤ i → G 0 rows ≡ listed (broken_in_by u i (Ok p)) skip rows
  by_past h = rw (le-ltb i p.n (omega arith)) (none_listed skip rows)

  pub by_in : (r : Listed) → i < n → r ≡ listed (broken_of (code_of u p) i) skip rows → r ≡ listed (broken_in_by u i (Ok p)) skip rows
  by_in r h q = rw (lt-ltb i p.n (omega arith)) q

-- v is the answer of the check
module _ (u : List ℕ) (v : Result Parts Refusal) (is : v ≡ check_of u) (skip : ℕ) (rows : List ℕ) where
  pub all_passed : (p : Parts) (r : Listed) → v ≡ Ok p → r ≡ listed (statements_broken (code_of u p) p.n 0) skip rows → r ≡ listed (breaches_of u) skip rows
  unfolding breaches_of
  all_passed p r e q = rw (← is, e) q

  pub all_refused : (x : Refusal) → v ≡ Err x → G 0 rows ≡ listed (breaches_of u) skip rows
  unfolding breaches_of
  all_refused x e = rw (← is, e) (none_listed skip rows)

  module _ (i : ℕ) where
    pub one_passed : (p : Parts) (r : Listed) → v ≡ Ok p → r ≡ listed (broken_in_by u i (Ok p)) skip rows → r ≡ listed (broken_in u i) skip rows
    unfolding broken_in
    one_passed p r e q = rw (← is, e) q

    pub one_refused : (x : Refusal) → v ≡ Err x → G 0 rows ≡ listed (broken_in u i) skip rows
    unfolding broken_in
    one_refused x e = rw (← is, e) (none_listed skip rows)
