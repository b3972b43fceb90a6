-- The statements: what is found of one, and the first that is not sound. Assumes nothing.
use Rattle.std.specs.Prelude.{Result, Err, Ok, None, Option}
use Rattle.rules_unit.specs.declared.Refusal.{Refusal}
use Prim.Native.Nat.{ℕ, zero, suc, ◌+◌, ◌-◌, ◌<◌, ◌≤◌}
use native.Mathlib.Omega.{arith}
use native.Mathlib.Numerals.{add-one}
use mathlib.Core.Path.{◌≡◌, refl, sym, ◌∙◌, subst}
use mathlib.Core.Bool.{Bool, true, false, cond}
use mathlib.Core.List.{List, [], ◌∷◌}
use lib.Dec.{ltb}
use borrow.Author.Tests.{ltb-true, ltb-false}
use lib.ListN.{length, get_or}
use Rattle.rules_unit.specs.declared.Parts.{Parts}
use Rattle.rules_unit.specs.declared.Statement.{Statement}
use Rattle.rules_unit.specs.declared.Role.{Role}
use Rattle.rules_unit.specs.declared.Role.TheVariants as role
use Rattle.rules_unit.specs.declared.Row.{Row}
use Rattle.rules_unit.specs.declared.Use.{Use}
use Rattle.rules_unit.specs.declared.Found.{Found}
use Rattle.rules_unit.specs.declared.Found.TheVariants as found
use Rattle.rules_unit.specs.declared.Refusal.TheVariants as refusal
use Rattle.rules_unit.specs.Codes.{Code}
use Rattle.rules_unit.specs.Decode.{code_of}
use Rattle.rules_unit.specs.Table.{verb_of, row_of, uses_by, uses_of}
use Rattle.rules_unit.specs.Expressions.{useb, usesb}
use Rattle.rules_unit.specs.WellFormed.{UseSound}
use Rattle.rules_unit.specs.Checks.{is_goto, gotosb, tableb, endb, roleb, rowb, shapeb, found_of, onward, statements_from}
use Rattle.rules_unit.specs.Sound.{TableSound, EndSound, RoleSound, RowSound, ShapeSound, UsesSound, StatementSound}
use Rattle.rules_unit.specs.Answers.{FirstStatement, FirstExpression}
use Rattle.rules_unit.proofs.WellFormed.{tells_self, use_tells}
use Rattle.rules_unit.proofs.Tells.{Tells, tells_lt, tells_le, tells_eq, tells_true, tells_false, tells_as, tells_and, tells_no, tells_fails, one_more}

module _ (c : Code) where
  -- ---- 5

  abbrev Gotos : ℕ → ℕ → Type 0
  Gotos i k = (j : ℕ) → i ≤ j → j < i + k → is_goto (c.statement j) ≡ true

  gotos_tell : (k i : ℕ) → Tells (gotosb c k i) (Gotos i k)
  unfolding gotosb
  gotos_tell zero i = record { to = λ e j g h. absurd (omega arith); of = λ f. refl }
  gotos_tell (suc k) i = tells_as to of (tells_and (tells_self (is_goto (c.statement i))) (gotos_tell k (i + 1)))
    where
      to : (is_goto (c.statement i) ≡ true) × Gotos (i + 1) k → Gotos i (suc k)
      to r j g h = by (ltb i j) refl
        where
          by : (b : Bool) → ltb i j ≡ b → is_goto (c.statement j) ≡ true
          by true q = r.1 j (omega (arith, ltb-true i j q)) (omega arith)
          by false q = subst (λ (x : ℕ). is_goto (c.statement x) ≡ true) (omega (arith, ltb-false i j q)) r.0

      of : Gotos i (suc k) → (is_goto (c.statement i) ≡ true) × Gotos (i + 1) k
      of f = (f i (omega arith) (omega arith), λ j g h. f j (omega arith) (omega arith))

  table_tells : (i n : ℕ) → Tells (tableb c i n) (TableSound c i n)
  unfolding tableb
  table_tells i n =
      tells_as
      (λ r. record { least = r.0; most = r.1.0; inside = r.1.1.0; gotos = λ j g h. r.1.1.1 j (omega arith) (omega arith) })
      (λ r. (r.least, (r.most, (r.inside, λ j g h. r.gotos j (omega arith) (omega arith)))))
      (tells_and (tells_le 1 n) (tells_and (tells_le n 255) (tells_and (tells_lt (i + n) c.statements) (gotos_tell n (i + 1)))))

  end_tells : (i end : ℕ) → Tells (endb c i end) (EndSound c i end)
  unfolding endb
  end_tells i end =
      tells_as (λ r. record { behind = r.0; low = r.1.0; ends = r.1.1 }) (λ r. (r.behind, (r.low, r.ends)))
      (tells_and (tells_lt i end) (tells_and (tells_lt end c.statements) (tells_eq (c.statement end).code 15)))

  role_tells : (i : ℕ) (r : Role) (x : ℕ) → Tells (roleb c i r x) (RoleSound c i r x)
  role_tells i role.Unused x = tells_eq x 0
  role_tells i (role.Written w) x = tells_true
  role_tells i (role.Read w) x = tells_true
  role_tells i role.Target x = tells_lt x c.statements
  role_tells i role.Table x = table_tells i x
  role_tells i role.Numbers x = tells_true
  role_tells i role.End x = end_tells i x
  role_tells i role.Never x = tells_false

  row_tells : (i : ℕ) (r : Row) (s : Statement) → Tells (rowb c i r s) (RowSound c i r s)
  unfolding rowb
  row_tells i r s =
      tells_as (λ q. record { of_a = q.0; of_b = q.1.0; of_c = q.1.1 }) (λ q. (q.of_a, (q.of_b, q.of_c)))
      (tells_and (role_tells i r.a s.a) (tells_and (role_tells i r.b s.b) (role_tells i r.c s.c)))

  shape_tells : (i : ℕ) → Tells (shapeb c i) (ShapeSound c i)
  unfolding shapeb
  shape_tells i =
      tells_as (λ r. record { blank = r.0; parts = r.1 }) (λ r. (r.blank, r.parts))
      (tells_and (tells_eq (c.statement i).zero 0) (row_tells i (row_of (verb_of (c.statement i).code)) (c.statement i)))

  -- ---- 4

  abbrev Each : List (Option Use) → Type 0
  Each xs = (k : ℕ) → k < length xs → UseSound c (get_or xs k None)

  list_tells : (xs : List (Option Use)) → Tells (usesb c xs) (Each xs)
  unfolding usesb
  list_tells [] = record { to = λ e k h. absurd (omega arith); of = λ f. refl }
  list_tells (x ∷ xs) = tells_as to of (tells_and (use_tells c x) (list_tells xs))
    where
      to : UseSound c x × Each xs → Each (x ∷ xs)
      to r zero h = r.0
      to r (suc k) h = r.1 k (omega arith)

      of : Each (x ∷ xs) → UseSound c x × Each xs
      of f = (f zero (omega arith), λ k h. f (suc k) (omega arith))

  uses_tell : (i : ℕ) → Tells (usesb c (uses_of c (c.statement i))) (UsesSound c i)
  uses_tell i = tells_as (λ f. record { each = f }) (λ r. r.each) (list_tells (uses_of c (c.statement i)))

  -- The test of each use of a sound statement.
  pub uses_good : (i : ℕ) → UsesSound c i → (k : ℕ) → k < length (uses_of c (c.statement i)) → useb c (get_or (uses_of c (c.statement i)) k None) ≡ true
  uses_good i s k h = (use_tells c (get_or (uses_of c (c.statement i)) k None)).of (s.each k h)

  -- Every use of a statement is of the sort that is wanted, where r is its row.
  abbrev pub Used : Row → Statement → Type 0
  Used r s = (k : ℕ) → k < length (uses_by c r s) → useb c (get_or (uses_by c r s) k None) ≡ true

  -- ---- what is found of one statement

  pub found_good : (i : ℕ) → StatementSound c i → found_of c i ≡ found.Good
  unfolding found_of
  found_good i s = rw ((shape_tells i).of s.shape, (uses_tell i).of s.uses)

  pub found_shape : (i : ℕ) → (ShapeSound c i → ⊥) → found_of c i ≡ found.BadShape
  unfolding found_of
  found_shape i n = rw (tells_no (shape_tells i) n)

  pub found_use : (i : ℕ) → ShapeSound c i → (UsesSound c i → ⊥) → found_of c i ≡ found.BadExpression
  unfolding found_of
  found_use i s n = rw ((shape_tells i).of s, tells_no (uses_tell i) n)

  abbrev Finds : ℕ → Found → Type 0
  Finds i found.Good = StatementSound c i
  Finds i found.BadShape = ShapeSound c i → ⊥
  Finds i found.BadExpression = ShapeSound c i × (UsesSound c i → ⊥)

  found_means : (i : ℕ) → Finds i (found_of c i)
  unfolding found_of
  found_means i = by (shapeb c i) (usesb c (uses_of c (c.statement i))) refl refl
    where
      by : (x y : Bool) → shapeb c i ≡ x → usesb c (uses_of c (c.statement i)) ≡ y → Finds i (cond x (cond y found.Good found.BadExpression) found.BadShape)
      by true true e f = record { shape = (shape_tells i).to e; uses = (uses_tell i).to f }
      by true false e f = ((shape_tells i).to e, tells_fails (uses_tell i) f)
      by false y e f = tells_fails (shape_tells i) e

-- ---- all statements

-- what is left of a count, before and after a turn
pub left_suc : (n i : ℕ) → i < n → n - i ≡ suc (n - (i + 1))
left_suc n i h = omega arith

pub left_none : (n i : ℕ) → n ≤ i → n - i ≡ zero
left_none n i h = omega arith

pub left_all : (n : ℕ) → n - 0 ≡ n
left_all n = omega arith

module _ (u : List ℕ) (p : Parts) where
  -- what the check of the statements says
  abbrev pub Scans : Result Parts Refusal → Type 0
  Scans (Ok q) = (q ≡ p) × ((j : ℕ) → j < p.n → StatementSound (code_of u p) j)
  Scans (Err refusal.NotFilled) = ⊥
  Scans (Err refusal.BadRange) = ⊥
  Scans (Err (refusal.BadField i)) = ⊥
  Scans (Err (refusal.BadExpression i)) = FirstExpression (code_of u p) i
  Scans (Err (refusal.BadStatement i)) = FirstStatement (code_of u p) i

  scan : (k i : ℕ) → i + k ≡ p.n → ((j : ℕ) → j < i → StatementSound (code_of u p) j) → Scans (statements_from u p k i)
  unfolding statements_from
  scan zero i e before = (refl, λ j h. before j (omega arith))
  scan (suc k) i e before = by (found_of (code_of u p) i) (found_means (code_of u p) i) (scan k (i + 1) (omega arith))
    where
      by : (f : Found) → Finds (code_of u p) i f
          → (((j : ℕ) → j < i + 1 → StatementSound (code_of u p) j) → Scans (statements_from u p k (i + 1)))
          → Scans (onward i f (statements_from u p k (i + 1)))
      by found.Good m rest = rest (one_more (StatementSound (code_of u p)) i before m)
      by found.BadShape m rest = record { low = omega arith; before = before; breaks = m }
      by found.BadExpression m rest = record { low = omega arith; before = before; shape = m.0; breaks = m.1 }

  pub statements_say : Scans (statements_from u p p.n 0)
  statements_say = scan p.n 0 (omega arith) (λ j h. absurd (omega arith))

  -- one statement more, the last one, and one that is refused
  pub statements_more : (n i : ℕ) → i < n → found_of (code_of u p) i ≡ found.Good → statements_from u p (n - (i + 1)) (i + 1) ≡ statements_from u p (n - i) i
  unfolding statements_from
  statements_more n i h e = rw (left_suc n i h, e)

  pub statements_end : (n i : ℕ) → n ≤ i → Ok p ≡ statements_from u p (n - i) i
  unfolding statements_from
  statements_end n i h = rw (left_none n i h)

  pub statements_stop : (n i : ℕ) (f : Found) → i < n → found_of (code_of u p) i ≡ f
      → onward i f (statements_from u p (n - (i + 1)) (i + 1)) ≡ statements_from u p (n - i) i
  unfolding statements_from
  statements_stop n i f h e = rw (left_suc n i h, e)

  -- sound statements are passed over
  past : (n i : ℕ) → i ≤ n → ((j : ℕ) → j < i → StatementSound (code_of u p) j) → statements_from u p (n - i) i ≡ statements_from u p n 0
  past n zero h s = rw (left_all n)
  past n (suc i) h s =
      rw (← add-one i)
      (statements_more n i (omega arith) (found_good (code_of u p) i (s i (omega arith))) ∙ past n i (omega arith) (λ j l. s j (omega arith)))

  pub statements_pass : ((j : ℕ) → j < p.n → StatementSound (code_of u p) j) → statements_from u p p.n 0 ≡ Ok p
  statements_pass s = sym (statements_end p.n p.n (omega arith) ∙ past p.n p.n (omega arith) s)

  pub statements_shape : (i : ℕ) → FirstStatement (code_of u p) i → statements_from u p p.n 0 ≡ Err (refusal.BadStatement i)
  statements_shape i f =
      sym (statements_stop p.n i found.BadShape f.low (found_shape (code_of u p) i f.breaks) ∙ past p.n i (omega (arith, f.low)) f.before)

  pub statements_use : (i : ℕ) → FirstExpression (code_of u p) i → statements_from u p p.n 0 ≡ Err (refusal.BadExpression i)
  statements_use i f =
      sym (statements_stop p.n i found.BadExpression f.low (found_use (code_of u p) i f.shape f.breaks) ∙ past p.n i (omega (arith, f.low)) f.before)
