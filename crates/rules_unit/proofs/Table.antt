-- The table of statements, by code.
--   verb_set     the code 1, which the literal asks for, is SET's
--   verb_goto, goto_verb    the code 7, which a computed GOTO asks for, is GOTO's, and no other is
--   verb_for     the code 14, which an open loop asks for, is FOR's
--   for_shape, for_uses     what 5 and what 4 ask of a FOR
--   verb_code, code_of_lem      no two codes have the same verb: what a statement does tells its code
--   writes_some  a code whose place a is written is not 0
--   read_down    the table read down its columns: what a, b and c are, by the code
-- Assumes nothing.
use Rattle.std.specs.Prelude.{None, Option}
use Prim.Native.Nat.{ℕ, zero, suc, ◌<◌, ◌≤◌}
use native.Mathlib.Omega.{arith}
use mathlib.Core.Path.{◌≡◌, refl, sym, ap, ◌∙◌, subst}
use mathlib.Core.Bool.{Bool, true, false, cond}
use mathlib.Core.Logic.{◌↔◌, ◌⊎◌, inl, inr}
use mathlib.Core.List.{List, [], ◌∷◌}
use lib.Dec.{leb, eqb}
use lib.ListN.{length, get_or}
use borrow.Author.Tests.{eqb-true, eq-eqb}
use Rattle.rules.proofs.Charts.{same_at}
use Rattle.rules_unit.specs.declared.Act.TheVariants.{Set, Clear, Count, Case, Edit}
use Rattle.rules_unit.specs.declared.Statement.{Statement}
use Rattle.rules_unit.specs.declared.Verb.{Verb}
use Rattle.rules_unit.specs.declared.Verb.TheVariants.{At, Goto, IfZero, Call, Return, Stop, Computed, For, LoopEnd, ExitLoop, NextLoop, OnError, OffError, Bad}
use Rattle.rules_unit.specs.declared.Want.TheVariants.{Place, DecimalPlace, AlphaPlace, Source, Number, AlphaSource}
use Rattle.rules_unit.specs.declared.Role.{Role}
use Rattle.rules_unit.specs.declared.Role.TheVariants.{Unused, Written, Read, Target, Table, Numbers, End, Never}
use Rattle.rules_unit.specs.declared.Use.{Use}
use Rattle.rules_unit.specs.Codes.{Code}
use Rattle.rules_unit.specs.Expressions.{next_at}
use Rattle.rules_unit.specs.Table.{verb_of, row_with, row_of, WritesA, uses_by, uses_of, used}
use Rattle.rules_unit.specs.Checks.{is_goto}
use Rattle.rules_unit.specs.WellFormed.{WellFormed, UseSound}
use Rattle.rules_unit.specs.Sound.{RowSound, ShapeSound, UsesSound}

pub verb_set : (code : ℕ) → eqb code 1 ≡ true → verb_of code ≡ At Set
unfolding verb_of
verb_set code e = rw (eqb-true code 1 e)

pub verb_goto : (s : Statement) → is_goto s ≡ true → verb_of s.code ≡ Goto
unfolding verb_of
verb_goto s e = rw (eqb-true s.code 7 e)

pub verb_for : (code : ℕ) → code ≡ 14 → verb_of code ≡ For
unfolding verb_of
verb_for code e = rw e

-- The code of a verb; Bad has none.
abbrev pub code_back : Verb → ℕ
code_back (At Set) = 1
code_back (At Clear) = 2
code_back (At (Count true)) = 3
code_back (At (Count false)) = 4
code_back (At (Case true)) = 5
code_back (At (Case false)) = 6
code_back (At Edit) = 13
code_back Goto = 7
code_back IfZero = 8
code_back Call = 9
code_back Return = 10
code_back Stop = 11
code_back Computed = 12
code_back For = 14
code_back LoopEnd = 15
code_back ExitLoop = 16
code_back NextLoop = 17
code_back OnError = 18
code_back OffError = 19
code_back Bad = 0

pub verb_code : (code : ℕ) → (verb_of code ≡ Bad) ⊎ (code_back (verb_of code) ≡ code)
unfolding verb_of
verb_code code =
    by 1 (At Set) _ refl (by 2 (At Clear) _ refl (by 3 (At (Count true)) _ refl (by 4 (At (Count false)) _ refl
    (by 5 (At (Case true)) _ refl (by 6 (At (Case false)) _ refl (by 7 Goto _ refl (by 8 IfZero _ refl
    (by 9 Call _ refl (by 10 Return _ refl (by 11 Stop _ refl (by 12 Computed _ refl
    (by 13 (At Edit) _ refl (by 14 For _ refl (by 15 LoopEnd _ refl (by 16 ExitLoop _ refl
    (by 17 NextLoop _ refl (by 18 OnError _ refl (by 19 OffError _ refl (inl refl)))))))))))))))))))
  where
    Told : Verb → Type 0
    Told v = (v ≡ Bad) ⊎ (code_back v ≡ code)

    by : (n : ℕ) (x y : Verb) → code_back x ≡ n → Told y → Told (cond (eqb code n) x y)
    by n x y e rest = which (eqb code n) refl
      where
        which : (t : Bool) → eqb code n ≡ t → Told (cond t x y)
        which true q = inr (e ∙ sym (eqb-true code n q))
        which false q = rest

pub code_of_lem : (code : ℕ) (v : Verb) → 1 ≤ code_back v → verb_of code ≡ v → code ≡ code_back v
code_of_lem code v n e = by (verb_code code)
  where
    by : (verb_of code ≡ Bad) ⊎ (code_back (verb_of code) ≡ code) → code ≡ code_back v
    by (inl q) = absurd (omega (arith, n, ap code_back (sym e ∙ q)))
    by (inr q) = sym q ∙ ap code_back e

pub goto_verb : (s : Statement) → verb_of s.code ≡ Goto → is_goto s ≡ true
goto_verb s e = eq-eqb s.code 7 (code_of_lem s.code Goto (omega arith) e)

-- Of a FOR: its zero byte is zero, and its loop end stands behind it, inside the unit, and has the code 15.
pub for_shape : (c : Code) (i : ℕ) → (c.statement i).code ≡ 14
    → ShapeSound c i
    ↔ ((c.statement i).zero ≡ 0) × (i < (c.statement i).c) × ((c.statement i).c < c.statements) × ((c.statement (c.statement i).c).code ≡ 15)
for_shape c i q = (to, of)
  where
    verb : verb_of (c.statement i).code ≡ For
    verb = verb_for (c.statement i).code q

    to : ShapeSound c i → ((c.statement i).zero ≡ 0) × (i < (c.statement i).c) × ((c.statement i).c < c.statements) × ((c.statement (c.statement i).c).code ≡ 15)
    to s =
        let end = (subst (λ (v : Verb). RowSound c i (row_of v) (c.statement i)) verb s.parts).of_c in
        (s.blank, end.behind, end.low, end.ends)

    of : ((c.statement i).zero ≡ 0) × (i < (c.statement i).c) × ((c.statement i).c < c.statements) × ((c.statement (c.statement i).c).code ≡ 15) → ShapeSound c i
    of r =
        let row : RowSound c i (row_of For) (c.statement i) = record { of_a = tt; of_b = tt; of_c = record { behind = r.1; low = r.2; ends = r.3 } } in
        record { blank = r.0; parts = subst (λ (v : Verb). RowSound c i (row_of v) (c.statement i)) (sym verb) row }

-- Its place is a decimal place, and three numbers stand in a row.
module _ (c : Code) (i : ℕ) (q : (c.statement i).code ≡ 14) where
  abbrev a : ℕ
  a = (c.statement i).a

  abbrev b : ℕ
  b = (c.statement i).b

  abbrev Four : Type 0
  Four =
      WellFormed c DecimalPlace (c.items a)
      × WellFormed c Number (c.items b)
      × WellFormed c Number (c.items (next_at c b))
      × WellFormed c Number (c.items (next_at c (next_at c b)))

  abbrev five : List (Option Use)
  five = used DecimalPlace a true ∷ (used Number b false ∷ (None ∷ (used Number (next_at c b) false ∷ (used Number (next_at c (next_at c b)) false ∷ []))))

  abbrev Each : List (Option Use) → Type 0
  Each us = (k : ℕ) → k < length us → UseSound c (get_or us k None)

  uses_are : uses_of c (c.statement i) ≡ five
  uses_are = ap (λ (v : Verb). uses_by c (row_of v) (c.statement i)) (verb_for (c.statement i).code q)

  each_of : Four → Each five
  each_of r zero h = r.0
  each_of r (suc zero) h = r.1
  each_of r (suc (suc zero)) h = tt
  each_of r (suc (suc (suc zero))) h = r.2
  each_of r (suc (suc (suc (suc zero)))) h = r.3
  each_of r (suc (suc (suc (suc (suc k))))) h = absurd (omega (arith, h))

  pub for_uses : UsesSound c i ↔ Four
  for_uses = (
    λ u. let e = subst Each uses_are u.each in (e 0 (omega arith), e 1 (omega arith), e 3 (omega arith), e 4 (omega arith)),
    λ r. record { each = subst Each (sym uses_are) (each_of r) },
  )

pub writes_some : (code : ℕ) → WritesA code → 1 ≤ code
writes_some code (inl h) = h.0
writes_some code (inr (inl e)) = omega (arith, e)
writes_some code (inr (inr e)) = omega (arith, e)

-- "A destination is the span named by place a of codes 1 to 6": of any sort at 1 and 2, decimal at 3 and 4, alpha at 5 and 6; alpha too at 13, and decimal at 14.
abbrev column_a : ℕ → Role
column_a code =
    cond (eqb code 0) Never
    (cond (leb code 2) (Written Place)
    (cond (leb code 4) (Written DecimalPlace)
    (cond (leb code 6) (Written AlphaPlace)
    (cond (leb code 11) Unused
    (cond (leb code 12) Table
    (cond (leb code 13) (Written AlphaPlace)
    (cond (leb code 14) (Written DecimalPlace)
    (cond (leb code 19) Unused
    Never))))))))

-- A source at 1, a number at 8 and 12, an alpha source at 13, and three numbers at 14.
abbrev column_b : ℕ → Role
column_b code =
    cond (eqb code 0) Never
    (cond (leb code 1) (Read Source)
    (cond (leb code 7) Unused
    (cond (leb code 8) (Read Number)
    (cond (leb code 11) Unused
    (cond (leb code 12) (Read Number)
    (cond (leb code 13) (Read AlphaSource)
    (cond (leb code 14) Numbers
    (cond (leb code 19) Unused
    Never))))))))

-- A target at 7, 8, 9 and 18, a number at 13, and a loop end at 14.
abbrev column_c : ℕ → Role
column_c code =
    cond (eqb code 0) Never
    (cond (leb code 6) Unused
    (cond (leb code 9) Target
    (cond (leb code 12) Unused
    (cond (leb code 13) (Read Number)
    (cond (leb code 14) End
    (cond (leb code 17) Unused
    (cond (leb code 18) Target
    (cond (leb code 19) Unused
    Never))))))))

-- For every byte.
pub read_down : (code : ℕ) → code < 256 → row_of (verb_of code) ≡ row_with (column_a code) (column_b code) (column_c code)
unfolding verb_of
read_down code h =
    same_at (λ (k : ℕ). row_of (verb_of k)) (λ (k : ℕ). row_with (column_a k) (column_b k) (column_c k)) 256 refl code h
