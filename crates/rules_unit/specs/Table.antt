-- The statements, as one table (document 01, "The coded unit"; requests of document 02): what each code does, and what its parts a, b and c are.
--   verb_of code      what a statement of that code does
--   row_of v          what its parts are: a row of the table
--   use_of r x        how the part x, of the role r, uses an expression; None where it uses none
--   more_of c r x     the uses of the expressions behind that one, where there are several in a row
--   uses_of c s       the uses of a statement, one for each part and then those in a row
--   WritesA code     the codes whose place a is written
--   Repeats code     the codes that go on with the loop opened last; OnLoop code those that act on it
-- What is checked of a part stands in Checks and Sound, by its role. Assumes nothing.
use Rattle.std.specs.Prelude.{ℕ, ◌≤◌, ◌≡◌, ◌⊎◌, true, false, cond, List, [], ◌∷◌, eqb, None, Option, Bool, Some}
use Rattle.rules_unit.specs.declared.Act.TheVariants.{Set, Clear, Count, Case, Edit}
use Rattle.rules_unit.specs.declared.Verb.{Verb}
use Rattle.rules_unit.specs.declared.Verb.TheVariants.{At, Goto, IfZero, Call, Return, Stop, Computed, For, LoopEnd, ExitLoop, NextLoop, OnError, OffError, Bad}
use Rattle.rules_unit.specs.declared.Want.{Want}
use Rattle.rules_unit.specs.declared.Want.TheVariants.{Place, DecimalPlace, AlphaPlace, Source, Number, AlphaSource}
use Rattle.rules_unit.specs.declared.Role.{Role}
use Rattle.rules_unit.specs.declared.Role.TheVariants.{Unused, Written, Read, Target, Table, Numbers, End, Never}
use Rattle.rules_unit.specs.declared.Row.{Row}
use Rattle.rules_unit.specs.declared.Use.{Use}
use Rattle.rules_unit.specs.declared.Statement.{Statement}
use Rattle.rules_unit.specs.Codes.{Code}
use Rattle.rules_unit.specs.Expressions.{next_at}

-- ---- the codes

-- "Codes in decimal"; the words of 13 and of later codes are those of docs/ENCODING.md.
unfoldable pub verb_of : ℕ → Verb
verb_of code =
    -- "1 SET place a from source b (number or alpha source)"
    cond (eqb code 1) (At Set)
    -- "2 CLEAR a"
    (cond (eqb code 2) (At Clear)
    -- "3 INCR a"
    (cond (eqb code 3) (At (Count true))
    -- "4 DECR a (decimal places)"
    (cond (eqb code 4) (At (Count false))
    -- "5 UPCASE a"
    (cond (eqb code 5) (At (Case true))
    -- "6 LOCASE a (alpha places)"
    (cond (eqb code 6) (At (Case false))
    -- "7 GOTO c"
    (cond (eqb code 7) Goto
    -- "8 go to c if number b is zero"
    (cond (eqb code 8) IfZero
    -- "9 CALL c"
    (cond (eqb code 9) Call
    -- "10 RETURN"
    (cond (eqb code 10) Return
    -- "11 STOP"
    (cond (eqb code 11) Stop
    -- "12 computed GOTO, number b, a = n from 1 to 255"
    (cond (eqb code 12) Computed
    -- "13 SET a from c with mask b"
    (cond (eqb code 13) (At Edit)
    -- "14 FOR place a, numbers b, loop end c"
    (cond (eqb code 14) For
    -- "15 loop end"
    (cond (eqb code 15) LoopEnd
    -- "16 EXITLOOP"
    (cond (eqb code 16) ExitLoop
    -- "17 NEXTLOOP"
    (cond (eqb code 17) NextLoop
    -- "18 ONERROR c"
    (cond (eqb code 18) OnError
    -- "19 OFFERROR"
    (cond (eqb code 19) OffError
    Bad))))))))))))))))))

-- ---- the parts

abbrev pub row_with : Role → Role → Role → Row
row_with a b c = record { a = a; b = b; c = c }

-- What a, b and c are, as the words of the codes say. "Unused parts are zero." Where there is no such code, no part is right.
abbrev pub row_of : Verb → Row
row_of (At Set) = row_with (Written Place) (Read Source) Unused
row_of (At Clear) = row_with (Written Place) Unused Unused
row_of (At (Count up)) = row_with (Written DecimalPlace) Unused Unused
row_of (At (Case upper)) = row_with (Written AlphaPlace) Unused Unused
row_of (At Edit) = row_with (Written AlphaPlace) (Read AlphaSource) (Read Number)
row_of Goto = row_with Unused Unused Target
row_of IfZero = row_with Unused (Read Number) Target
row_of Call = row_with Unused Unused Target
row_of Return = row_with Unused Unused Unused
row_of Stop = row_with Unused Unused Unused
row_of Computed = row_with Table (Read Number) Unused
row_of For = row_with (Written DecimalPlace) Numbers End
row_of LoopEnd = row_with Unused Unused Unused
row_of ExitLoop = row_with Unused Unused Unused
row_of NextLoop = row_with Unused Unused Unused
row_of OnError = row_with Unused Unused Target
row_of OffError = row_with Unused Unused Unused
row_of Bad = row_with Never Never Never

-- "A destination is the span named by place a of codes 1 to 6", and of 13 and 14: "The control place is a destination".
abbrev pub WritesA : ℕ → Type 0
WritesA code = ((1 ≤ code) × (code ≤ 6)) ⊎ ((code ≡ 13) ⊎ (code ≡ 14))

-- A loop end and NEXTLOOP do the same.
abbrev pub Repeats : ℕ → Type 0
Repeats code = (code ≡ 15) ⊎ (code ≡ 17)

-- "EXITLOOP and NEXTLOOP come too; they and a loop end act on the loop opened last."
abbrev pub OnLoop : ℕ → Type 0
OnLoop code = (code ≡ 15) ⊎ ((code ≡ 16) ⊎ (code ≡ 17))

-- ---- the uses

-- A use that there is.
abbrev pub used : Want → ℕ → Bool → Option Use
used w at written = Some (record { want = w; at = at; written = written })

abbrev pub use_of : Role → ℕ → Option Use
use_of Unused x = None
use_of (Written w) x = used w x true
use_of (Read w) x = used w x false
use_of Target x = None
use_of Table x = None
use_of Numbers x = used Number x false
use_of End x = None
use_of Never x = None

-- "start, limit and step are numbers"
abbrev pub more_of : Code → Role → ℕ → List (Option Use)
more_of c Unused x = []
more_of c (Written w) x = []
more_of c (Read w) x = []
more_of c Target x = []
more_of c Table x = []
more_of c Numbers x = used Number (next_at c x) false ∷ (used Number (next_at c (next_at c x)) false ∷ [])
more_of c End x = []
more_of c Never x = []

-- "5 before a's 4 before b's 4"; "In a statement a is worked out before b"
abbrev pub uses_by : Code → Row → Statement → List (Option Use)
uses_by c r s = use_of r.a s.a ∷ (use_of r.b s.b ∷ (use_of r.c s.c ∷ more_of c r.b s.b))

abbrev pub uses_of : Code → Statement → List (Option Use)
uses_of c s = uses_by c (row_of (verb_of s.code)) s
