-- The checks 1 to 5 (document 01, "Stops and their numbers").
--   filledb u                 check 1
--   rangesb p                 check 2
--   choiceb z                 whether a field's zero byte is a choice
--   entryb c i floor          check 3 of the entry i; good_fields counts the entries that pass, from the first on
--   roleb c i r x             whether the part x of the statement i is right, by its role; rowb c i r s all three parts
--   shapeb c i                check 5 of the statement i; found_of c i is 5 before 4
--   check_of u                 the check
--   refusal_number, refusal_place    the table's number and place of a refusal
-- Assumes nothing.
use Rattle.std.specs.Prelude.{ℕ, zero, suc, ◌+◌, Bool, true, false, cond, not, ltb, leb, eqb, List, length, Result, Err, Ok}
use Rattle.rules.specs.Tests.{◌and◌}
use Rattle.rules_unit.specs.declared.Parts.{Parts}
use Rattle.rules_unit.specs.declared.Statement.{Statement}
use Rattle.rules_unit.specs.declared.Role.{Role}
use Rattle.rules_unit.specs.declared.Role.TheVariants as role
use Rattle.rules_unit.specs.declared.Row.{Row}
use Rattle.rules_unit.specs.declared.Found.{Found}
use Rattle.rules_unit.specs.declared.Found.TheVariants as found
use Rattle.rules_unit.specs.declared.Refusal.{Refusal}
use Rattle.rules_unit.specs.declared.Refusal.TheVariants as refusal
use Rattle.rules_unit.specs.Codes.{Code, is_bad, decimalb, recordb, offset_of, size_of, count_of, end_of}
use Rattle.rules_unit.specs.Decode.{mark_of, wrong_mark, parts_of, full_length, code_of}
use Rattle.rules_unit.specs.Table.{verb_of, row_of, uses_of}
use Rattle.rules_unit.specs.Expressions.{usesb}

-- "3 | .. | first such entry", "4 | .. | statement", "5 | .. | statement"
abbrev pub refusal_number : Refusal → ℕ
refusal_number refusal.NotFilled = 1
refusal_number refusal.BadRange = 2
refusal_number (refusal.BadField i) = 3
refusal_number (refusal.BadExpression i) = 4
refusal_number (refusal.BadStatement i) = 5

abbrev pub refusal_place : Refusal → ℕ
refusal_place refusal.NotFilled = 0
refusal_place refusal.BadRange = 0
refusal_place (refusal.BadField i) = i
refusal_place (refusal.BadExpression i) = i
refusal_place (refusal.BadStatement i) = i

-- "1 | length under 12 or over 57,353, wrong mark, or parts don't fill the unit"
unfoldable pub filledb : List ℕ → Bool
filledb u =
    leb 12 (length u) and leb (length u) 57353 and not (wrong_mark (mark_of u)) and eqb (full_length (parts_of u)) (length u)

-- "D is 1 to 16,383; F 0 to 512; E 0 to 16,383; P 0 to 4,095; N 1 to 2,048."
unfoldable pub rangesb : Parts → Bool
rangesb p =
    leb 1 p.d
    and leb p.d 16383
    and leb p.f 512
    and leb p.e 16383
    and leb p.p 4095
    and leb 1 p.n
    and leb p.n 2048

-- ---- fields

-- "a choice in the high bit of its zero byte"; "Refusals: 3 for any other nonzero value of that byte." (request 5 of document 02)
unfoldable pub choiceb : ℕ → Bool
choiceb z = cond (eqb z 0) true (eqb z 0x80)

-- "Size and count are at least 1; a decimal's size is at most 18; a record's count is 1; offset + size x count is at most D. Alpha and decimal
-- entries stand in rising offset and share no byte; gaps are allowed. Records may cover anything and stand anywhere in the list." The floor is
-- the end of the last alpha or decimal entry before.
unfoldable pub entryb : Code → ℕ → ℕ → Bool
entryb c i floor =
    not (is_bad (c.field i).kind)
    and choiceb (c.field i).zero
    and leb 1 (size_of c i)
    and leb 1 (count_of c i)
    and leb (end_of c i) c.size
    and cond (recordb c i) (eqb (count_of c i) 1) (leb floor (offset_of c i) and cond (decimalb c i) (leb (size_of c i) c.dialect.limit) true)

abbrev pub floor_after : Code → ℕ → ℕ → ℕ
floor_after c i floor = cond (recordb c i) floor (end_of c i)

-- The first entry, of the k from i on, that breaks its rule; i + k where none does.
unfoldable pub good_fields : Code → ℕ → ℕ → ℕ → ℕ
good_fields c zero i floor = i
good_fields c (suc k) i floor = let rest = good_fields c k (i + 1) (floor_after c i floor) in cond (entryb c i floor) rest i

-- ---- statements

-- "7 GOTO c"
abbrev pub is_goto : Statement → Bool
is_goto s = eqb s.code 7

-- The k statements from i on are GOTO statements.
unfoldable pub gotosb : Code → ℕ → ℕ → Bool
gotosb c zero i = true
gotosb c (suc k) i = let rest = gotosb c k (i + 1) in is_goto (c.statement i) and rest

-- "a = n from 1 to 255"; "Code 12 at statement i needs n GOTO statements right after it inside the unit"
unfoldable pub tableb : Code → ℕ → ℕ → Bool
tableb c i n =
    leb 1 n and leb n 255 and ltb (i + n) c.statements and gotosb c n (i + 1)

-- The code of a loop end.
abbrev pub is_loop_end : Statement → Bool
is_loop_end s = eqb s.code 15

-- "the number of a loop end (code 15) that stands behind the statement, inside the unit" (docs/ENCODING.md): of the FOR at i.
unfoldable pub endb : Code → ℕ → ℕ → Bool
endb c i end = ltb i end and ltb end c.statements and is_loop_end (c.statement end)

-- "Unused parts are zero."; "Targets are below N."
abbrev pub roleb : Code → ℕ → Role → ℕ → Bool
roleb c i role.Unused x = eqb x 0
roleb c i (role.Written w) x = true
roleb c i (role.Read w) x = true
roleb c i role.Target x = ltb x c.statements
roleb c i role.Table x = tableb c i x
roleb c i role.Numbers x = true
roleb c i role.End x = endb c i x
roleb c i role.Never x = false

unfoldable pub rowb : Code → ℕ → Row → Statement → Bool
rowb c i r s = roleb c i r.a s.a and roleb c i r.b s.b and roleb c i r.c s.c

-- "5 | statement code, zero part, count or target wrong"
unfoldable pub shapeb : Code → ℕ → Bool
shapeb c i = eqb (c.statement i).zero 0 and rowb c i (row_of (verb_of (c.statement i).code)) (c.statement i)

-- "5 before a's 4 before b's 4": both 4 name the statement
unfoldable pub found_of : Code → ℕ → Found
found_of c i = cond (shapeb c i) (cond (usesb c (uses_of c (c.statement i))) found.Good found.BadExpression) found.BadShape

-- ---- the check

abbrev pub onward : ℕ → Found → Result Parts Refusal → Result Parts Refusal
onward i found.Good rest = rest
onward i found.BadShape rest = Err (refusal.BadStatement i)
onward i found.BadExpression rest = Err (refusal.BadExpression i)

-- "then each statement in turn": the k statements from i on
unfoldable pub statements_from : List ℕ → Parts → ℕ → ℕ → Result Parts Refusal
statements_from u p zero i = Ok p
statements_from u p (suc k) i = let rest = statements_from u p k (i + 1) in onward i (found_of (code_of u p) i) rest

-- "Checks 1, 2, 3 run in order; then each statement in turn"
unfoldable pub parts_check : List ℕ → Parts → Result Parts Refusal
parts_check u p =
    let rest = statements_from u p p.n 0 in
    let good = good_fields (code_of u p) p.f 0 0 in
    cond (rangesb p) (cond (ltb good p.f) (Err (refusal.BadField good)) rest) (Err refusal.BadRange)

unfoldable pub check_of : List ℕ → Result Parts Refusal
check_of u = let rest = parts_check u (parts_of u) in cond (filledb u) rest (Err refusal.NotFilled)
