-- The units of the examples, in their bytes, and how an example is asked: what the tables of Slips, Fences, Breaching, ValidData, Tour, Refusals, Corners, Moves,
-- Blanks, Passes, Strict and Handlers are made of.
-- Assumes nothing.
use Rattle.rules_unit.specs.declared.Refusal.{Refusal}
use Rattle.std.specs.Prelude.{Bool, cond, ◌||◌, List, [], ◌∷◌, ◌++◌, ℕ, zero, suc, ◌+◌, ◌-◌, ◌*◌, ℤ, pos, eqb, length, set, take, replicate, Result, Err, Ok, Option}
use Prim.Native.String as string
use Rattle.rules.specs.declared.Fault.{Fault}
use Rattle.rules.specs.Stops.{fault_number}
use Rattle.rules_unit.specs.declared.Kind.{Kind}
use Rattle.rules_unit.specs.declared.Kind.TheVariants as kind
use Rattle.rules_unit.specs.declared.Field.{Field}
use Rattle.rules_unit.specs.declared.Item.{Item}
use Rattle.rules_unit.specs.declared.Item.TheVariants as item
use Rattle.rules_unit.specs.declared.Op.TheVariants as op
use Rattle.rules_unit.specs.declared.Sort.{Sort}
use Rattle.rules_unit.specs.declared.Sort.TheVariants as sort
use Rattle.rules_unit.specs.declared.Parts.{Parts}
use Rattle.rules_unit.specs.Codes.{Code}
use Rattle.rules_unit.specs.Decode.{items_at}
use Rattle.rules_unit.specs.Table.{verb_of}
use Rattle.rules_unit.specs.Expressions.{sort_from}
use Rattle.rules_unit.specs.Checks.{refusal_number, refusal_place, check_of}
use Rattle.rules_run.specs.declared.Flow.{Flow}
use Rattle.rules_run.specs.declared.Flow.TheVariants as flow
use Rattle.rules_run.specs.declared.Turn.{Turn}
use Rattle.rules_run.specs.declared.Caught.{Caught}
use Rattle.rules_run.specs.declared.Loop.{Loop}
use Rattle.rules_run.specs.declared.State.{State}
use Rattle.rules_run.specs.States.{no_loop, soundb, started, look_of}
use Rattle.rules_run.specs.Stops.{stop_number}
use Rattle.rules_run.specs.Turns.{applied, turn_by}
use Rattle.rules_run.specs.Runs.{Ran, run_of}
use Rattle.promises.specs.Rows.{Answer, number, text, refusal, stop, run, left, dialect, bytes, figures, alone, unit_over, accessed, unit}

-- ---- the slips

-- SEATS is A2, three times; NAME is A4. Expressions at 0: SEATS(first), at 8: SEATS(second), at 16: the text.
abbrev pub seats : string.String → List ℕ
seats figures =
    bytes "A1B1C1PAUL"
    ++ ((0 ∷ 0 ∷ 0 ∷ 0 ∷ 0 ∷ 2 ∷ 0 ∷ 3 ∷ 0 ∷ 0 ∷ 0 ∷ 6 ∷ 0 ∷ 4 ∷ 0 ∷ 1 ∷ [])
    ++ ((1 ∷ 0 ∷ 0 ∷ 1 ∷ 3 ∷ 0 ∷ 0 ∷ 0 ∷ 1 ∷ 0 ∷ 1 ∷ 1 ∷ 3 ∷ 0 ∷ 0 ∷ 0 ∷ 6 ∷ 0 ∷ 2 ∷ 0 ∷ 2 ∷ 0 ∷ [])
    ++ (bytes figures
    ++ (bytes "ZZ"
    ++ ((1 ∷ 0 ∷ 0 ∷ 0 ∷ 0 ∷ 16 ∷ 0 ∷ 0 ∷ 1 ∷ 0 ∷ 0 ∷ 8 ∷ 0 ∷ 16 ∷ 0 ∷ 0 ∷ [])
    ++ (0 ∷ 10 ∷ 0 ∷ 2 ∷ 0 ∷ 22 ∷ 0 ∷ 4 ∷ 0 ∷ 2 ∷ 0x44 ∷ 0x42 ∷ []))))))

-- FARE is D3, NAME is A3, and the record covers both. Expressions at 0: the record, at 4: NAME.
abbrev pub fares : ℕ → List ℕ
fares place =
    bytes "12smeg"
    ++ ((1 ∷ 0 ∷ 0 ∷ 0 ∷ 0 ∷ 3 ∷ 0 ∷ 1 ∷ 0 ∷ 0 ∷ 0 ∷ 3 ∷ 0 ∷ 3 ∷ 0 ∷ 1 ∷ 2 ∷ 0 ∷ 0 ∷ 0 ∷ 0 ∷ 6 ∷ 0 ∷ 1 ∷ [])
    ++ ((2 ∷ 0 ∷ 2 ∷ 0 ∷ 2 ∷ 0 ∷ 1 ∷ 0 ∷ [])
    ++ ((5 ∷ 0 ∷ 0 ∷ place ∷ 0 ∷ 0 ∷ 0 ∷ 0 ∷ [])
    ++ (0 ∷ 6 ∷ 0 ∷ 3 ∷ 0 ∷ 8 ∷ 0 ∷ 0 ∷ 0 ∷ 1 ∷ 0x44 ∷ 0x42 ∷ []))))

-- FARE is D4. Expressions at 0: FARE(first,second), at 12: 5, negated.
abbrev pub refund : string.String → List ℕ
refund figures =
    bytes "0000"
    ++ ((1 ∷ 0 ∷ 0 ∷ 0 ∷ 0 ∷ 4 ∷ 0 ∷ 1 ∷ [])
    ++ ((1 ∷ 0 ∷ 0 ∷ 1 ∷ 1 ∷ 0 ∷ 1 ∷ 1 ∷ 4 ∷ 0 ∷ 0 ∷ 0 ∷ 1 ∷ 0 ∷ 2 ∷ 1 ∷ 0x15 ∷ 0 ∷ [])
    ++ (bytes figures
    ++ (bytes "5"
    ++ ((1 ∷ 0 ∷ 0 ∷ 0 ∷ 0 ∷ 12 ∷ 0 ∷ 0 ∷ [])
    ++ (0 ∷ 4 ∷ 0 ∷ 1 ∷ 0 ∷ 18 ∷ 0 ∷ 3 ∷ 0 ∷ 1 ∷ 0x44 ∷ 0x42 ∷ []))))))

-- AM is A13. Expressions at 0: AM(2,6), at 12: AM(1,5).
abbrev pub smear : List ℕ
smear =
    bytes "abcdefghijklm"
    ++ ((0 ∷ 0 ∷ 0 ∷ 0 ∷ 0 ∷ 13 ∷ 0 ∷ 1 ∷ [])
    ++ ((1 ∷ 0 ∷ 0 ∷ 1 ∷ 1 ∷ 0 ∷ 1 ∷ 1 ∷ 4 ∷ 0 ∷ 0 ∷ 0 ∷ 1 ∷ 0 ∷ 2 ∷ 1 ∷ 1 ∷ 0 ∷ 3 ∷ 1 ∷ 4 ∷ 0 ∷ 0 ∷ 0 ∷ [])
    ++ (bytes "2615"
    ++ ((1 ∷ 0 ∷ 0 ∷ 0 ∷ 0 ∷ 12 ∷ 0 ∷ 0 ∷ [])
    ++ (0 ∷ 13 ∷ 0 ∷ 1 ∷ 0 ∷ 24 ∷ 0 ∷ 4 ∷ 0 ∷ 1 ∷ 0x44 ∷ 0x42 ∷ [])))))

-- The n bytes of data that a run from the unit's image leaves, and the number of its stop.
abbrev pub leaves : ℕ → List ℕ → List ℕ
leaves n u = (run_of u (take n u) started 100).bytes

abbrev pub stops : ℕ → List ℕ → ℕ
stops n u = stop_number (run_of u (take n u) started 100).outcome.stop

-- ---- the fence rules

-- SEAT is A5, three times; I is D1. SET SEAT(I) from "Eve"; SET SEAT(2) from "Eve".
abbrev pub chosen : List ℕ
chosen =
    bytes "Ann  Bo   Cy   2"
    ++ ((0 ∷ 0 ∷ 0 ∷ 0 ∷ 0 ∷ 5 ∷ 0 ∷ 3 ∷ 1 ∷ 0 ∷ 0 ∷ 15 ∷ 0 ∷ 1 ∷ 0 ∷ 1 ∷ [])
    ++ ((2 ∷ 0 ∷ 1 ∷ 3 ∷ 0 ∷ 0 ∷ 0 ∷ 6 ∷ 0 ∷ 0 ∷ 0 ∷ 3 ∷ 0 ∷ [])
    ++ (bytes "Eve"
    ++ ((1 ∷ 0 ∷ 0 ∷ 0 ∷ 0 ∷ 7 ∷ 0 ∷ 0 ∷ [])
    ++ (0 ∷ 16 ∷ 0 ∷ 2 ∷ 0 ∷ 13 ∷ 0 ∷ 3 ∷ 0 ∷ 1 ∷ 0x44 ∷ 0x42 ∷ [])))))

abbrev pub named : List ℕ
named =
    bytes "Ann  Bo   Cy   2"
    ++ ((0 ∷ 0 ∷ 0 ∷ 0 ∷ 0 ∷ 5 ∷ 0 ∷ 3 ∷ 1 ∷ 0 ∷ 0 ∷ 15 ∷ 0 ∷ 1 ∷ 0 ∷ 1 ∷ [])
    ++ ((1 ∷ 0 ∷ 0 ∷ 1 ∷ 3 ∷ 0 ∷ 0 ∷ 0 ∷ 6 ∷ 0 ∷ 1 ∷ 0 ∷ 3 ∷ 0 ∷ [])
    ++ (bytes "2Eve"
    ++ ((1 ∷ 0 ∷ 0 ∷ 0 ∷ 0 ∷ 8 ∷ 0 ∷ 0 ∷ [])
    ++ (0 ∷ 16 ∷ 0 ∷ 2 ∷ 0 ∷ 14 ∷ 0 ∷ 4 ∷ 0 ∷ 1 ∷ 0x44 ∷ 0x42 ∷ [])))))

-- CODE is A3, behind a gap of two bytes: CLEAR CODE(the first figure,the second).
abbrev pub cleared : string.String → List ℕ
cleared figures =
    bytes "??abc"
    ++ ((0 ∷ 0 ∷ 0 ∷ 2 ∷ 0 ∷ 3 ∷ 0 ∷ 1 ∷ [])
    ++ ((1 ∷ 0 ∷ 0 ∷ 1 ∷ 1 ∷ 0 ∷ 1 ∷ 1 ∷ 4 ∷ 0 ∷ 0 ∷ 0 ∷ [])
    ++ (bytes figures
    ++ ((2 ∷ 0 ∷ 0 ∷ 0 ∷ 0 ∷ 0 ∷ 0 ∷ 0 ∷ [])
    ++ (0 ∷ 5 ∷ 0 ∷ 1 ∷ 0 ∷ 12 ∷ 0 ∷ 2 ∷ 0 ∷ 1 ∷ 0x44 ∷ 0x42 ∷ [])))))

-- FARE is D2, twice; TEXT is A2. SET TEXT from the part of FARE.
abbrev pub read : string.String → List ℕ
read figures =
    bytes "1234??"
    ++ ((1 ∷ 0 ∷ 0 ∷ 0 ∷ 0 ∷ 2 ∷ 0 ∷ 2 ∷ 0 ∷ 0 ∷ 0 ∷ 4 ∷ 0 ∷ 2 ∷ 0 ∷ 1 ∷ [])
    ++ ((2 ∷ 0 ∷ 1 ∷ 0 ∷ 1 ∷ 0 ∷ 0 ∷ 1 ∷ 1 ∷ 0 ∷ 1 ∷ 1 ∷ 4 ∷ 0 ∷ 0 ∷ 0 ∷ [])
    ++ (bytes figures
    ++ ((1 ∷ 0 ∷ 0 ∷ 0 ∷ 0 ∷ 4 ∷ 0 ∷ 0 ∷ [])
    ++ (0 ∷ 6 ∷ 0 ∷ 2 ∷ 0 ∷ 16 ∷ 0 ∷ 2 ∷ 0 ∷ 1 ∷ 0x44 ∷ 0x42 ∷ [])))))

-- FARE is D3, NAME A3, and the record covers both: SET NAME from the record.
abbrev pub copied : List ℕ
copied =
    bytes "12smeg"
    ++ ((1 ∷ 0 ∷ 0 ∷ 0 ∷ 0 ∷ 3 ∷ 0 ∷ 1 ∷ 0 ∷ 0 ∷ 0 ∷ 3 ∷ 0 ∷ 3 ∷ 0 ∷ 1 ∷ 2 ∷ 0 ∷ 0 ∷ 0 ∷ 0 ∷ 6 ∷ 0 ∷ 1 ∷ [])
    ++ ((2 ∷ 0 ∷ 2 ∷ 0 ∷ 2 ∷ 0 ∷ 1 ∷ 0 ∷ [])
    ++ ((1 ∷ 0 ∷ 0 ∷ 4 ∷ 0 ∷ 0 ∷ 0 ∷ 0 ∷ [])
    ++ (0 ∷ 6 ∷ 0 ∷ 3 ∷ 0 ∷ 8 ∷ 0 ∷ 0 ∷ 0 ∷ 1 ∷ 0x44 ∷ 0x42 ∷ []))))

-- CODE is A1, three times: CLEAR CODE(2:-2).
abbrev pub backward : List ℕ
backward =
    bytes "abc"
    ++ ((0 ∷ 0 ∷ 0 ∷ 0 ∷ 0 ∷ 1 ∷ 0 ∷ 3 ∷ [])
    ++ ((1 ∷ 0 ∷ 0 ∷ 1 ∷ 1 ∷ 0 ∷ 0 ∷ 1 ∷ 0x15 ∷ 5 ∷ 0 ∷ 0 ∷ 0 ∷ [])
    ++ (bytes "2"
    ++ ((2 ∷ 0 ∷ 0 ∷ 0 ∷ 0 ∷ 0 ∷ 0 ∷ 0 ∷ [])
    ++ (0 ∷ 3 ∷ 0 ∷ 1 ∷ 0 ∷ 13 ∷ 0 ∷ 1 ∷ 0 ∷ 1 ∷ 0x44 ∷ 0x42 ∷ [])))))

-- ---- every statement once

-- N is D2, A is A6, T and U are D1. Statements: 0 SET N from U - 2, 1 INCR N, 2 DECR T, 3 computed GOTO by N - 2 (4 GOTO 11, 5 GOTO 7), 6 UPCASE A,
-- 7 CALL 12, 8 go to 10 if T - 8 is zero, 9 CLEAR N, 10 STOP, 11 CLEAR A, 12 LOCASE A(2,4), 13 UPCASE A(4,5), 14 CLEAR U, 15 RETURN. The statements 4, 6,
-- 9 and 11 are not reached.
abbrev pub tour_data : List ℕ
tour_data = bytes "07xaByCd95"

abbrev pub tour : List ℕ
tour =
    tour_data
    ++ ((1 ∷ 0 ∷ 0 ∷ 0 ∷ 0 ∷ 2 ∷ 0 ∷ 1 ∷ 0 ∷ 0 ∷ 0 ∷ 2 ∷ 0 ∷ 6 ∷ 0 ∷ 1 ∷ 1 ∷ 0 ∷ 0 ∷ 8 ∷ 0 ∷ 1 ∷ 0 ∷ 1 ∷ 1 ∷ 0 ∷ 0 ∷ 9 ∷ 0 ∷ 1 ∷ 0 ∷ 1 ∷ [])
    ++ ((2 ∷ 0 ∷ 0 ∷ 0 ∷ 2 ∷ 0 ∷ 3 ∷ 1 ∷ 0 ∷ 0 ∷ 1 ∷ 0x11 ∷ 0 ∷ 2 ∷ 0 ∷ 2 ∷ 0 ∷ 2 ∷ 0 ∷ 0 ∷ 1 ∷ 0 ∷ 0 ∷ 1 ∷ 0x11 ∷ 0 ∷ [])
    ++ ((2 ∷ 0 ∷ 1 ∷ 0 ∷ 2 ∷ 0 ∷ 2 ∷ 1 ∷ 0 ∷ 1 ∷ 1 ∷ 0x11 ∷ 0 ∷ 1 ∷ 0 ∷ 0 ∷ 1 ∷ 1 ∷ 0 ∷ 2 ∷ 1 ∷ 4 ∷ 0 ∷ 1 ∷ 0 ∷ [])
    ++ ((1 ∷ 0 ∷ 2 ∷ 1 ∷ 1 ∷ 0 ∷ 3 ∷ 1 ∷ 4 ∷ 0 ∷ 1 ∷ 0 ∷ 2 ∷ 0 ∷ 3 ∷ 0 ∷ [])
    ++ (bytes "2845"
    ++ ((1 ∷ 0 ∷ 0 ∷ 0 ∷ 0 ∷ 4 ∷ 0 ∷ 0 ∷ 3 ∷ 0 ∷ 0 ∷ 0 ∷ 0 ∷ 0 ∷ 0 ∷ 0 ∷ 4 ∷ 0 ∷ 0 ∷ 13 ∷ 0 ∷ 0 ∷ 0 ∷ 0 ∷ 12 ∷ 0 ∷ 0 ∷ 2 ∷ 0 ∷ 17 ∷ 0 ∷ 0 ∷ [])
    ++ ((7 ∷ 0 ∷ 0 ∷ 0 ∷ 0 ∷ 0 ∷ 0 ∷ 11 ∷ 7 ∷ 0 ∷ 0 ∷ 0 ∷ 0 ∷ 0 ∷ 0 ∷ 7 ∷ 5 ∷ 0 ∷ 0 ∷ 26 ∷ 0 ∷ 0 ∷ 0 ∷ 0 ∷ 9 ∷ 0 ∷ 0 ∷ 0 ∷ 0 ∷ 0 ∷ 0 ∷ 12 ∷ [])
    ++ ((8 ∷ 0 ∷ 0 ∷ 0 ∷ 0 ∷ 30 ∷ 0 ∷ 10 ∷ 2 ∷ 0 ∷ 0 ∷ 0 ∷ 0 ∷ 0 ∷ 0 ∷ 0 ∷ 11 ∷ 0 ∷ 0 ∷ 0 ∷ 0 ∷ 0 ∷ 0 ∷ 0 ∷ 2 ∷ 0 ∷ 0 ∷ 26 ∷ 0 ∷ 0 ∷ 0 ∷ 0 ∷ [])
    ++ ((6 ∷ 0 ∷ 0 ∷ 39 ∷ 0 ∷ 0 ∷ 0 ∷ 0 ∷ 5 ∷ 0 ∷ 0 ∷ 51 ∷ 0 ∷ 0 ∷ 0 ∷ 0 ∷ 2 ∷ 0 ∷ 0 ∷ 63 ∷ 0 ∷ 0 ∷ 0 ∷ 0 ∷ 10 ∷ 0 ∷ 0 ∷ 0 ∷ 0 ∷ 0 ∷ 0 ∷ 0 ∷ [])
    ++ (0 ∷ 10 ∷ 0 ∷ 4 ∷ 0 ∷ 67 ∷ 0 ∷ 4 ∷ 0 ∷ 16 ∷ 0x44 ∷ 0x42 ∷ []))))))))))

-- ---- checks

-- A unit that passes answers the length of its data.
abbrev pub answered : Result Parts Refusal → Answer
answered (Ok p) = number (pos p.d)
answered (Err r) = refusal (refusal_number r) (refusal_place r)

abbrev pub changed : ℕ → ℕ → Answer
changed k v = answered (check_of (set tour k v))

-- A field of the kind, offset, size and count given, and a STOP.
abbrev pub with_field : ℕ → ℕ → ℕ → ℕ → Answer
with_field kind offset size count =
    answered
    (check_of
    (replicate 19 48
    ++ ((kind ∷ 0 ∷ 0 ∷ offset ∷ 0 ∷ size ∷ 0 ∷ count ∷ [])
    ++ ((11 ∷ 0 ∷ 0 ∷ 0 ∷ 0 ∷ 0 ∷ 0 ∷ 0 ∷ []) ++ (0 ∷ 19 ∷ 0 ∷ 1 ∷ 0 ∷ 0 ∷ 0 ∷ 0 ∷ 0 ∷ 1 ∷ 0x44 ∷ 0x42 ∷ [])))))

-- Two fields, and a STOP.
abbrev pub with_fields : List ℕ → List ℕ → Answer
with_fields first second =
    answered
    (check_of (replicate 19 48 ++ (first ++ (second ++ ((11 ∷ 0 ∷ 0 ∷ 0 ∷ 0 ∷ 0 ∷ 0 ∷ 0 ∷ []) ++ (0 ∷ 19 ∷ 0 ∷ 2 ∷ 0 ∷ 0 ∷ 0 ∷ 0 ∷ 0 ∷ 1 ∷ 0x44 ∷ 0x42 ∷ []))))))

abbrev pub entry : ℕ → ℕ → ℕ → List ℕ
entry kind offset size = kind ∷ 0 ∷ 0 ∷ offset ∷ 0 ∷ size ∷ 0 ∷ 1 ∷ []

-- A statement of the code given with the place and the source given, beside A, which is A4, N, which is D2, and twenty digits as literals.
abbrev pub with_parts : ℕ → List ℕ → ℕ → List ℕ → Answer
with_parts code place b source =
    answered
    (check_of
    (replicate 10 48
    ++ ((0 ∷ 0 ∷ 0 ∷ 0 ∷ 0 ∷ 4 ∷ 0 ∷ 1 ∷ 1 ∷ 0 ∷ 0 ∷ 4 ∷ 0 ∷ 2 ∷ 0 ∷ 1 ∷ [])
    ++ (place
    ++ (source
    ++ (replicate 20 49
    ++ ((code ∷ 0 ∷ 0 ∷ 0 ∷ 0 ∷ b ∷ 0 ∷ 0 ∷ []) ++ (0 ∷ 10 ∷ 0 ∷ 2 ∷ 0 ∷ length (place ++ source) ∷ 0 ∷ 20 ∷ 0 ∷ 1 ∷ 0x44 ∷ 0x42 ∷ []))))))))

abbrev pub of_set : List ℕ → List ℕ → Answer
of_set place source = with_parts 1 place (length place) source

-- A; N; a text of one character.
abbrev pub A : List ℕ
A = 2 ∷ 0 ∷ 0 ∷ 0 ∷ []

abbrev pub N : List ℕ
N = 2 ∷ 0 ∷ 1 ∷ 0 ∷ []

abbrev pub X : List ℕ
X = 6 ∷ 0 ∷ 0 ∷ 0 ∷ 1 ∷ 0 ∷ []

-- A computed GOTO as the last statement: behind it stands a 7, the first byte of the trailer.
abbrev pub last_of_all : Answer
last_of_all =
    answered
    (check_of
    (replicate 1792 48
    ++ ((1 ∷ 0 ∷ 0 ∷ 1 ∷ 0 ∷ 49 ∷ []) ++ ((12 ∷ 0 ∷ 0 ∷ 1 ∷ 0 ∷ 0 ∷ 0 ∷ 0 ∷ []) ++ (7 ∷ 0 ∷ 0 ∷ 0 ∷ 0 ∷ 5 ∷ 0 ∷ 1 ∷ 0 ∷ 1 ∷ 0x44 ∷ 0x42 ∷ [])))))

-- A FOR as the last statement, whose loop end is the statement behind it: there stands a 15, the first byte of the trailer.
abbrev pub last_for : Answer
last_for =
    answered
    (check_of
    (replicate 3840 48
    ++ ((1 ∷ 0 ∷ 0 ∷ 0 ∷ 0 ∷ 2 ∷ 0 ∷ 1 ∷ [])
    ++ ((2 ∷ 0 ∷ 0 ∷ 0 ∷ 2 ∷ 0 ∷ 0 ∷ 0 ∷ 2 ∷ 0 ∷ 0 ∷ 0 ∷ 2 ∷ 0 ∷ 0 ∷ 0 ∷ [])
    ++ ((14 ∷ 0 ∷ 0 ∷ 0 ∷ 0 ∷ 4 ∷ 0 ∷ 1 ∷ []) ++ (15 ∷ 0 ∷ 0 ∷ 1 ∷ 0 ∷ 16 ∷ 0 ∷ 0 ∷ 0 ∷ 1 ∷ 0x44 ∷ 0x42 ∷ []))))))

-- As many numbers, and then as many sums.
abbrev pub sums : ℕ → ℕ → Sort
sums n k = sort_from unit (replicate n (item.Number 0 2) ++ replicate k (item.Operator op.Add)) 0 sort.Number

-- ---- expressions, states and lengths

-- A unit of no fields; the operator o on one and on two of the numbers 0 to 30.
abbrev pub bare : List Item → Answer
bare list = accessed (unit_over 1 0 (λ f. record { kind = kind.Alpha; zero = 0; offset = 0; size = 1; count = 1 }) (λ e. [])) [] list

abbrev pub of_one : ℕ → ℕ → Answer
of_one o x = bare (items_at (1 ∷ 0 ∷ 2 * x ∷ 2 ∷ o ∷ 0 ∷ []) 0)

abbrev pub of_two : ℕ → ℕ → ℕ → Answer
of_two o x y = bare (items_at (1 ∷ 0 ∷ 2 * x ∷ 2 ∷ 1 ∷ 0 ∷ 2 * y ∷ 2 ∷ o ∷ 0 ∷ []) 0)

-- A decimal of 10 characters before 30 other bytes.
abbrev pub of_forty : List Item → Answer
of_forty list = accessed (unit_over 40 1 (λ f. record { kind = kind.Decimal; zero = 0; offset = 0; size = 10; count = 1 }) (λ e. [])) (replicate 40 49) list

-- A field of the kind and the zero byte given: three elements of two bytes behind two other bytes, or six bytes where it is a record.
abbrev pub of_seats : Kind → ℕ → List Item → Answer
of_seats k choice list = accessed (unit_over 10 1 (λ f. record { kind = k; zero = choice; offset = 2; size = 6 - 4 * by k; count = 1 + 2 * by k }) (λ e. [])) (bytes "abA1B2C3yz") list
  where
    by : Kind → ℕ
    by kind.Record = 0
    by kind.Alpha = 1
    by kind.Decimal = 1
    by kind.Bad = 1

-- Two decimals of 10 characters before 20 other bytes.
abbrev pub of_digits : ℕ → List Item → Answer
of_digits choice list = accessed (unit_over 40 1 (λ f. record { kind = kind.Decimal; zero = choice; offset = 0; size = 10; count = 2 }) (λ e. [])) (replicate 40 49) list

-- A unit of 9 statements, of which 3 is a FOR. What would be the statement 9 is one too, but lies behind the last.
abbrev pub nine : Code
nine = record {
  dialect = dialect;
  size = 1;
  fields = 0;
  field = λ f. record { kind = kind.Alpha; zero = 0; offset = 0; size = 1; count = 1 };
  literals = [];
  items = λ e. [];
  statements = 9;
  statement = λ i. record { code = cond (eqb i 3 || eqb i 9) 14 15; zero = 0; a = 0; b = 0; c = 0 };
}

-- Of that unit: a state at the statement given, with the calls given, all to the number given, and zeros behind them.
abbrev pub sound : ℕ → ℕ → ℕ → ℕ → Bool
sound at depth to zeros =
    soundb nine (record { at = at; depth = depth; returns = replicate depth to ++ replicate zeros 0; opened = 0; loops = replicate 16 no_loop; trap = started.trap })

-- A state before its first statement, with as many loops open as are given, in the slots given and empty ones behind them.
abbrev pub opens : ℕ → List Loop → ℕ → Bool
opens opened slots empty =
    soundb nine (record { at = 0; depth = 0; returns = replicate 50 0; opened = opened; loops = slots ++ replicate empty no_loop; trap = started.trap })

-- A state before its first statement, with the handler and the last error given.
abbrev pub told : Option ℕ → Option Caught → State
told h e =
    record { at = 0; depth = 0; returns = replicate 50 0; opened = 0; loops = replicate 16 no_loop; trap = record { handler = h; caught = e } }

abbrev pub tells : Option ℕ → Option Caught → Bool
tells h e = soundb nine (told h e)

-- A loop of the FOR at a statement, with its limit and its step.
abbrev pub slot : ℕ → ℤ → ℤ → Loop
slot entry limit step = record { entry = entry; limit = limit; step = step }

abbrev pub parts : ℕ → ℕ → ℕ → ℕ → ℕ → Parts
parts d f e p n = record { d = d; f = f; e = e; p = p; n = n; dialect = dialect }

-- ---- moves

-- D2 "2s", which is -23, A5 " 1-2 " and A4 "abcd".
abbrev moved_field : ℕ → Field
moved_field zero = record { kind = kind.Decimal; zero = 0; offset = 0; size = 2; count = 1 }
moved_field (suc zero) = record { kind = kind.Alpha; zero = 0; offset = 2; size = 5; count = 1 }
moved_field (suc (suc f)) = record { kind = kind.Alpha; zero = 0; offset = 7; size = 4; count = 1 }

abbrev moved_data : List ℕ
moved_data = bytes "2s 1-2 abcd"

abbrev three_parts : List Item → List Item → List Item → ℕ → List Item
three_parts a b c zero = a
three_parts a b c (suc zero) = b
three_parts a b c (suc (suc e)) = c

-- What a turn leaves of the data d; where it goes on, if it is not the next.
abbrev left_by : Code → List ℕ → Result Turn Fault → Answer
left_by c d (Err e) = stop (fault_number e)
left_by c d (Ok t) = gone t.flow
  where
    gone : Flow → Answer
    gone flow.Next = text (applied c d t.write)
    gone (flow.Goto i) = number (pos i)
    gone (flow.Call i) = number (pos i)
    gone flow.Return = stop 0
    gone flow.Stop = stop 0
    gone (flow.Enter limit step) = stop 0
    gone (flow.Leave i) = number (pos i)
    gone (flow.Arm i) = stop 0
    gone flow.Disarm = stop 0

-- A statement of the code given, with the place a and the source or number b.
abbrev pub moved : ℕ → List Item → List Item → Answer
moved code a b = left_by c moved_data (turn_by c (look_of started) 0 moved_data (verb_of code) (c.statement 0))
  where
    c : Code
    c = unit_over 11 3 moved_field (three_parts a b [])

-- SET of the place a from the number n with the mask m.
abbrev pub masked : List Item → List Item → List Item → Answer
masked a n m = left_by c moved_data (turn_by c (look_of started) 0 moved_data (verb_of 13) (record { code = 13; zero = 0; a = 0; b = 1; c = 2 }))
  where
    c : Code
    c = unit_over 11 3 moved_field (three_parts a m n)

-- ---- spaces in a decimal

-- A unit whose one field, AMOUNT, is D3.
abbrev amount : Code
amount = unit_over 3 1 (λ f. record { kind = kind.Decimal; zero = 0; offset = 0; size = 3; count = 1 }) (λ e. alone 0)

-- What an expression comes to where AMOUNT holds the three characters, and what INCR AMOUNT leaves of them.
abbrev pub of_amount : string.String → List Item → Answer
of_amount held list = accessed amount (bytes held) list

abbrev pub counted : string.String → Answer
counted held = left_by amount (bytes held) (turn_by amount (look_of started) 0 (bytes held) (verb_of 3) (amount.statement 0))

-- ---- loops

-- The items of the number n, from 0 to 30, and of the number below 0; of the fields I and P.
abbrev pub figure : ℕ → List ℕ
figure n = 1 ∷ 0 ∷ 2 * n ∷ 2 ∷ []

abbrev pub below : ℕ → List ℕ
below n = figure n ++ (0x15 ∷ [])

abbrev pub I : List ℕ
I = 2 ∷ 0 ∷ 0 ∷ []

abbrev pub P : List ℕ
P = 2 ∷ 0 ∷ 1 ∷ []

-- Start, limit and step in a row.
abbrev pub numbers : List ℕ → List ℕ → List ℕ → List ℕ
numbers start limit step = start ++ (0 ∷ limit ++ (0 ∷ step ++ (0 ∷ [])))

abbrev pub coded : ℕ → ℕ → ℕ → ℕ → List ℕ
coded code a b c = code ∷ 0 ∷ 0 ∷ a ∷ 0 ∷ b ∷ 0 ∷ c ∷ []

-- A statement whose parts are zero: 3 INCR P, 10 RETURN, 11 STOP, 15 loop end, 16 EXITLOOP, 17 NEXTLOOP, 19 OFFERROR.
abbrev pub plain : ℕ → List ℕ
plain code = coded code 0 0 0

abbrev joined : List (List ℕ) → List ℕ
joined [] = []
joined (s ∷ ss) = s ++ joined ss

-- I is a decimal of all characters of the data but the last, and P, which is D1, is that one. Expressions at 0: P, at 4: the three numbers, and behind them the place.
abbrev pub looping : string.String → List ℕ → List ℕ → List (List ℕ) → List ℕ
looping held three place statements =
    bytes held
    ++ ((1 ∷ 0 ∷ 0 ∷ 0 ∷ 0 ∷ size ∷ 0 ∷ 1 ∷ 1 ∷ 0 ∷ 0 ∷ size ∷ 0 ∷ 1 ∷ 0 ∷ 1 ∷ [])
    ++ (P ++ (0 ∷ three ++ (place ++ (0 ∷ figures ++ (joined statements ++ trailer))))))
  where
    size : ℕ
    size = length (bytes held) - 1

    trailer : List ℕ
    trailer = 0 ∷ (size + 1) ∷ 0 ∷ 2 ∷ 0 ∷ (length three + length place + 5) ∷ 0 ∷ 62 ∷ 0 ∷ length statements ∷ 0x44 ∷ 0x42 ∷ []

-- FOR at the place given, and its loop end.
abbrev pub for_at : List ℕ → List ℕ → List ℕ
for_at three place = looping "000" three place (coded 14 (length three + 4) 4 1 ∷ plain 15 ∷ [])

-- The check of such a unit; and that of one with FOR and its loop end alone, where P is A1.
abbrev pub with_loop : List ℕ → List ℕ → List (List ℕ) → Answer
with_loop three place statements = answered (check_of (looping "000" three place statements))

abbrev pub with_alpha : List ℕ → List ℕ → Answer
with_alpha three place = answered (check_of (set (for_at three place) 11 0))

-- What a run from the unit's image ends with, n being the length of the data.
abbrev pub ran_of : ℕ → List ℕ → Ran
ran_of n u = run_of u (take n u) started 100

abbrev pub ends : Ran → Answer
ends r = run (stop_number r.outcome.stop) r.outcome.place r.outcome.count r.outcome.state.opened r.bytes

-- A unit that begins with FOR I, whose loop end is the statement given, and goes on with the statements given.
abbrev pub loop_of : string.String → List ℕ → ℕ → List (List ℕ) → List ℕ
loop_of held three end body = looping held three I (coded 14 (length three + 4) 4 end ∷ body)

abbrev pub looped : string.String → List ℕ → ℕ → List (List ℕ) → Answer
looped held three end body = ends (ran_of (length (bytes held)) (loop_of held three end body))

-- FOR I; INCR P; loop end.
abbrev pub passes : string.String → List ℕ → Answer
passes held three = looped held three 2 (plain 3 ∷ plain 15 ∷ [])

-- ---- references that break a rule

-- Of the field I, where it is D2: I(1,1), which ends inside its element; I(P), whose bound is no literal; I(0,1), whose bounds give 21.
abbrev pub part : List ℕ
part = figure 1 ++ (figure 1 ++ (4 ∷ 0 ∷ 0 ∷ []))

abbrev pub chosen_bound : List ℕ
chosen_bound = P ++ (3 ∷ 0 ∷ 0 ∷ [])

abbrev pub wrong_bounds : List ℕ
wrong_bounds = figure 0 ++ (figure 1 ++ (4 ∷ 0 ∷ 0 ∷ []))

-- ---- handlers

abbrev pub on_error_lem : ℕ → List ℕ
on_error_lem c = coded 18 0 0 c

-- SET P from the expression that stands at 4, which is the one given where there are no three numbers.
abbrev pub reads : List ℕ
reads = coded 1 0 4 0

abbrev pub erring : string.String → List ℕ → List (List ℕ) → List ℕ
erring held source statements = looping held [] source statements

-- What a run leaves, with its handler and its last error.
abbrev pub told_of : Ran → Answer
told_of r =
    left (stop_number r.outcome.stop) r.outcome.place r.outcome.count r.outcome.state.trap.handler r.outcome.state.trap.caught r.outcome.state.depth
    r.outcome.state.opened r.bytes

-- From the unit's image, n being the length of the data; from the state given, with the allowance given.
abbrev pub left_of : ℕ → List ℕ → Answer
left_of n u = told_of (ran_of n u)

abbrev pub left_from : ℕ → List ℕ → State → ℕ → Answer
left_from n u s m = told_of (run_of u (take n u) s m)
