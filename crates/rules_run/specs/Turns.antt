-- One statement (document 01, "The coded unit" and "Moves and arithmetic"; request 4 of document 02, "FOR loops").
--   turn_of c l i d       what the statement i answers over the data d, where it sees l of the state: a turn, which is what it stores and where the run goes on,
--                         or its error
--   testb v limit step   the test before each pass of a loop, with the control value v
--   fitsb n v            v fits a control field of n characters
--   Entry c d s          what the FOR s works out on entry, where nothing fails; Pass c l d, what a pass of the loop opened last does
--   applied c d w        what a store makes of the data; Room c size w, that it has room for it
-- "In a statement a is worked out before b, items left to right, reads where they stand; storing comes last."
-- Assumes nothing.
use Rattle.std.specs.Prelude.{◌≡◌, ℕ, zero, suc, ◌+◌, ◌^◌, ◌≤◌, Bool, true, false, cond, List, ◌++◌, ltb, leb, eqb, ℤ, pos, negsuc, nat_abs, length, take, drop, Result, Err, Ok}
use Rattle.std.specs.Int.Signed.{le_z}
use Rattle.rules.specs.declared.Fault.{Fault}
use Rattle.rules.specs.declared.Fault.TheVariants as fault
use Rattle.rules.specs.Values.{Val}
use Rattle.rules.specs.Arithmetic.{add_of, sub_of}
use Rattle.rules.specs.Moves.{written, shown, alpha_of, fitted, upcased, locased, blanks, zeros}
use Rattle.rules.specs.Masks.{formatted}
use Rattle.rules_unit.specs.declared.Statement.{Statement}
use Rattle.rules_unit.specs.declared.Act.{Act}
use Rattle.rules_unit.specs.declared.Act.TheVariants as act
use Rattle.rules_unit.specs.declared.Verb.{Verb}
use Rattle.rules_unit.specs.declared.Verb.TheVariants as verb
use Rattle.rules_unit.specs.Table.{verb_of}
use Rattle.rules_unit.specs.Codes.{Code}
use Rattle.rules_unit.specs.Expressions.{next_at}
use Rattle.rules_run.specs.declared.Worked.{Worked}
use Rattle.rules_run.specs.declared.Worked.TheVariants as worked
use Rattle.rules_run.specs.declared.Write.{Write}
use Rattle.rules_run.specs.declared.Write.TheVariants as write
use Rattle.rules_run.specs.declared.Flow.{Flow}
use Rattle.rules_run.specs.declared.Flow.TheVariants as flow
use Rattle.rules_run.specs.declared.Turn.{Turn}
use Rattle.rules_run.specs.declared.Look.{Look}
use Rattle.rules_run.specs.Evaluation.{read_at, worked_of, value_at}

-- ---- stores

-- The data with new characters from a on.
unfoldable pub stored : List ℕ → ℕ → List ℕ → List ℕ
stored d a new = take a d ++ (new ++ drop (a + length new) d)

abbrev pub cased : Bool → List ℕ → List ℕ
cased true s = upcased s
cased false s = locased s

abbrev pub cleared : Bool → ℕ → List ℕ
cleared true n = zeros n
cleared false n = blanks n

-- "The result is as if the source had been copied away first": the new characters are made of the data as it was.
unfoldable pub applied : Code → List ℕ → Write → List ℕ
applied c d write.Nothing = d
applied c d (write.Number a n v) = stored d a (written c.dialect.sign n v)
applied c d (write.Show a n v) = stored d a (shown n v)
applied c d (write.Move a n from k) = stored d a (fitted n (take k (drop from d)))
applied c d (write.Literal a n place k) = stored d a (fitted n (take k (drop place c.literals)))
applied c d (write.Clear a n decimal) = stored d a (cleared decimal n)
applied c d (write.Case a n up) = stored d a (cased up (take n (drop a d)))
applied c d (write.Edit a n from k v) = stored d a (formatted n (take k (drop from d)) v)
applied c d (write.EditLiteral a n place k v) = stored d a (formatted n (take k (drop place c.literals)) v)

-- A store that the data has room for, and that the moves can make.
abbrev pub Room : Code → ℕ → Write → Type 0
Room c size write.Nothing = Unit {0}
Room c size (write.Number a n v) = (a + n ≤ size) × (n ≤ 18) × Val (10 ^ 18) v
Room c size (write.Show a n v) = (a + n ≤ size) × Val (10 ^ 18) v
Room c size (write.Move a n from k) = (a + n ≤ size) × (from + k ≤ size)
Room c size (write.Literal a n place k) = (a + n ≤ size) × (place + k ≤ length c.literals)
Room c size (write.Clear a n decimal) = a + n ≤ size
Room c size (write.Case a n up) = a + n ≤ size
Room c size (write.Edit a n from k v) = (a + n ≤ size) × Val (10 ^ 18) v × (from + k ≤ size)
Room c size (write.EditLiteral a n place k v) = (a + n ≤ size) × Val (10 ^ 18) v × (place + k ≤ length c.literals)

-- ---- turns

abbrev pub turn : Write → Flow → Turn
turn w f = record { write = w; flow = f }

-- A store, and on to the next statement.
abbrev pub stores : Write → Result Turn Fault
stores w = Ok (turn w flow.Next)

abbrev pub goes : Flow → Result Turn Fault
goes f = Ok (turn write.Nothing f)

-- ---- SET

-- A number moves to n bytes at a: "Number to decimal", "Number to alpha".
abbrev pub move_number : Bool → ℕ → ℕ → ℤ → Result Turn Fault
move_number decimal a n v = cond decimal (stores (write.Number a n v)) (stores (write.Show a n v))

abbrev pub move_num : Bool → ℕ → ℕ → Result ℤ Fault → Result Turn Fault
move_num decimal a n (Ok v) = move_number decimal a n v
move_num decimal a n (Err e) = Err e

-- The source of a SET, once the place is found. "Alpha to decimal: .. The value then moves as a number."
abbrev pub move_worked : Code → List ℕ → Bool → ℕ → ℕ → Result Worked Fault → Result Turn Fault
move_worked c d decimal a n (Ok (worked.Number v)) = move_number decimal a n v
move_worked c d decimal a n (Ok (worked.Place number b m)) =
    cond number (move_num decimal a n (read_at c d b m))
    (cond decimal (move_num true a n (alpha_of c.dialect.top (take m (drop b d)))) (stores (write.Move a n b m)))
move_worked c d decimal a n (Ok (worked.Text p l)) =
    cond decimal (move_num true a n (alpha_of c.dialect.top (take l (drop p c.literals)))) (stores (write.Literal a n p l))
move_worked c d decimal a n (Err e) = Err e

-- ---- the other stores

-- What is done at a place that was found.
abbrev pub on_place : Result Worked Fault → (Bool → ℕ → ℕ → Result Turn Fault) → Result Turn Fault
on_place (Ok (worked.Number v)) k = Err fault.Malformed
on_place (Ok (worked.Place decimal a n)) k = k decimal a n
on_place (Ok (worked.Text p l)) k = Err fault.Malformed
on_place (Err e) k = Err e

-- "CLEAR writes spaces to alpha, zeros to decimal."
abbrev pub clear_at : Bool → ℕ → ℕ → Result Turn Fault
clear_at decimal a n = stores (write.Clear a n decimal)

-- One more, or one less.
abbrev pub counted : ℕ → Bool → Result ℤ Fault → Result ℤ Fault
counted top true (Ok v) = add_of top v (pos 1)
counted top false (Ok v) = sub_of top v (pos 1)
counted top true (Err e) = Err e
counted top false (Err e) = Err e

-- "INCR and DECR compute, then store as a number move." "An INCR or DECR place is read before the sum."
abbrev pub count_at : Code → List ℕ → Bool → Bool → ℕ → ℕ → Result Turn Fault
count_at c d up decimal a n = cond decimal (move_num true a n (counted c.dialect.top up (read_at c d a n))) (Err fault.Malformed)

-- "5 UPCASE a; 6 LOCASE a (alpha places)"
abbrev pub case_at : Bool → Bool → ℕ → ℕ → Result Turn Fault
case_at up decimal a n = cond decimal (Err fault.Malformed) (stores (write.Case a n up))

-- ---- the formatted move

-- What is stored of a number.
abbrev pub edit_num : Result ℤ Fault → (ℤ → Write) → Result Turn Fault
edit_num (Ok v) k = stores (k v)
edit_num (Err e) k = Err e

-- "21 for the mask's place comes after the destination's and before the number's." Here r is what the number comes to.
abbrev pub edit_by : ℕ → ℕ → Result Worked Fault → Result ℤ Fault → Result Turn Fault
edit_by a n (Ok (worked.Number v)) r = Err fault.Malformed
edit_by a n (Ok (worked.Place decimal from k)) r = cond decimal (Err fault.Malformed) (edit_num r (λ v. write.Edit a n from k v))
edit_by a n (Ok (worked.Text p l)) r = edit_num r (λ v. write.EditLiteral a n p l v)
edit_by a n (Err e) r = Err e

abbrev pub edit_at : Bool → ℕ → ℕ → Result Worked Fault → Result ℤ Fault → Result Turn Fault
edit_at decimal a n mask r = cond decimal (Err fault.Malformed) (edit_by a n mask r)

-- ---- jumps

abbrev pub on_number : Result ℤ Fault → (ℤ → Flow) → Result Turn Fault
on_number (Ok v) k = goes (k v)
on_number (Err e) k = Err e

-- "8 go to c if number b is zero"
abbrev pub if_zero : ℕ → ℤ → Flow
if_zero target v = cond (eqb (nat_abs v) 0) (flow.Goto target) flow.Next

-- "a value v from 1 to n goes on at i+v, any other at i+n+1"
abbrev pub choose : ℕ → ℕ → ℤ → Flow
choose i n (pos zero) = flow.Goto (i + n + 1)
choose i n (pos (suc v)) = cond (leb (suc v) n) (flow.Goto (i + suc v)) (flow.Goto (i + n + 1))
choose i n (negsuc v) = flow.Goto (i + n + 1)

-- ---- FOR

-- What is done with a number.
abbrev pub on_value : Result ℤ Fault → (ℤ → Result Turn Fault) → Result Turn Fault
on_value (Ok v) k = k v
on_value (Err e) k = Err e

-- "with a positive step the loop goes on while the control value is not above the limit, with a negative step while it is not below"
abbrev pub testb : ℤ → ℤ → ℤ → Bool
testb v limit (pos s) = le_z v limit
testb v limit (negsuc s) = le_z limit v

-- "A value that doesn't fit the control field": a sign costs no place.
abbrev pub fitsb : ℕ → ℤ → Bool
fitsb n v = ltb (nat_abs v) (10 ^ n)

-- "A value that doesn't fit the control field is reported before it is stored."
abbrev pub controls : ℕ → ℕ → ℤ → Flow → Result Turn Fault
controls a n v f = cond (fitsb n v) (Ok (turn (write.Number a n v) f)) (Err fault.TooLong)

-- "The test comes before each pass": the loop is opened, or passed over, and then it "holds the start value".
abbrev pub enter_flow : ℕ → ℤ → ℤ → ℤ → Flow
enter_flow end v limit step = cond (testb v limit step) (flow.Enter limit step) (flow.Goto (end + 1))

-- "27 zero step, after the step's own errors and before that 20"
abbrev pub enter_by : ℕ → ℕ → ℕ → ℤ → ℤ → ℤ → Result Turn Fault
enter_by end a n v limit step = cond (eqb (nat_abs step) 0) (Err fault.ZeroStep) (controls a n v (enter_flow end v limit step))

-- "On entry the control place is found, then start, limit and step are worked out once, in that order."
abbrev pub enter_at : Code → List ℕ → Statement → Bool → ℕ → ℕ → Result Turn Fault
enter_at c d s decimal a n =
    cond decimal
    (on_value (value_at c d s.b)
    (λ v. on_value (value_at c d (next_at c s.b)) (λ limit. on_value (value_at c d (next_at c (next_at c s.b))) (λ step. enter_by s.c a n v limit step))))
    (Err fault.Malformed)

-- "28 more than 16 open loops, before anything is evaluated"
unfoldable pub enters : Code → Look → List ℕ → Statement → Result Turn Fault
enters c l d s = cond (ltb l.opened 16) (on_place (worked_of c d (c.items s.a)) (enter_at c d s)) (Err fault.LoopsFull)

-- The same sentence as a statement: the control place is n characters at a.
pub record Entry (c : Code) (d : List ℕ) (s : Statement) : Type 0 where
  pub a : ℕ
  pub n : ℕ
  pub start : ℤ
  pub limit : ℤ
  pub step : ℤ
  pub found : worked_of c d (c.items s.a) ≡ Ok (worked.Place true a n)
  pub starts : value_at c d s.b ≡ Ok start
  pub ends : value_at c d (next_at c s.b) ≡ Ok limit
  pub steps : value_at c d (next_at c (next_at c s.b)) ≡ Ok step

-- ---- loop end, NEXTLOOP, EXITLOOP

-- The entry statement of the loop opened last.
abbrev pub entry_of : Code → Look → Statement
entry_of c l = c.statement l.last.entry

-- "At exit the control field holds the first value that failed the test": the next pass begins behind the entry, and the way out lies behind the
-- entry's loop end.
abbrev pub pass_flow : Code → Look → ℤ → Flow
pass_flow c l v = cond (testb v l.last.limit l.last.step) (flow.Goto (l.last.entry + 1)) (flow.Leave ((entry_of c l).c + 1))

-- The control place is read, and the step added.
abbrev pub pass_at : Code → Look → List ℕ → Bool → ℕ → ℕ → Result Turn Fault
pass_at c l d decimal a n =
    cond decimal
    (on_value (read_at c d a n) (λ x. on_value (add_of c.dialect.top x l.last.step) (λ v. controls a n v (pass_flow c l v))))
    (Err fault.Malformed)

-- "they and a loop end act on the loop opened last"; "29 loop end, EXITLOOP or NEXTLOOP with no loop open"
abbrev pub on_loop : Look → Result Turn Fault → Result Turn Fault
on_loop l t = cond (eqb l.opened 0) (Err fault.NoLoop) t

-- "the control place is found again from that statement at each pass"
unfoldable pub repeats : Code → Look → List ℕ → Result Turn Fault
repeats c l d = on_loop l (on_place (worked_of c d (c.items (entry_of c l).a)) (pass_at c l d))

-- The same sentence as a statement: the control value x, and then v.
pub record Pass (c : Code) (l : Look) (d : List ℕ) : Type 0 where
  pub a : ℕ
  pub n : ℕ
  pub x : ℤ
  pub v : ℤ
  pub found : worked_of c d (c.items (entry_of c l).a) ≡ Ok (worked.Place true a n)
  pub reads : read_at c d a n ≡ Ok x
  pub adds : add_of c.dialect.top x l.last.step ≡ Ok v

-- EXITLOOP works out nothing.
unfoldable pub exits : Code → Look → Result Turn Fault
exits c l = on_loop l (goes (flow.Leave ((entry_of c l).c + 1)))

-- ---- statements, in the order of document 01

-- What the statement s does at a place that was found.
abbrev pub act_at : Code → List ℕ → Act → Statement → Bool → ℕ → ℕ → Result Turn Fault
act_at c d act.Set s decimal x n = move_worked c d decimal x n (worked_of c d (c.items s.b))
act_at c d act.Clear s decimal x n = clear_at decimal x n
act_at c d (act.Count up) s decimal x n = count_at c d up decimal x n
act_at c d (act.Case upper) s decimal x n = case_at upper decimal x n
act_at c d act.Edit s decimal x n = edit_at decimal x n (worked_of c d (c.items s.b)) (value_at c d s.c)

-- The statement s at i, of the verb given. A loop end and NEXTLOOP do the same.
unfoldable pub turn_by : Code → Look → ℕ → List ℕ → Verb → Statement → Result Turn Fault
turn_by c l i d (verb.At x) s = on_place (worked_of c d (c.items s.a)) (act_at c d x s)
turn_by c l i d verb.Goto s = goes (flow.Goto s.c)
turn_by c l i d verb.IfZero s = on_number (value_at c d s.b) (if_zero s.c)
turn_by c l i d verb.Call s = goes (flow.Call s.c)
turn_by c l i d verb.Return s = goes flow.Return
turn_by c l i d verb.Stop s = goes flow.Stop
turn_by c l i d verb.Computed s = on_number (value_at c d s.b) (choose i s.a)
turn_by c l i d verb.For s = enters c l d s
turn_by c l i d verb.LoopEnd s = repeats c l d
turn_by c l i d verb.ExitLoop s = exits c l
turn_by c l i d verb.NextLoop s = repeats c l d
turn_by c l i d verb.OnError s = goes (flow.Arm s.c)
turn_by c l i d verb.OffError s = goes flow.Disarm
turn_by c l i d verb.Bad s = Err fault.Malformed

unfoldable pub turn_of : Code → Look → ℕ → List ℕ → Result Turn Fault
turn_of c l i d = turn_by c l i d (verb_of (c.statement i).code) (c.statement i)
