-- Every store of a statement has room, and what it stores can be made (document 01, "Moves and arithmetic"; request 4 of document 02, "FOR loops").
--   TurnRoom c size t    where the turn t stores, the data has room for it
-- Assumes nothing.
use Rattle.std.specs.Prelude.{Result, Err, Ok}
use Prim.Native.Nat.{ℕ, ◌^◌, ◌≤◌}
use native.Mathlib.Omega.{arith}
use mathlib.Core.Path.{refl}
use mathlib.Core.Bool.{Bool, true, false}
use mathlib.Core.List.{List}
use lib.Dec.{ltb, eqb}
use lib.IntN.{ℤ, pos, nat_abs, ◌+ℤ◌, ◌-ℤ◌}
use lib.ListN.{length, take, drop}
use Rattle.rules.specs.declared.Fault.{Fault}
use Rattle.rules.specs.declared.Fault.TheVariants as fault
use Rattle.rules.specs.Values.{Val, Limit, Top}
use Rattle.rules.specs.Arithmetic.{add_of, sub_of}
use Rattle.rules.specs.Moves.{alpha_of}
use Rattle.rules.proofs.Walk.{cond_either}
use Rattle.rules.proofs.Signed.{pow_le18}
use Rattle.rules.proofs.Range.{InRange, range_kept}
use Rattle.rules.proofs.Answers.{range_alpha}
use Rattle.rules_unit.specs.declared.Item.{Item}
use Rattle.rules_unit.specs.declared.Statement.{Statement}
use Rattle.rules_unit.specs.declared.Act.{Act}
use Rattle.rules_unit.specs.declared.Act.TheVariants as act
use Rattle.rules_unit.specs.declared.Verb.{Verb}
use Rattle.rules_unit.specs.declared.Verb.TheVariants as verb
use Rattle.rules_unit.specs.Table.{verb_of}
use Rattle.rules_unit.specs.Codes.{Code}
use Rattle.rules_unit.specs.Expressions.{next_at}
use Rattle.rules_run.specs.declared.Worked.{Worked}
use Rattle.rules_run.specs.declared.Worked.TheVariants as worked
use Rattle.rules_run.specs.declared.Write.{Write}
use Rattle.rules_run.specs.declared.Write.TheVariants as write
use Rattle.rules_run.specs.declared.Flow.{Flow}
use Rattle.rules_run.specs.declared.Turn.{Turn}
use Rattle.rules_run.specs.declared.Look.{Look}
use Rattle.rules_run.specs.Evaluation.{read_at, worked_of, number_of, value_at}
use Rattle.rules_run.specs.Turns.{Room, turn, move_num, move_worked, on_place, counted, count_at, case_at, edit_num, edit_at, on_number, if_zero, choose, on_value, fitsb, controls, enter_flow, enter_at, enters, entry_of, pass_flow, pass_at, on_loop, repeats, exits, act_at, turn_by, turn_of}
use Rattle.rules_run.proofs.Ranges.{range_up, read_range}
use Rattle.rules_run.proofs.Bounded.{Bounded, worked_bounded, number_bounded}

-- The turn's store has room.
abbrev pub TurnRoom : Code → ℕ → Result Turn Fault → Type 0
TurnRoom c size (Ok t) = Room c size t.write
TurnRoom c size (Err e) = Unit {0}

module _ (c : Code) (d : List ℕ) (limit : Limit c.dialect.limit) (bound : Top c.dialect.top) where
  abbrev Fit : Result Turn Fault → Type 0
  Fit t = TurnRoom c (length d) t

  most : 10 ^ c.dialect.limit ≤ 10 ^ 18
  most = pow_le18 (omega (arith, limit.most))

  read_in : (a n : ℕ) → InRange (10 ^ 18) (read_at c d a n)
  read_in a n = read_range c d (10 ^ 18) (omega arith) bound.most most a n

  alpha_in : (s : List ℕ) → InRange (10 ^ 18) (alpha_of c.dialect.top s)
  alpha_in s = range_up bound.most (alpha_of c.dialect.top s) (range_alpha c.dialect.top s)

  counted_in : (up : Bool) (r : Result ℤ Fault) → InRange (10 ^ 18) (counted c.dialect.top up r)
  counted_in true (Ok v) = range_up bound.most (add_of c.dialect.top v (pos 1)) (range_kept c.dialect.top (v +ℤ pos 1))
  counted_in false (Ok v) = range_up bound.most (sub_of c.dialect.top v (pos 1)) (range_kept c.dialect.top (v -ℤ pos 1))
  counted_in true (Err e) = tt
  counted_in false (Err e) = tt

  -- ---- at a place that was found

  abbrev At : Bool → ℕ → ℕ → Type 0
  At decimal a n = Bounded (10 ^ 18) c (length d) (Ok (worked.Place decimal a n))

  fit_num : (decimal : Bool) (a n : ℕ) → At decimal a n → (r : Result ℤ Fault) → InRange (10 ^ 18) r → Fit (move_num decimal a n r)
  fit_num true a n p (Ok v) x = (p.0, omega (arith, p.1 refl, limit.most), x)
  fit_num false a n p (Ok v) x = (p.0, x)
  fit_num decimal a n p (Err e) x = tt

  fit_worked : (decimal : Bool) (a n : ℕ) → At decimal a n → (w : Result Worked Fault) → Bounded (10 ^ 18) c (length d) w → Fit (move_worked c d decimal a n w)
  fit_worked decimal a n p (Ok (worked.Number v)) f = fit_num decimal a n p (Ok v) f
  fit_worked decimal a n p (Ok (worked.Place true b m)) f = fit_num decimal a n p (read_at c d b m) (read_in b m)
  fit_worked true a n p (Ok (worked.Place false b m)) f = fit_num true a n p (alpha_of c.dialect.top (take m (drop b d))) (alpha_in (take m (drop b d)))
  fit_worked false a n p (Ok (worked.Place false b m)) f = (p.0, f.0)
  fit_worked true a n p (Ok (worked.Text q l)) f = fit_num true a n p (alpha_of c.dialect.top (take l (drop q c.literals))) (alpha_in (take l (drop q c.literals)))
  fit_worked false a n p (Ok (worked.Text q l)) f = (p.0, f)
  fit_worked decimal a n p (Err e) f = tt

  fit_count : (up decimal : Bool) (a n : ℕ) → At decimal a n → Fit (count_at c d up decimal a n)
  fit_count up true a n p = fit_num true a n p (counted c.dialect.top up (read_at c d a n)) (counted_in up (read_at c d a n))
  fit_count up false a n p = tt

  fit_case : (up decimal : Bool) (a n : ℕ) → At decimal a n → Fit (case_at up decimal a n)
  fit_case up true a n p = tt
  fit_case up false a n p = p.0

  fit_edit_num : (r : Result ℤ Fault) (k : ℤ → Write) → InRange (10 ^ 18) r → ((v : ℤ) → Val (10 ^ 18) v → Room c (length d) (k v)) → Fit (edit_num r k)
  fit_edit_num (Ok v) k x h = h v x
  fit_edit_num (Err e) k x h = tt

  fit_edit : (decimal : Bool) (a n : ℕ) → At decimal a n → (w : Result Worked Fault) → Bounded (10 ^ 18) c (length d) w → (r : Result ℤ Fault) → InRange (10 ^ 18) r → Fit (edit_at decimal a n w r)
  fit_edit true a n p w f r x = tt
  fit_edit false a n p (Ok (worked.Number v)) f r x = tt
  fit_edit false a n p (Ok (worked.Place true b k)) f r x = tt
  fit_edit false a n p (Ok (worked.Place false b k)) f r x = fit_edit_num r (λ v. write.Edit a n b k v) x (λ v y. (p.0, y, f.0))
  fit_edit false a n p (Ok (worked.Text q l)) f r x = fit_edit_num r (λ v. write.EditLiteral a n q l v) x (λ v y. (p.0, y, f))
  fit_edit false a n p (Err e) f r x = tt

  fit_place : (w : Result Worked Fault) (k : Bool → ℕ → ℕ → Result Turn Fault) → Bounded (10 ^ 18) c (length d) w → ((decimal : Bool) (a n : ℕ) → At decimal a n → Fit (k decimal a n)) → Fit (on_place w k)
  fit_place (Ok (worked.Number v)) k f h = tt
  fit_place (Ok (worked.Place decimal a n)) k f h = h decimal a n f
  fit_place (Ok (worked.Text p l)) k f h = tt
  fit_place (Err e) k f h = tt

  fit_jump : (r : Result ℤ Fault) (k : ℤ → Flow) → Fit (on_number r k)
  fit_jump (Ok v) k = tt
  fit_jump (Err e) k = tt

  -- ---- statements

  fits : (is : List Item) → Bounded (10 ^ 18) c (length d) (worked_of c d is)
  fits = worked_bounded c d (10 ^ 18) (omega arith) bound.most most

  number_in : (is : List Item) → InRange (10 ^ 18) (number_of c d (worked_of c d is))
  number_in is = number_bounded c d (10 ^ 18) (omega arith) bound.most most (length d) (worked_of c d is) (fits is)

  fit_act : (x : Act) (s : Statement) (decimal : Bool) (a n : ℕ) → At decimal a n → Fit (act_at c d x s decimal a n)
  fit_act act.Set s decimal a n p = fit_worked decimal a n p (worked_of c d (c.items s.b)) (fits (c.items s.b))
  fit_act act.Clear s decimal a n p = p.0
  fit_act (act.Count up) s decimal a n p = fit_count up decimal a n p
  fit_act (act.Case upper) s decimal a n p = fit_case upper decimal a n p
  fit_act act.Edit s decimal a n p =
      fit_edit decimal a n p (worked_of c d (c.items s.b)) (fits (c.items s.b)) (number_of c d (worked_of c d (c.items s.c))) (number_in (c.items s.c))

  -- ---- the statements of a loop

  fit_value : (r : Result ℤ Fault) (k : ℤ → Result Turn Fault) → InRange (10 ^ 18) r → ((v : ℤ) → Val (10 ^ 18) v → Fit (k v)) → Fit (on_value r k)
  fit_value (Ok v) k x h = h v x
  fit_value (Err e) k x h = tt

  fit_controls : (a n : ℕ) → At true a n → (v : ℤ) → Val (10 ^ 18) v → (f : Flow) → Fit (controls a n v f)
  fit_controls a n p v x f =
      cond_either Fit (fitsb n v) (Ok (turn (write.Number a n v) f)) (Err fault.TooLong) (p.0, omega (arith, p.1 refl, limit.most), x) tt

  fit_enter : (s : Statement) (decimal : Bool) (a n : ℕ) → At decimal a n → Fit (enter_at c d s decimal a n)
  fit_enter s true a n p =
      fit_value (value_at c d s.b) _ (number_in (c.items s.b))
      (λ v x. fit_value (value_at c d (next_at c s.b)) _ (number_in (c.items (next_at c s.b)))
      (λ last y. fit_value (value_at c d (next_at c (next_at c s.b))) _ (number_in (c.items (next_at c (next_at c s.b))))
      (λ step z. cond_either Fit (eqb (nat_abs step) 0) (Err fault.ZeroStep) _ tt (fit_controls a n p v x (enter_flow s.c v last step)))))
  fit_enter s false a n p = tt

  fit_enters : (l : Look) (s : Statement) → Fit (enters c l d s)
  unfolding enters
  fit_enters l s =
      cond_either Fit (ltb l.opened 16) _ (Err fault.LoopsFull) (fit_place (worked_of c d (c.items s.a)) (enter_at c d s) (fits (c.items s.a)) (fit_enter s)) tt

  fit_pass : (l : Look) (decimal : Bool) (a n : ℕ) → At decimal a n → Fit (pass_at c l d decimal a n)
  fit_pass l true a n p =
      fit_value (read_at c d a n) _ (read_in a n)
      (λ x y. fit_value (add_of c.dialect.top x l.last.step) _ (range_up bound.most (add_of c.dialect.top x l.last.step) (range_kept c.dialect.top (x +ℤ l.last.step)))
      (λ v z. fit_controls a n p v z (pass_flow c l v)))
  fit_pass l false a n p = tt

  fit_loop : (l : Look) (t : Result Turn Fault) → Fit t → Fit (on_loop l t)
  fit_loop l t f = cond_either Fit (eqb l.opened 0) (Err fault.NoLoop) t tt f

  fit_repeats : (l : Look) → Fit (repeats c l d)
  unfolding repeats
  fit_repeats l = fit_loop l _ (fit_place (worked_of c d (c.items (entry_of c l).a)) (pass_at c l d) (fits (c.items (entry_of c l).a)) (fit_pass l))

  fit_exits : (l : Look) → Fit (exits c l)
  unfolding exits
  fit_exits l = fit_loop l _ tt

  fit_by : (l : Look) (i : ℕ) (v : Verb) (s : Statement) → Fit (turn_by c l i d v s)
  unfolding turn_by
  fit_by l i (verb.At x) s = fit_place (worked_of c d (c.items s.a)) (act_at c d x s) (fits (c.items s.a)) (fit_act x s)
  fit_by l i verb.Goto s = tt
  fit_by l i verb.IfZero s = fit_jump (number_of c d (worked_of c d (c.items s.b))) (if_zero s.c)
  fit_by l i verb.Call s = tt
  fit_by l i verb.Return s = tt
  fit_by l i verb.Stop s = tt
  fit_by l i verb.Computed s = fit_jump (number_of c d (worked_of c d (c.items s.b))) (choose i s.a)
  fit_by l i verb.For s = fit_enters l s
  fit_by l i verb.LoopEnd s = fit_repeats l
  fit_by l i verb.ExitLoop s = fit_exits l
  fit_by l i verb.NextLoop s = fit_repeats l
  fit_by l i verb.OnError s = tt
  fit_by l i verb.OffError s = tt
  fit_by l i verb.Bad s = tt

  pub turn_room : (l : Look) (i : ℕ) → TurnRoom c (length d) (turn_of c l i d)
  unfolding turn_of
  turn_room l i = fit_by l i (verb_of (c.statement i).code) (c.statement i)
