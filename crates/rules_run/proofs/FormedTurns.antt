-- A statement of a sound unit never answers Malformed, whatever the data are, where what it sees of the state is sound (document 01, "The coded unit"; request 4
-- of document 02, "FOR loops").
-- Assumes nothing.
use Rattle.std.specs.Prelude.{Result, Err, Ok, None}
use Rattle.rules.specs.declared.Fault.{Fault}
use Prim.Native.Nat.{ℕ, ◌<◌}
use native.Mathlib.Omega.{arith}
use mathlib.Core.Path.{◌≡◌, refl, sym, ap, ◌∙◌, subst}
use mathlib.Core.Bool.{Bool, true, false, false≢true}
use mathlib.Core.List.{List}
use lib.Dec.{ltb, eqb}
use lib.IntN.{ℤ, nat_abs, ◌+ℤ◌}
use lib.ListN.{get_or}
use borrow.Author.Tests.{eqb-false}
use Rattle.rules.specs.declared.Fault.TheVariants as fault
use Rattle.rules.specs.Arithmetic.{add_of}
use Rattle.rules.proofs.Walk.{cond_either, cond_case}
use Rattle.rules_unit.specs.declared.Statement.{Statement}
use Rattle.rules_unit.specs.declared.Act.{Act}
use Rattle.rules_unit.specs.declared.Act.TheVariants as act
use Rattle.rules_unit.specs.declared.Verb.{Verb}
use Rattle.rules_unit.specs.declared.Verb.TheVariants as verb
use Rattle.rules_unit.specs.Table.{verb_of, row_of, uses_by}
use Rattle.rules_unit.specs.declared.Sort.TheVariants as sort
use Rattle.rules_unit.specs.declared.Want.{Want}
use Rattle.rules_unit.specs.declared.Want.TheVariants as want
use Rattle.rules_unit.specs.Codes.{Code}
use Rattle.rules_unit.specs.Expressions.{place_sort, sort_at, next_at, suits, useb}
use Rattle.rules_unit.specs.Sound.{RowSound, SoundCode}
use Rattle.rules_unit.proofs.Sorts.{suits_right}
use Rattle.rules_unit.proofs.Statements.{uses_good, Used}
use Rattle.rules_unit.proofs.Table.{verb_for}
use Rattle.rules_run.specs.declared.Worked.{Worked}
use Rattle.rules_run.specs.declared.Worked.TheVariants as worked
use Rattle.rules_run.specs.declared.Write.{Write}
use Rattle.rules_run.specs.declared.Write.TheVariants as write
use Rattle.rules_run.specs.declared.Flow.{Flow}
use Rattle.rules_run.specs.declared.Turn.{Turn}
use Rattle.rules_run.specs.declared.Look.{Look}
use Rattle.rules_run.specs.States.{LookSound}
use Rattle.rules_run.specs.Evaluation.{read_at, worked_of, number_of, value_at}
use Rattle.rules_run.specs.Turns.{turn, on_place, clear_at, counted, count_at, case_at, edit_num, edit_by, edit_at, if_zero, choose, on_value, fitsb, controls, enter_flow, enter_at, enters, entry_of, pass_flow, pass_at, on_loop, repeats, exits, act_at, turn_by, turn_of}
use Rattle.rules_run.proofs.Faults.{passes, kept_passes}
use Rattle.rules_run.proofs.Formed.{formedb}
use Rattle.rules_run.proofs.Comes.{Comes}
use Rattle.rules_run.proofs.Sorted.{sort_comes}
use Rattle.rules_run.proofs.FormedMoves.{Formed, formed_failed, formed_stores, formed_num, formed_on, read_formed, formed_worked, counted_formed}

module _ (c : Code) (d : List ℕ) where
  formed_count : (up decimal : Bool) (a n : ℕ) → suits want.DecimalPlace (place_sort decimal) ≡ true → Formed (count_at c d up decimal a n)
  formed_count up true a n q = formed_num true a n (counted c.dialect.top up (read_at c d a n)) (counted_formed c d up (read_at c d a n) (read_formed c d a n))
  formed_count up false a n q = absurd (false≢true q)

  formed_case : (up decimal : Bool) (a n : ℕ) → suits want.AlphaPlace (place_sort decimal) ≡ true → Formed (case_at up decimal a n)
  formed_case up true a n q = absurd (false≢true q)
  formed_case up false a n q = formed_stores (write.Case a n up)

  -- A place of the sort that is wanted is found, where a number and a literal are not wanted.
  formed_place : (w : Want) (e : ℕ) (k : Bool → ℕ → ℕ → Result Turn Fault) → suits w sort.Number ≡ false → suits w sort.Text ≡ false → suits w (sort_at c e) ≡ true
      → ((decimal : Bool) (a n : ℕ) → suits w (place_sort decimal) ≡ true → Formed (k decimal a n)) → Formed (on_place (worked_of c d (c.items e)) k)
  formed_place w e k x y q h = by (worked_of c d (c.items e)) (sort_comes c d e (suits_right w (sort_at c e) q))
    where
      by : (o : Result Worked Fault) → Comes (sort_at c e) o → Formed (on_place o k)
      by (Ok (worked.Number v)) m = absurd (false≢true (sym x ∙ ap (suits w) (sym m) ∙ q))
      by (Ok (worked.Place decimal a n)) m = h decimal a n (ap (suits w) (sym m) ∙ q)
      by (Ok (worked.Text p l)) m = absurd (false≢true (sym y ∙ ap (suits w) (sym m) ∙ q))
      by (Err f) m = formed_failed f m

  number_formed : (e : ℕ) → suits want.Number (sort_at c e) ≡ true → passes formedb (number_of c d (worked_of c d (c.items e))) ≡ true
  number_formed e q = by (worked_of c d (c.items e)) (sort_comes c d e (suits_right want.Number (sort_at c e) q))
    where
      by : (o : Result Worked Fault) → Comes (sort_at c e) o → passes formedb (number_of c d o) ≡ true
      by (Ok (worked.Number v)) m = refl
      by (Ok (worked.Place true a n)) m = read_formed c d a n
      by (Ok (worked.Place false a n)) m = absurd (false≢true (ap (suits want.Number) (sym m) ∙ q))
      by (Ok (worked.Text p l)) m = absurd (false≢true (ap (suits want.Number) (sym m) ∙ q))
      by (Err f) m = m

  formed_edit_num : (r : Result ℤ Fault) (k : ℤ → Write) → passes formedb r ≡ true → Formed (edit_num r k)
  formed_edit_num (Ok v) k h = formed_stores (k v)
  formed_edit_num (Err e) k h = formed_failed e h

  -- A mask of the sort that is wanted is found.
  formed_mask : (a n e : ℕ) → suits want.AlphaSource (sort_at c e) ≡ true → (r : Result ℤ Fault) → passes formedb r ≡ true → Formed (edit_by a n (worked_of c d (c.items e)) r)
  formed_mask a n e q r h = by (worked_of c d (c.items e)) (sort_comes c d e (suits_right want.AlphaSource (sort_at c e) q))
    where
      by : (o : Result Worked Fault) → Comes (sort_at c e) o → Formed (edit_by a n o r)
      by (Ok (worked.Number v)) m = absurd (false≢true (ap (suits want.AlphaSource) (sym m) ∙ q))
      by (Ok (worked.Place true from k)) m = absurd (false≢true (ap (suits want.AlphaSource) (sym m) ∙ q))
      by (Ok (worked.Place false from k)) m = formed_edit_num r (λ v. write.Edit a n from k v) h
      by (Ok (worked.Text p l)) m = formed_edit_num r (λ v. write.EditLiteral a n p l v) h
      by (Err f) m = formed_failed f m

  formed_edit : (decimal : Bool) (a n : ℕ) → suits want.AlphaPlace (place_sort decimal) ≡ true → (m : ℕ) → suits want.AlphaSource (sort_at c m) ≡ true → (r : Result ℤ Fault) → passes formedb r ≡ true
      → Formed (edit_at decimal a n (worked_of c d (c.items m)) r)
  formed_edit true a n q m y r h = absurd (false≢true q)
  formed_edit false a n q m y r h = formed_mask a n m y r h

  formed_act : (x : Act) (s : Statement) → Used c (row_of (verb.At x)) s → Formed (on_place (worked_of c d (c.items s.a)) (act_at c d x s))
  formed_act act.Set s u =
      formed_place want.Place s.a (act_at c d act.Set s) refl refl (u 0 (omega arith))
      (λ t x n q. formed_worked c d (sort_at c s.b) t x n (worked_of c d (c.items s.b)) (sort_comes c d s.b (suits_right want.Source (sort_at c s.b) (u 1 (omega arith)))))
  formed_act act.Clear s u = formed_place want.Place s.a clear_at refl refl (u 0 (omega arith)) (λ t x n q. formed_stores (write.Clear x n t))
  formed_act (act.Count up) s u = formed_place want.DecimalPlace s.a (count_at c d up) refl refl (u 0 (omega arith)) (formed_count up)
  formed_act (act.Case upper) s u = formed_place want.AlphaPlace s.a (case_at upper) refl refl (u 0 (omega arith)) (formed_case upper)
  formed_act act.Edit s u =
      formed_place want.AlphaPlace s.a (act_at c d act.Edit s) refl refl (u 0 (omega arith))
      (λ t x n q. formed_edit t x n q s.b (u 1 (omega arith)) (number_of c d (worked_of c d (c.items s.c))) (number_formed s.c (u 2 (omega arith))))

  -- ---- the statements of a loop

  formed_value : (r : Result ℤ Fault) (k : ℤ → Result Turn Fault) → passes formedb r ≡ true → ((v : ℤ) → Formed (k v)) → Formed (on_value r k)
  formed_value (Ok v) k m h = h v
  formed_value (Err e) k m h = formed_failed e m

  formed_controls : (a n : ℕ) (v : ℤ) (f : Flow) → Formed (controls a n v f)
  formed_controls a n v f = cond_either Formed (fitsb n v) (Ok (turn (write.Number a n v) f)) (Err fault.TooLong) (record { formed = refl }) (formed_failed fault.TooLong refl)

  formed_enter : (s : Statement) → Used c (row_of verb.For) s → (decimal : Bool) (a n : ℕ) → suits want.DecimalPlace (place_sort decimal) ≡ true → Formed (enter_at c d s decimal a n)
  formed_enter s u true a n q =
      formed_value (value_at c d s.b) _ (number_formed s.b (u 1 (omega arith)))
      (λ v. formed_value (value_at c d (next_at c s.b)) _ (number_formed (next_at c s.b) (u 3 (omega arith)))
      (λ limit. formed_value (value_at c d (next_at c (next_at c s.b))) _ (number_formed (next_at c (next_at c s.b)) (u 4 (omega arith)))
      (λ step. cond_either Formed (eqb (nat_abs step) 0) (Err fault.ZeroStep) _ (formed_failed fault.ZeroStep refl)
      (formed_controls a n v (enter_flow s.c v limit step)))))
  formed_enter s u false a n q = absurd (false≢true q)

  formed_enters : (l : Look) (s : Statement) → Used c (row_of verb.For) s → Formed (enters c l d s)
  unfolding enters
  formed_enters l s u =
      cond_either Formed (ltb l.opened 16) _ (Err fault.LoopsFull) (formed_place want.DecimalPlace s.a (enter_at c d s) refl refl (u 0 (omega arith)) (formed_enter s u))
      (formed_failed fault.LoopsFull refl)

  formed_pass : (l : Look) (decimal : Bool) (a n : ℕ) → suits want.DecimalPlace (place_sort decimal) ≡ true → Formed (pass_at c l d decimal a n)
  formed_pass l true a n q =
      formed_value (read_at c d a n) _ (read_formed c d a n)
      (λ x. formed_value (add_of c.dialect.top x l.last.step) _ (kept_passes formedb refl c.dialect.top (x +ℤ l.last.step))
      (λ v. formed_controls a n v (pass_flow c l v)))
  formed_pass l false a n q = absurd (false≢true q)

  formed_loop : (l : Look) (t : Result Turn Fault) → (0 < l.opened → Formed t) → Formed (on_loop l t)
  formed_loop l t f =
      cond_case Formed (eqb l.opened 0) (Err fault.NoLoop) t (λ e. formed_failed fault.NoLoop refl) (λ e. f (omega (arith, eqb-false l.opened 0 e)))

  -- The control place of the loop opened last is of the sort that is wanted.
  abbrev Controlled : Look → Type 0
  Controlled l = 0 < l.opened → suits want.DecimalPlace (sort_at c (entry_of c l).a) ≡ true

  formed_repeats : (l : Look) → Controlled l → Formed (repeats c l d)
  unfolding repeats
  formed_repeats l o = formed_loop l _ (λ h. formed_place want.DecimalPlace (entry_of c l).a (pass_at c l d) refl refl (o h) (formed_pass l))

  formed_exits : (l : Look) → Formed (exits c l)
  unfolding exits
  formed_exits l = formed_loop l _ (λ h. record { formed = refl })

  -- It is, where the unit and what is seen are sound: it is the place of a FOR.
  for_controlled : SoundCode c → (l : Look) → LookSound c l → Controlled l
  for_controlled u l k h =
      let e = l.last.entry in
      let used = uses_good c e (u.statements e (k.last h).low).uses in
      subst (λ (v : Verb). useb c (get_or (uses_by c (row_of v) (entry_of c l)) 0 None) ≡ true) (verb_for (entry_of c l).code (k.last h).enters) (used 0 (omega arith))

  formed_by : (l : Look) → Controlled l → (i : ℕ) (v : Verb) (s : Statement) → RowSound c i (row_of v) s → Used c (row_of v) s → Formed (turn_by c l i d v s)
  unfolding turn_by
  formed_by l o i (verb.At x) s f u = formed_act x s u
  formed_by l o i verb.Goto s f u = record { formed = refl }
  formed_by l o i verb.IfZero s f u =
      formed_on (number_of c d (worked_of c d (c.items s.b))) (if_zero s.c) (number_formed s.b (u 1 (omega arith)))
  formed_by l o i verb.Call s f u = record { formed = refl }
  formed_by l o i verb.Return s f u = record { formed = refl }
  formed_by l o i verb.Stop s f u = record { formed = refl }
  formed_by l o i verb.Computed s f u =
      formed_on (number_of c d (worked_of c d (c.items s.b))) (choose i s.a) (number_formed s.b (u 1 (omega arith)))
  formed_by l o i verb.For s f u = formed_enters l s u
  formed_by l o i verb.LoopEnd s f u = formed_repeats l o
  formed_by l o i verb.ExitLoop s f u = formed_exits l
  formed_by l o i verb.NextLoop s f u = formed_repeats l o
  formed_by l o i verb.OnError s f u = record { formed = refl }
  formed_by l o i verb.OffError s f u = record { formed = refl }
  formed_by l o i verb.Bad s f u = absurd f.of_a

  pub turn_formed : SoundCode c → (l : Look) → LookSound c l → (i : ℕ) → i < c.statements → passes formedb (turn_of c l i d) ≡ true
  unfolding turn_of
  turn_formed u l k i h =
      let s = u.statements i h in
      (formed_by l (for_controlled u l k) i (verb_of (c.statement i).code) (c.statement i) s.shape.parts (uses_good c i s.uses)).formed
