-- Where statements lead, by their codes (document 01, "The coded unit"): GOTO, the test for zero and the computed GOTO; the codes that write their place a go
-- on at the next statement, but for FOR, and the others leave the data, but for those that go on with a loop.
-- Assumes nothing.
use Rattle.std.specs.Prelude.{Result, Err, Ok}
use Prim.Native.Nat.{ℕ, zero, suc, ◌+◌, ◌≤◌}
use native.Mathlib.Omega.{arith}
use mathlib.Core.Path.{◌≡◌, refl, sym, subst}
use mathlib.Core.Logic.{◌⊎◌, inl, inr}
use mathlib.Core.Bool.{Bool, true, false, cond}
use mathlib.Core.List.{List}
use lib.Dec.{leb, eqb}
use lib.IntN.{ℤ, pos, negsuc, nat_abs}
use borrow.Author.Tests.{leb-true, le-leb, eq-eqb, ne_eqb}
use Rattle.rules.specs.declared.Fault.{Fault}
use Rattle.rules.specs.declared.Fault.TheVariants as fault
use Rattle.rules.proofs.Walk.{cond_either}
use Rattle.rules_unit.specs.declared.Act.{Act}
use Rattle.rules_unit.specs.declared.Act.TheVariants as act
use Rattle.rules_unit.specs.declared.Verb.{Verb}
use Rattle.rules_unit.specs.declared.Verb.TheVariants as verb
use Rattle.rules_unit.specs.Codes.{Code}
use Rattle.rules_unit.specs.Table.{verb_of, WritesA, Repeats}
use Rattle.rules_unit.proofs.Table.{code_back, code_of_lem, writes_some}
use Rattle.rules_run.specs.declared.Flow.{Flow}
use Rattle.rules_run.specs.declared.Flow.TheVariants as flow
use Rattle.rules_run.specs.declared.Write.TheVariants as write
use Rattle.rules_run.specs.declared.State.{State}
use Rattle.rules_run.specs.declared.Turn.{Turn}
use Rattle.rules_run.specs.States.{gone, unhandled, look_of}
use Rattle.rules_run.specs.Evaluation.{worked_of, number_of}
use Rattle.rules_run.specs.Turns.{applied, on_number, if_zero, choose, exits, turn_by, turn_of}
use Rattle.rules_run.specs.Runs.{to, stuck, moved_by, led_by, next_of, data_by, data_after}
use Rattle.rules_run.specs.Answers.{GivesHere}
use Rattle.rules_run.proofs.Cases.{act_case}
use Rattle.rules_run.proofs.Traps.{error_stops}

choose_in : (i n k : ℕ) → 1 ≤ k → k ≤ n → choose i n (pos k) ≡ flow.Goto (i + k)
choose_in i n zero l m = absurd (omega arith)
choose_in i n (suc k) l m = rw (le-leb (suc k) n m)

choose_out : (i n : ℕ) (v : ℤ) → ((k : ℕ) → v ≡ pos k → 1 ≤ k → k ≤ n → ⊥) → choose i n v ≡ flow.Goto (i + n + 1)
choose_out i n (pos zero) h = refl
choose_out i n (pos (suc k)) h = by (leb (suc k) n) refl
  where
    by : (t : Bool) → leb (suc k) n ≡ t → cond t (flow.Goto (i + suc k)) (flow.Goto (i + n + 1)) ≡ flow.Goto (i + n + 1)
    by true e = absurd (h (suc k) refl (omega arith) (leb-true (suc k) n e))
    by false e = refl
choose_out i n (negsuc k) h = refl

module _ (c : Code) (s : State) (d : List ℕ) where
  pub goto_goes : (c.statement s.at).code ≡ 7 → next_of c s d ≡ to (gone s (c.statement s.at).c)
  unfolding turn_of turn_by verb_of moved_by
  goto_goes e = rw e

  module _ (v : ℤ) (q : number_of c d (worked_of c d (c.items (c.statement s.at).b)) ≡ Ok v) where
    pub zero_goes : (c.statement s.at).code ≡ 8 → nat_abs v ≡ 0 → next_of c s d ≡ to (gone s (c.statement s.at).c)
    unfolding turn_of turn_by verb_of moved_by
    zero_goes e h = rw (e, q, eq-eqb (nat_abs v) 0 h)

    pub other_falls : (c.statement s.at).code ≡ 8 → (nat_abs v ≡ 0 → ⊥) → next_of c s d ≡ to (gone s (s.at + 1))
    unfolding turn_of turn_by verb_of moved_by
    other_falls e h = rw (e, q, ne_eqb (nat_abs v) 0 h)

    pub computed_goes : (c.statement s.at).code ≡ 12 → (k : ℕ) → v ≡ pos k → 1 ≤ k → k ≤ (c.statement s.at).a → next_of c s d ≡ to (gone s (s.at + k))
    unfolding turn_of turn_by verb_of moved_by
    computed_goes e k w l m = rw (e, q, w, choose_in s.at (c.statement s.at).a k l m)

    pub computed_falls : (c.statement s.at).code ≡ 12 → ((k : ℕ) → v ≡ pos k → 1 ≤ k → k ≤ (c.statement s.at).a → ⊥)
        → next_of c s d ≡ to (gone s (s.at + (c.statement s.at).a + 1))
    unfolding turn_of turn_by verb_of moved_by
    computed_falls e h = rw (e, q, choose_out s.at (c.statement s.at).a v h)

-- ---- stores go on at the next statement, and jumps leave the data

abbrev Onward : Flow → Type 0
Onward flow.Next = Unit {0}
Onward (flow.Goto i) = ⊥
Onward (flow.Call i) = ⊥
Onward flow.Return = ⊥
Onward flow.Stop = ⊥
Onward (flow.Enter limit step) = ⊥
Onward (flow.Leave i) = ⊥
Onward (flow.Arm i) = ⊥
Onward flow.Disarm = ⊥

onward_to : (n : ℕ) (s t : State) (f : Flow) → Onward f → moved_by n s f ≡ to t → t ≡ gone s (s.at + 1)
unfolding moved_by
onward_to n s t flow.Next h e = cc
onward_to n s t (flow.Goto i) h e = absurd h
onward_to n s t (flow.Call i) h e = absurd h
onward_to n s t flow.Return h e = absurd h
onward_to n s t flow.Stop h e = absurd h
onward_to n s t (flow.Enter limit step) h e = absurd h
onward_to n s t (flow.Leave i) h e = absurd h
onward_to n s t (flow.Arm i) h e = absurd h
onward_to n s t flow.Disarm h e = absurd h

abbrev TurnOnward : Result Turn Fault → Type 0
TurnOnward (Ok t) = Onward t.flow
TurnOnward (Err e) = Unit {0}

-- Where no error is given.
led_onward : (n : ℕ) (s t : State) (r : Result Turn Fault) → TurnOnward r → ((x : Fault) → led_by n (unhandled s) r ≡ stuck x → ⊥) → led_by n s r ≡ to t → t ≡ gone s (s.at + 1)
led_onward n s t (Ok r) h g e = onward_to n s t r.flow h e
led_onward n s t (Err x) h g e = absurd (g x (error_stops s x))

-- The verb of a code from 1 to 6.
low_verb : (code : ℕ) → 1 ≤ code → code ≤ 6 → (x : Act) × (verb_of code ≡ verb.At x)
unfolding verb_of
low_verb zero l m = absurd (omega arith)
low_verb (suc zero) l m = (act.Set, refl)
low_verb (suc (suc zero)) l m = (act.Clear, refl)
low_verb (suc (suc (suc zero))) l m = (act.Count true, refl)
low_verb (suc (suc (suc (suc zero)))) l m = (act.Count false, refl)
low_verb (suc (suc (suc (suc (suc zero))))) l m = (act.Case true, refl)
low_verb (suc (suc (suc (suc (suc (suc zero)))))) l m = (act.Case false, refl)
low_verb (suc (suc (suc (suc (suc (suc (suc code))))))) l m = absurd (omega arith)

store_verb : (code : ℕ) → WritesA code → (code ≡ 14 → ⊥) → (x : Act) × (verb_of code ≡ verb.At x)
unfolding verb_of
store_verb code (inl h) n = low_verb code h.0 h.1
store_verb code (inr (inl e)) n = (act.Edit, rw e)
store_verb code (inr (inr e)) n = absurd (n e)

back_store : (x : Act) → WritesA (code_back (verb.At x))
back_store act.Set = inl (omega arith, omega arith)
back_store act.Clear = inl (omega arith, omega arith)
back_store (act.Count true) = inl (omega arith, omega arith)
back_store (act.Count false) = inl (omega arith, omega arith)
back_store (act.Case true) = inl (omega arith, omega arith)
back_store (act.Case false) = inl (omega arith, omega arith)
back_store act.Edit = inr (inl refl)

-- The codes that may store: those that write their place a, and those that go on with a loop.
abbrev Stores : ℕ → Type 0
Stores code = WritesA code ⊎ Repeats code

stores_some : (code : ℕ) → Stores code → 1 ≤ code
stores_some code (inl h) = writes_some code h
stores_some code (inr (inl e)) = omega (arith, e)
stores_some code (inr (inr e)) = omega (arith, e)

-- A turn that stores nothing.
abbrev Still : Result Turn Fault → Type 0
Still (Ok t) = t.write ≡ write.Nothing
Still (Err e) = Unit {0}

number_nothing : (r : Result ℤ Fault) (k : ℤ → Flow) → Still (on_number r k)
number_nothing (Ok v) k = refl
number_nothing (Err e) k = tt

module _ (c : Code) (s : State) (d : List ℕ) where
  pub stores_next : WritesA (c.statement s.at).code → ((c.statement s.at).code ≡ 14 → ⊥) → ((x : Fault) → GivesHere c s d x → ⊥) → (t : State) → next_of c s d ≡ to t
      → t ≡ gone s (s.at + 1)
  unfolding turn_of
  stores_next a n g t e =
      let x = store_verb (c.statement s.at).code a n in
      led_onward c.statements s t (turn_of c (look_of s) s.at d)
      (subst (λ (v : Verb). TurnOnward (turn_by c (look_of s) s.at d v (c.statement s.at))) (sym x.1)
      (act_case TurnOnward (λ f w. tt) (λ w. tt) c d (look_of s) s.at x.0 (c.statement s.at))) g e

  -- What is stored by a statement of another code: nothing.
  nothing_by : (v : Verb) → Still (turn_by c (look_of s) s.at d v (c.statement s.at)) ⊎ Stores (code_back v)
  unfolding turn_by exits
  nothing_by (verb.At x) = inr (inl (back_store x))
  nothing_by verb.Goto = inl refl
  nothing_by verb.IfZero = inl (number_nothing (number_of c d (worked_of c d (c.items (c.statement s.at).b))) (if_zero (c.statement s.at).c))
  nothing_by verb.Call = inl refl
  nothing_by verb.Return = inl refl
  nothing_by verb.Stop = inl refl
  nothing_by verb.Computed = inl (number_nothing (number_of c d (worked_of c d (c.items (c.statement s.at).b))) (choose s.at (c.statement s.at).a))
  nothing_by verb.For = inr (inl (inr (inr refl)))
  nothing_by verb.LoopEnd = inr (inr (inl refl))
  nothing_by verb.ExitLoop = inl (cond_either Still (eqb s.opened 0) (Err fault.NoLoop) _ tt refl)
  nothing_by verb.NextLoop = inr (inr (inr refl))
  nothing_by verb.OnError = inl refl
  nothing_by verb.OffError = inl refl
  nothing_by verb.Bad = inl tt

  still_keeps : (t : Result Turn Fault) → Still t → data_by c d t ≡ d
  unfolding applied
  still_keeps (Ok t) e = rw e
  still_keeps (Err x) e = refl

  pub jumps_keep_data : (WritesA (c.statement s.at).code → ⊥) → (Repeats (c.statement s.at).code → ⊥) → data_after c s d ≡ d
  unfolding turn_of
  jumps_keep_data x y = by (nothing_by (verb_of (c.statement s.at).code))
    where
      none : (code : ℕ) → Stores code → (WritesA code → ⊥) → (Repeats code → ⊥) → ⊥
      none code (inl h) x y = x h
      none code (inr h) x y = y h

      by : Still (turn_by c (look_of s) s.at d (verb_of (c.statement s.at).code) (c.statement s.at))
          ⊎ Stores (code_back (verb_of (c.statement s.at).code))
          → data_after c s d ≡ d
      by (inl e) = still_keeps (turn_by c (look_of s) s.at d (verb_of (c.statement s.at).code) (c.statement s.at)) e
      by (inr h) =
          let code = (c.statement s.at).code in
          absurd (none code (subst Stores (sym (code_of_lem code (verb_of code) (stores_some (code_back (verb_of code)) h) refl)) h) x y)
