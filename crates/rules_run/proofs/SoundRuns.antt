-- A run of a sound unit from a sound state hands back a sound state (document 01, "Stops and their numbers"; requests 4 and 6 of document 02, "FOR loops", "ONERROR
-- and OFFERROR").
--   In c                 what is asked of the numbers of the unit's dialect
--   FlowSound c l i f    f leads from i to a statement of the unit or to its end, and opens or closes a loop as a sound state may, where l is seen of it
--   TurnSound c l i t    so does the flow of the turn t, where it has one
-- Assumes nothing.
use Rattle.std.specs.Prelude.{Result, Err, Ok}
use Prim.Native.Nat.{ℕ, ◌^◌, ◌<◌, ◌≤◌}
use native.Mathlib.Omega.{arith}
use mathlib.Core.Path.{◌≡◌, ap, ◌∙◌, subst}
use mathlib.Core.List.{List}
use mathlib.Core.Logic.{inl, inr}
use lib.Dec.{ltb, eqb}
use lib.IntN.{ℤ}
use lib.ListN.{length}
use borrow.Author.Tests.{ltb-true, eqb-false}
use Rattle.rules.specs.declared.Fault.{Fault}
use Rattle.rules.specs.declared.Fault.TheVariants as fault
use Rattle.rules.specs.Values.{Val}
use Rattle.rules.proofs.Walk.{cond_case}
use Rattle.rules_unit.specs.declared.Statement.{Statement}
use Rattle.rules_unit.specs.declared.Role.{Role}
use Rattle.rules_unit.specs.declared.Row.{Row}
use Rattle.rules_unit.specs.declared.Verb.{Verb}
use Rattle.rules_unit.specs.declared.Verb.TheVariants as verb
use Rattle.rules_unit.specs.Table.{verb_of, row_of}
use Rattle.rules_unit.specs.declared.Parts.{Parts}
use Rattle.rules_unit.specs.Codes.{Code}
use Rattle.rules_unit.specs.Decode.{code_of}
use Rattle.rules_unit.specs.Checks.{check_of}
use Rattle.rules_unit.specs.Sound.{TableSound, EndSound, RoleSound, RowSound, SoundCode}
use Rattle.rules_unit.proofs.Sound.{passed_sound}
use Rattle.rules_unit.proofs.Table.{verb_for, code_of_lem}
use Rattle.rules_run.specs.declared.Flow.{Flow}
use Rattle.rules_run.specs.declared.Flow.TheVariants as flow
use Rattle.rules_run.specs.declared.Look.{Look}
use Rattle.rules_run.specs.declared.State.{State}
use Rattle.rules_run.specs.declared.Turn.{Turn}
use Rattle.rules_run.specs.Evaluation.{worked_of, value_at}
use Rattle.rules_run.specs.Turns.{turn_of}
use Rattle.rules_run.specs.States.{LoopSound, HandlerSound, Sound, called, returned, look_of, LookSound}
use Rattle.rules_run.specs.Runs.{Moved, to, stuck, moved_by, led_by, next_of, run_from, run_of}
use Rattle.rules_run.proofs.Bounded.{worked_bounded, number_bounded}
use Rattle.rules_run.proofs.Cases.{Near, MayGo, turn_case}
use Rattle.rules_run.proofs.Lengths.{passed_dialect}
use Rattle.rules_run.proofs.States.{gone_sound, called_sound, returned_sound, entered_sound, closed_sound, armed_sound, caught_sound, look_sound}
use Rattle.rules_run.proofs.Steps.{every_run}
use Rattle.rules_run.proofs.Traps.{error_case}
use Rattle.rules_run.proofs.Calls.{every_call}

-- Two facts on a dialect: there is room for the two truths, and no more digits are read than it has.
pub record In (c : Code) : Type 0 where
  pub truths : 1 < c.dialect.top
  pub digits : 10 ^ c.dialect.limit ≤ c.dialect.top

abbrev pub FlowSound : Code → Look → ℕ → Flow → Type 0
FlowSound c l i flow.Next = Unit {0}
FlowSound c l i (flow.Goto j) = j ≤ c.statements
FlowSound c l i (flow.Call j) = j ≤ c.statements
FlowSound c l i flow.Return = Unit {0}
FlowSound c l i flow.Stop = Unit {0}
FlowSound c l i (flow.Enter limit step) = (l.opened < 16) × LoopSound c (record { entry = i; limit = limit; step = step })
FlowSound c l i (flow.Leave j) = (0 < l.opened) × (j ≤ c.statements)
FlowSound c l i (flow.Arm j) = j < c.statements
FlowSound c l i flow.Disarm = Unit {0}

abbrev pub TurnSound : Code → Look → ℕ → Result Turn Fault → Type 0
TurnSound c l i (Ok t) = FlowSound c l i t.flow
TurnSound c l i (Err e) = Unit {0}

-- ---- where a statement leads

module _ (c : Code) (i : ℕ) where
  near_sound : (r : Row) (s : Statement) → RowSound c i r s → (t : ℕ) → Near i r s t → t ≤ c.statements
  near_sound r s f t (inl (q, e)) = let low : s.c < c.statements = subst (λ (x : Role). RoleSound c i x s.c) q f.of_c in omega arith
  near_sound r s f t (inr (inl (q, l))) = let table : TableSound c i s.a = subst (λ (x : Role). RoleSound c i x s.a) q f.of_a in omega (arith, table.inside)
  near_sound r s f t (inr (inr (q, e))) = let end : EndSound c i s.c = subst (λ (x : Role). RoleSound c i x s.c) q f.of_c in omega (arith, end.low)

-- The loop end of an open loop lies inside the unit.
pub end_inside : (c : Code) → SoundCode c → (e : ℕ) → e < c.statements → (c.statement e).code ≡ 14 → (c.statement e).c < c.statements
end_inside c u e h q =
    let row = subst (λ (v : Verb). RowSound c e (row_of v) (c.statement e)) (verb_for (c.statement e).code q) (u.statements e h).shape.parts in
    row.of_c.low

-- The handler of an ONERROR is a statement of the unit.
on_error_inside : (c : Code) (i : ℕ) (s : Statement) → verb_of s.code ≡ verb.OnError → RowSound c i (row_of (verb_of s.code)) s → s.c < c.statements
on_error_inside c i s q row = (subst (λ (v : Verb). RowSound c i (row_of v) s) q row).of_c

module _ (c : Code) (o : In c) (u : SoundCode c) (l : Look) (known : LookSound c l) (i : ℕ) (low : i < c.statements) (d : List ℕ) where
  in_range : (e : ℕ) (z : ℤ) → value_at c d e ≡ Ok z → Val c.dialect.top z
  in_range e z q =
      rw q at
      (number_bounded c d c.dialect.top o.truths (omega arith) o.digits (length d) (worked_of c d (c.items e))
      (worked_bounded c d c.dialect.top o.truths (omega arith) o.digits (c.items e)))

  may_sound : (f : Flow) → MayGo c l i d (verb_of (c.statement i).code) (c.statement i) f → FlowSound c l i f
  may_sound flow.Next m = tt
  may_sound (flow.Goto t) (inl m) = near_sound c i (row_of (verb_of (c.statement i).code)) (c.statement i) (u.statements i low).shape.parts t m
  may_sound (flow.Goto t) (inr (q, h, e)) = omega (arith, (known.last h).low, e)
  may_sound (flow.Call t) m = near_sound c i (row_of (verb_of (c.statement i).code)) (c.statement i) (u.statements i low).shape.parts t m.1
  may_sound flow.Return m = tt
  may_sound flow.Stop m = tt
  may_sound (flow.Enter limit step) (q, h, moves, e, x, y) = (
    h,
    record {
      low = low;
      enters = code_of_lem (c.statement i).code verb.For (omega arith) q;
      limit = in_range _ limit (e.ends ∙ ap Ok x);
      step = in_range _ step (e.steps ∙ ap Ok y);
      moves = moves;
    },
  )
  may_sound (flow.Leave t) (q, h, e) = (h, omega (arith, end_inside c u l.last.entry (known.last h).low (known.last h).enters, e))
  may_sound (flow.Arm t) (q, e) = omega (arith, on_error_inside c i (c.statement i) q (u.statements i low).shape.parts, e)
  may_sound flow.Disarm m = tt

  pub flow_sound : TurnSound c l i (turn_of c l i d)
  unfolding turn_of
  flow_sound = turn_case (TurnSound c l i) c l i d (verb_of (c.statement i).code) (c.statement i) (λ e m. tt) (λ w f m. may_sound f m)

-- ---- the state that it leads to

abbrev pub MovedSound : Code → Moved → Type 0
MovedSound c (to s) = Sound c s
MovedSound c (stuck f) = Unit {0}

pub moved_sound : {c : Code} {s : State} → Sound c s → s.at < c.statements → (f : Flow) → FlowSound c (look_of s) s.at f → MovedSound c (moved_by c.statements s f)
unfolding moved_by
moved_sound t l flow.Next h = gone_sound t (omega arith)
moved_sound t l (flow.Goto i) h = gone_sound t h
moved_sound {c} {s} t l (flow.Call i) h =
    cond_case (MovedSound c) (ltb s.depth 50) (to (called s i)) (stuck fault.CallsFull) (λ e. called_sound t h (omega arith) (ltb-true s.depth 50 e)) (λ e. tt)
moved_sound {c} {s} t l flow.Return h =
    cond_case (MovedSound c) (eqb s.depth 0) (stuck fault.NoCall) (to (returned s)) (λ e. tt) (λ e. returned_sound t (omega (arith, eqb-false s.depth 0 e)))
moved_sound t l flow.Stop h = gone_sound t (omega arith)
moved_sound t l (flow.Enter limit step) h = entered_sound t (omega arith) h.0 h.1
moved_sound t l (flow.Leave i) h = closed_sound t h.1 h.0
moved_sound t l (flow.Arm i) h = armed_sound t (omega arith) h
moved_sound t l flow.Disarm h = armed_sound t (omega arith) tt

pub led_sound : {c : Code} {s : State} → Sound c s → s.at < c.statements → (t : Result Turn Fault) → TurnSound c (look_of s) s.at t → MovedSound c (led_by c.statements s t)
led_sound t l (Ok x) h = moved_sound t l x.flow h
led_sound {c} {s} t l (Err e) h = error_case (MovedSound c) s e (λ z. tt) (λ i q r. caught_sound t r l (subst (HandlerSound c.statements) q t.handled))

-- ---- the run

module _ (c : Code) (o : In c) (u : SoundCode c) where
  pub step_sound : {s s' : State} (d : List ℕ) → Sound c s → s.at < c.statements → next_of c s d ≡ to s' → Sound c s'
  step_sound {s} d t h q = subst (MovedSound c) q (led_sound t h (turn_of c (look_of s) s.at d) (flow_sound c o u (look_of s) (look_sound t) s.at h d))

  pub run_sound : (m : ℕ) (s : State) (d : List ℕ) (k : ℕ) → Sound c s → Sound c (run_from c m s d k).outcome.state
  run_sound =
      every_run c (λ m s d k r. Sound c s → Sound c r.outcome.state) (λ m s d k h t. t) (λ s d k h t. t) (λ m s d k f h q t. t)
      (λ m s s' d k r h q x t. x (step_sound d t h q))

-- The dialect of a unit that passes.
pub passed_in : (u : List ℕ) (p : Parts) → check_of u ≡ Ok p → In (code_of u p)
passed_in u p e = let x = passed_dialect u p e in record { truths = x.bound.some; digits = omega (arith, x.tens) }

-- A call hands back a sound state, refused or not.
pub call_sound : (u : List ℕ) (p : Parts) → check_of u ≡ Ok p → (d : List ℕ) (s : State) (m : ℕ) → Sound (code_of u p) s
    → Sound (code_of u p) (run_of u d s m).outcome.state
call_sound u p e d s m t =
    every_call (λ r. Sound (code_of u p) r.outcome.state) u d s m (λ x b. t)
    (λ q f l g.
    let w : q ≡ p = cc in
    subst (λ (x : Parts). Sound (code_of u x) (run_from (code_of u q) m s d 0).outcome.state) w (run_sound (code_of u q) (passed_in u q f) (passed_sound u q f).code m s d 0 g))
