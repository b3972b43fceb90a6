-- The open calls (document 01, "The coded unit" and "Stops and their numbers"): what CALL, RETURN and STOP do to them, and that no other
-- statement does anything; 24 and 25 are given exactly where the table says.
-- Assumes nothing.
use Prim.Native.Nat.{ℕ, ◌+◌, ◌-◌, ◌<◌, ◌≤◌}
use native.Mathlib.Omega.{arith}
use mathlib.Core.Path.{◌≡◌, refl, sym, ap, ◌∙◌, subst}
use mathlib.Core.Bool.{Bool, true, false}
use mathlib.Core.Logic.{◌↔◌}
use mathlib.Core.List.{List}
use lib.Dec.{ltb, eqb}
use lib.ListN.{get_or, set}
use borrow.Author.Tests.{ltb-true, ltb-false, lt-ltb, le-ltb, eqb-true, eqb-false, eq-eqb, ne_eqb}
use Rattle.rules.specs.declared.Fault.{Fault}
use Rattle.rules.specs.declared.Fault.TheVariants as fault
use Rattle.rules_unit.specs.declared.Verb.TheVariants as verb
use Rattle.rules_unit.specs.Codes.{Code}
use Rattle.rules_unit.specs.Table.{verb_of}
use Rattle.rules_unit.proofs.Table.{code_of_lem}
use Rattle.rules_run.specs.declared.Flow.{Flow}
use Rattle.rules_run.specs.declared.Flow.TheVariants as flow
use Rattle.rules_run.specs.declared.State.{State}
use Rattle.rules_run.specs.States.{look_of}
use Rattle.rules_run.specs.Turns.{turn_by, turn_of}
use Rattle.rules_run.specs.Runs.{Moved, to, stuck, moved_by, led_by, next_of}
use Rattle.rules_run.proofs.Cases.{MayFail, MayGo, turn_case}
use Rattle.rules_run.proofs.Traps.{error_case}

module _ (c : Code) (s : State) (d : List ℕ) where
  abbrev code : ℕ
  code = (c.statement s.at).code

  -- ---- a statement that is neither CALL nor RETURN

  -- A fault that it may give.
  abbrev Fails : Fault → Type 0
  Fails e = MayFail c (look_of s) d (verb_of code) (c.statement s.at) e

  -- It neither opens nor closes a call, and gives neither 24 nor 25.
  abbrev MovedKeeps : Moved → Type 0
  MovedKeeps (to t) = (t.depth ≡ s.depth) × (t.returns ≡ s.returns)
  MovedKeeps (stuck f) = Fails f

  may_keeps : (code ≡ 9 → ⊥) → (code ≡ 10 → ⊥) → (f : Flow) → MayGo c (look_of s) s.at d (verb_of code) (c.statement s.at) f → MovedKeeps (moved_by c.statements s f)
  unfolding moved_by
  may_keeps x y flow.Next h = (refl, refl)
  may_keeps x y (flow.Goto j) h = (refl, refl)
  may_keeps x y (flow.Call j) h = absurd (x (code_of_lem code verb.Call (omega arith) h.0))
  may_keeps x y flow.Return h = absurd (y (code_of_lem code verb.Return (omega arith) h))
  may_keeps x y flow.Stop h = (refl, refl)
  may_keeps x y (flow.Enter limit step) h = (refl, refl)
  may_keeps x y (flow.Leave j) h = (refl, refl)
  may_keeps x y (flow.Arm j) h = (refl, refl)
  may_keeps x y flow.Disarm h = (refl, refl)

  other_keeps : (code ≡ 9 → ⊥) → (code ≡ 10 → ⊥) → MovedKeeps (next_of c s d)
  unfolding turn_of
  other_keeps x y =
      turn_case (λ t. MovedKeeps (led_by c.statements s t)) c (look_of s) s.at d (verb_of code) (c.statement s.at)
      (λ e m. error_case MovedKeeps s e (λ z. m) (λ i q r. (refl, refl))) (λ w f m. may_keeps x y f m)

  -- ---- CALL, RETURN and STOP

  pub call_opens : code ≡ 9 → s.depth < 50
      → next_of c s d ≡ to (record { at = (c.statement s.at).c; depth = s.depth + 1; returns = set s.returns s.depth (s.at + 1); opened = s.opened; loops = s.loops; trap = s.trap })
  unfolding turn_of turn_by verb_of moved_by
  call_opens e h = rw (e, lt-ltb s.depth 50 h)

  pub call_full : code ≡ 9 → 50 ≤ s.depth → next_of c s d ≡ stuck fault.CallsFull
  unfolding turn_of turn_by verb_of moved_by
  call_full e h = rw (e, le-ltb s.depth 50 h)

  pub return_closes : code ≡ 10 → (k : ℕ) → s.depth ≡ k + 1
      → next_of c s d ≡ to (record { at = get_or s.returns k 0; depth = k; returns = set s.returns k 0; opened = s.opened; loops = s.loops; trap = s.trap })
  unfolding turn_of turn_by verb_of moved_by
  return_closes e k h =
      let q : s.depth - 1 ≡ k = omega arith in
      rw (e, ne_eqb s.depth 0 (λ z. omega arith)) (ap (λ (x : ℕ). to (record { at = get_or s.returns x 0; depth = x; returns = set s.returns x 0; opened = s.opened; loops = s.loops; trap = s.trap })) q)

  pub return_none : code ≡ 10 → s.depth ≡ 0 → next_of c s d ≡ stuck fault.NoCall
  unfolding turn_of turn_by verb_of moved_by
  return_none e h = rw (e, eq-eqb s.depth 0 h)

  pub stop_keeps : code ≡ 11 → next_of c s d ≡ to (record { at = c.statements; depth = s.depth; returns = s.returns; opened = s.opened; loops = s.loops; trap = s.trap })
  unfolding turn_of turn_by verb_of moved_by
  stop_keeps e = rw e

  -- ---- 24 and 25

  not_stuck : (t : State) (f : Fault) → to t ≡ stuck f → ⊥
  not_stuck t f e = let z : ◌≡◌ {A = ℕ} 0 1 = cc in omega arith

  pub full_exactly : (next_of c s d ≡ stuck fault.CallsFull) ↔ (code ≡ 9) × (50 ≤ s.depth)
  full_exactly = (to_full, λ h. call_full h.0 h.1)
    where
      not_full : stuck fault.NoCall ≡ stuck fault.CallsFull → ⊥
      not_full e = let z : ◌≡◌ {A = ℕ} 0 1 = cc in omega arith

      open_at : next_of c s d ≡ stuck fault.CallsFull → code ≡ 9 → (t : Bool) → ltb s.depth 50 ≡ t → (code ≡ 9) × (50 ≤ s.depth)
      open_at e q true h = absurd (not_stuck _ fault.CallsFull (sym (call_opens q (ltb-true s.depth 50 h)) ∙ e))
      open_at e q false h = (q, ltb-false s.depth 50 h)

      closed_at : next_of c s d ≡ stuck fault.CallsFull → code ≡ 10 → (t : Bool) → eqb s.depth 0 ≡ t → ⊥
      closed_at e q true h = not_full (sym (return_none q (eqb-true s.depth 0 h)) ∙ e)
      closed_at e q false h = not_stuck _ fault.CallsFull (sym (return_closes q (s.depth - 1) (omega (arith, eqb-false s.depth 0 h))) ∙ e)

      to_full : next_of c s d ≡ stuck fault.CallsFull → (code ≡ 9) × (50 ≤ s.depth)
      to_full e = by (eqb code 9) refl (eqb code 10) refl
        where
          by : (t : Bool) → eqb code 9 ≡ t → (v : Bool) → eqb code 10 ≡ v → (code ≡ 9) × (50 ≤ s.depth)
          by true q v r = open_at e (eqb-true code 9 q) (ltb s.depth 50) refl
          by false q true r = absurd (closed_at e (eqb-true code 10 r) (eqb s.depth 0) refl)
          by false q false r = absurd (subst MovedKeeps e (other_keeps (eqb-false code 9 q) (eqb-false code 10 r)))

  pub none_exactly : (next_of c s d ≡ stuck fault.NoCall) ↔ (code ≡ 10) × (s.depth ≡ 0)
  none_exactly = (to_none, λ h. return_none h.0 h.1)
    where
      not_none : stuck fault.CallsFull ≡ stuck fault.NoCall → ⊥
      not_none e = let z : ◌≡◌ {A = ℕ} 0 1 = cc in omega arith

      open_at : next_of c s d ≡ stuck fault.NoCall → code ≡ 9 → (t : Bool) → ltb s.depth 50 ≡ t → ⊥
      open_at e q true h = not_stuck _ fault.NoCall (sym (call_opens q (ltb-true s.depth 50 h)) ∙ e)
      open_at e q false h = not_none (sym (call_full q (ltb-false s.depth 50 h)) ∙ e)

      closed_at : next_of c s d ≡ stuck fault.NoCall → code ≡ 10 → (t : Bool) → eqb s.depth 0 ≡ t → (code ≡ 10) × (s.depth ≡ 0)
      closed_at e q true h = (q, eqb-true s.depth 0 h)
      closed_at e q false h = absurd (not_stuck _ fault.NoCall (sym (return_closes q (s.depth - 1) (omega (arith, eqb-false s.depth 0 h))) ∙ e))

      to_none : next_of c s d ≡ stuck fault.NoCall → (code ≡ 10) × (s.depth ≡ 0)
      to_none e = by (eqb code 9) refl (eqb code 10) refl
        where
          by : (t : Bool) → eqb code 9 ≡ t → (v : Bool) → eqb code 10 ≡ v → (code ≡ 10) × (s.depth ≡ 0)
          by true q v r = absurd (open_at e (eqb-true code 9 q) (ltb s.depth 50) refl)
          by false q true r = closed_at e (eqb-true code 10 r) (eqb s.depth 0) refl
          by false q false r = absurd (subst MovedKeeps e (other_keeps (eqb-false code 9 q) (eqb-false code 10 r)))

  -- A statement that is completed, and is neither CALL nor RETURN, keeps the open calls.
  pub calls_kept : (code ≡ 9 → ⊥) → (code ≡ 10 → ⊥) → (t : State) → next_of c s d ≡ to t → (t.depth ≡ s.depth) × (t.returns ≡ s.returns)
  calls_kept x y t e = subst MovedKeeps e (other_keeps x y)
