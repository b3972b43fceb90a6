-- What a loop end, NEXTLOOP and EXITLOOP answer, one law for each way out of the code. Signed numbers come as the code's own copies of them.
-- Assumes nothing.
use Rattle.std.specs.Prelude.{Result, Err, Ok}
use Prim.Native.Nat.{ℕ, zero, suc, ◌+◌, ◌^◌, ◌<◌}
use native.Mathlib.Omega.{arith}
use mathlib.Core.Path.{◌≡◌, refl, sym, ◌∙◌}
use mathlib.Core.Bool.{Bool, true, false, not}
use mathlib.Core.List.{List}
use lib.IntN.{ℤ, ◌+ℤ◌}
use lib.ListN.{take, drop}
use mir.Syntax.{w16, w64}
use mir.Val.{Fits, SFits, to_z, of_z}
use borrow.Author.Tests.{ne_eqb, not-true, not-false}
use Rattle.rules.specs.declared.Fault.{Fault}
use Rattle.rules.specs.declared.Fault.TheVariants as fault
use Rattle.rules.specs.Values.{Val, read_of}
use Rattle.rules.specs.Arithmetic.{add_of}
use Rattle.rules.proofs.Signed.{back, again, val_any}
use Rattle.rules.proofs.Range.{of_range, range_kept}
use Rattle.rules_unit.specs.declared.Parts.{Parts}
use Rattle.rules_unit.specs.declared.Statement.{Statement}
use Rattle.rules_unit.specs.Codes.{Code}
use Rattle.rules_unit.specs.Decode.{SoundDialect, code_of}
use Rattle.rules_unit.specs.Sound.{SoundCode}
use Rattle.rules_run.specs.declared.Flow.{Flow}
use Rattle.rules_run.specs.declared.Flow.TheVariants as flow
use Rattle.rules_run.specs.declared.Turn.{Turn}
use Rattle.rules_run.specs.declared.Look.{Look}
use Rattle.rules_run.specs.Evaluation.{worked_of}
use Rattle.rules_run.specs.States.{LoopSound, LookSound}
use Rattle.rules_run.specs.Turns.{goes, on_place, testb, controls, entry_of, pass_flow, pass_at, repeats, exits}
use Rattle.rules_run.proofs.SoundRuns.{end_inside}
use Rattle.rules_run.proofs.OpenLoops as loops
use Rattle.run_passes.specs.Passes.{pass_by}

-- ---- where a pass goes on; s is the entry as the code decodes it

module _ (c : Code) (l : Look) (s : Statement) {v : ℤ} (es : s ≡ entry_of c l) (fv : SFits w64 v) (b : Bool) (x y : ℤ)
    (ex : x ≡ l.last.limit) (ey : y ≡ l.last.step) (e : b ≡ testb (to_z w64 (of_z w64 v)) x y) where
  told : b ≡ testb v l.last.limit l.last.step
  told = rw (back fv, ex, ey) at e

  pub flow_again : b ≡ true → flow.Goto (l.last.entry + 1) ≡ pass_flow c l v
  flow_again h = rw (← told, h)

  pub flow_out : b ≡ false → flow.Leave (s.c + 1) ≡ pass_flow c l v
  flow_out h = rw (← told, h, es)

-- ---- the step is added; r is what the callee answered

module _ (c : Code) (l : Look) (a n : ℕ) (t : Result Turn Fault) (x y : ℤ) (r : Result ℤ Fault) (fx : SFits w64 x) (ey : y ≡ l.last.step)
    (q : r ≡ add_of c.dialect.top (to_z w64 (of_z w64 x)) y) where
  sum : r ≡ add_of c.dialect.top x l.last.step
  sum = rw (back fx, ey) at q

  pub sum_known : {v : ℤ} (g : Flow) → r ≡ Ok v → SFits w64 v → g ≡ pass_flow c l (to_z w64 (of_z w64 v)) → t ≡ controls a n (to_z w64 (of_z w64 v)) g → t ≡ pass_by c l a n x
  unfolding pass_by
  sum_known g h fv i z = rw (sym sum ∙ h) (rw (i, back fv) at z)

  pub sum_failed : (f : Fault) → r ≡ Err f → t ≡ Err f → t ≡ pass_by c l a n x
  unfolding pass_by
  sum_failed f h z = rw (sym sum ∙ h) z

-- ---- the control place is found and read

module _ (u : List ℕ) (p : Parts) (l : Look) (d : List ℕ) (decimal : Bool) (a n : ℕ) (t : Result Turn Fault) where
  module _ (h : not decimal ≡ false) (r : Result ℤ Fault) (q : r ≡ read_of p.dialect.limit p.dialect.sign (take n (drop a d))) where
    pub read_known : {x : ℤ} → r ≡ Ok x → SFits w64 x → t ≡ pass_by (code_of u p) l a n (to_z w64 (of_z w64 x)) → t ≡ pass_at (code_of u p) l d decimal a n
    unfolding pass_by
    read_known g f z = rw (not-false decimal h, sym q ∙ g) (rw (back f) at z)

-- ---- the loop opened last

-- Its entry is a statement of the unit.
module _ (u : List ℕ) (p : Parts) (l : Look) (known : LookSound (code_of u p) l) (some : l.opened ≡ 0 → ⊥) where
  pub last_sound : LoopSound (code_of u p) l.last
  last_sound = known.last (omega (arith, ne_zero l.opened some))
    where
      ne_zero : (n : ℕ) → (n ≡ 0 → ⊥) → 0 < n
      ne_zero zero h = absurd (h refl)
      ne_zero (suc n) h = omega arith

  pub last_low : l.last.entry < p.n
  last_low = last_sound.low

-- So is the loop end that the entry names. Here s is the entry as the code decodes it.
module _ (u : List ℕ) (p : Parts) (l : Look) (s : Statement) (e : s ≡ entry_of (code_of u p) l) (known : LookSound (code_of u p) l) (some : l.opened ≡ 0 → ⊥)
    (code : SoundCode (code_of u p)) (most : p.n < 65536) where
  pub last_end : s.c < 65535
  last_end = rw e (omega (arith, end_inside (code_of u p) code l.last.entry (last_low u p l known some) (last_sound u p l known some).enters))

  pub last_behind : Fits w16 (s.c + 1)
  last_behind = record { fits = omega (arith, last_end) }

-- ---- the whole

module _ (c : Code) (l : Look) (t : Result Turn Fault) where
  pub repeats_none : (d : List ℕ) → l.opened ≡ 0 → t ≡ Err fault.NoLoop → t ≡ repeats c l d
  repeats_none d h q = q ∙ sym (loops.repeats_none c l d h)

  pub exits_none : l.opened ≡ 0 → t ≡ Err fault.NoLoop → t ≡ exits c l
  exits_none h q = q ∙ sym (loops.exits_none c l h)

  -- s is the entry as the code decodes it
  module _ (some : l.opened ≡ 0 → ⊥) (s : Statement) (e : s ≡ entry_of c l) where
    pub repeats_at : (d : List ℕ) → t ≡ on_place (worked_of c d (c.items s.a)) (pass_at c l d) → t ≡ repeats c l d
    unfolding repeats
    repeats_at d q = rw (ne_eqb l.opened 0 some, ← e) q

    pub exits_out : t ≡ goes (flow.Leave (s.c + 1)) → t ≡ exits c l
    unfolding exits
    exits_out q = rw (ne_eqb l.opened 0 some, ← e) q
