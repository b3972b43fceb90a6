-- A run keeps the length of the data: every store of a unit that passes the check has room (document 01, "Moves and arithmetic").
-- Assumes nothing.
use Rattle.rules_unit.specs.declared.Dialect.{Dialect}
use Rattle.std.specs.Prelude.{Ok, Option, None, Some}
use Prim.Native.Nat.{ℕ, ◌-◌}
use native.Mathlib.Omega.{arith}
use mathlib.Core.Path.{◌≡◌, refl, ◌∙◌}
use mathlib.Core.List.{List}
use lib.Dec.{eqb}
use lib.ListN.{length, get_or}
use Rattle.rules.specs.Values.{Limit, Top}
use Rattle.rules.proofs.Walk.{cond_case}
use Rattle.rules_unit.specs.declared.Parts.{Parts}
use Rattle.rules_unit.specs.Codes.{Code}
use Rattle.rules_unit.specs.Decode.{SoundDialect, eighteen, mark_of, dialect_of, parts_of, code_of}
use Rattle.rules_unit.specs.Checks.{check_of}
use Rattle.rules_unit.proofs.Sound.{passed_parts}
use Rattle.rules_run.specs.declared.State.{State}
use Rattle.rules_run.specs.Turns.{turn_of}
use Rattle.rules_run.specs.States.{look_of}
use Rattle.rules_run.specs.Runs.{run_from}
use Rattle.rules_run.proofs.Outside.{turn_length}
use Rattle.rules_run.proofs.Room.{turn_room}
use Rattle.rules_run.proofs.Steps.{every_run}

-- The dialect of eighteen digits.
eighteen_sound : SoundDialect eighteen
eighteen_sound =
    record {
      limit = record { most = omega arith };
      letters = record { above = omega arith; bytes = omega arith };
      bound = record { some = omega arith; most = omega arith };
      tens = refl;
    }

-- Whatever the mark is, the dialect is sound.
pub parts_dialect : (u : List ℕ) → SoundDialect (parts_of u).dialect
unfolding mark_of parts_of
parts_dialect u =
    cond_case Sound (eqb (get_or u (length u - 2) 0) 0x44) _ None
    (λ _. cond_case Sound (eqb (get_or u (length u - 1) 0) 0x42) (Some eighteen) None (λ _. eighteen_sound) (λ _. eighteen_sound))
    (λ _. eighteen_sound)
  where
    Sound : Option Dialect → Type 0
    Sound m = SoundDialect (dialect_of m)

-- The data keeps its length.
pub run_length : (c : Code) → Limit c.dialect.limit → Top c.dialect.top → (m : ℕ) (s : State) (d : List ℕ) (k : ℕ)
    → length (run_from c m s d k).bytes ≡ length d
run_length c limit bound =
    every_run c (λ m s d k r. length r.bytes ≡ length d) (λ m s d k h. refl) (λ s d k h. refl) (λ m s d k f h q. refl)
    (λ m s s' d k r h q x. x ∙ turn_length c d (turn_of c (look_of s) s.at d) (turn_room c d limit bound (look_of s) s.at))

module _ (u : List ℕ) (p : Parts) (e : check_of u ≡ Ok p) where
  pub passed_dialect : SoundDialect p.dialect
  passed_dialect = rw (passed_parts u p e) (parts_dialect u)

  pub passed_length : (m : ℕ) (s : State) (d : List ℕ) (k : ℕ) → length (run_from (code_of u p) m s d k).bytes ≡ length d
  passed_length = run_length (code_of u p) passed_dialect.limit passed_dialect.bound
