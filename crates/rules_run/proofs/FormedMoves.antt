-- Moves, counts and jumps that answer no Malformed, where what they are given is none (document 01, "Moves and arithmetic").
--   Formed t    the turn t is no Malformed
-- Assumes nothing.
use Rattle.std.specs.Prelude.{Result, Err, Ok}
use Prim.Native.Nat.{ℕ}
use mathlib.Core.Path.{◌≡◌, refl}
use mathlib.Core.Bool.{Bool, true, false, cond}
use mathlib.Core.List.{List}
use lib.IntN.{ℤ, pos, ◌+ℤ◌, ◌-ℤ◌}
use lib.ListN.{take, drop}
use Rattle.rules.specs.declared.Fault.{Fault}
use Rattle.rules.specs.Moves.{alpha_of}
use Rattle.rules_unit.specs.declared.Sort.{Sort}
use Rattle.rules_unit.specs.Codes.{Code}
use Rattle.rules_run.specs.declared.Worked.{Worked}
use Rattle.rules_run.specs.declared.Worked.TheVariants as worked
use Rattle.rules_run.specs.declared.Write.{Write}
use Rattle.rules_run.specs.declared.Flow.{Flow}
use Rattle.rules_run.specs.declared.Turn.{Turn}
use Rattle.rules_run.specs.Evaluation.{read_at}
use Rattle.rules_run.specs.Turns.{stores, move_number, move_num, move_worked, counted, on_number}
use Rattle.rules_run.proofs.Faults.{passes, kept_passes, read_passes, alpha_passes}
use Rattle.rules_run.proofs.Formed.{formedb}
use Rattle.rules_run.proofs.Comes.{Comes}

-- This is a named record, so that a search finds its argument.
pub record Formed (t : Result Turn Fault) : Type 0 where
  pub formed : passes formedb t ≡ true

pub formed_failed : (e : Fault) → formedb e ≡ true → Formed (Err e)
formed_failed e m = record { formed = m }

pub formed_stores : (w : Write) → Formed (stores w)
formed_stores w = record { formed = refl }

formed_cond : (t : Bool) (x y : Result Turn Fault) → Formed x → Formed y → Formed (cond t x y)
formed_cond true x y f g = f
formed_cond false x y f g = g

formed_number : (decimal : Bool) (a n : ℕ) (v : ℤ) → Formed (move_number decimal a n v)
formed_number decimal a n v = search (formed_cond, formed_stores)

pub formed_num : (decimal : Bool) (a n : ℕ) (r : Result ℤ Fault) → passes formedb r ≡ true → Formed (move_num decimal a n r)
formed_num decimal a n (Ok v) m = formed_number decimal a n v
formed_num decimal a n (Err e) m = formed_failed e m

pub formed_on : (r : Result ℤ Fault) (k : ℤ → Flow) → passes formedb r ≡ true → Formed (on_number r k)
formed_on (Ok v) k m = record { formed = refl }
formed_on (Err e) k m = formed_failed e m

module _ (c : Code) (d : List ℕ) where
  pub read_formed : (a n : ℕ) → passes formedb (read_at c d a n) ≡ true
  read_formed a n = read_passes formedb refl refl c.dialect.limit c.dialect.sign (take n (drop a d))

  alpha_formed : (s : List ℕ) → passes formedb (alpha_of c.dialect.top s) ≡ true
  alpha_formed s = alpha_passes formedb refl refl c.dialect.top s

  pub formed_worked : (k : Sort) (decimal : Bool) (a n : ℕ) (w : Result Worked Fault) → Comes k w → Formed (move_worked c d decimal a n w)
  formed_worked k decimal a n (Ok (worked.Number v)) m = formed_number decimal a n v
  formed_worked k decimal a n (Ok (worked.Place number b l)) m = search (formed_cond, formed_num, formed_stores, read_formed, alpha_formed)
  formed_worked k decimal a n (Ok (worked.Text p l)) m = search (formed_cond, formed_num, formed_stores, alpha_formed)
  formed_worked k decimal a n (Err e) m = formed_failed e m

  pub counted_formed : (up : Bool) (r : Result ℤ Fault) → passes formedb r ≡ true → passes formedb (counted c.dialect.top up r) ≡ true
  counted_formed true (Ok v) m = kept_passes formedb refl c.dialect.top (v +ℤ pos 1)
  counted_formed false (Ok v) m = kept_passes formedb refl c.dialect.top (v -ℤ pos 1)
  counted_formed true (Err e) m = m
  counted_formed false (Err e) m = m
