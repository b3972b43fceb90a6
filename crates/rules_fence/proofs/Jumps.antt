-- Jumps of a fenced unit over valid data (document 01, "Fence rules"): they store nothing, and the numbers that they are worked out from give
-- neither 21 nor 22.
-- Assumes nothing.
use Rattle.std.specs.Prelude.{Result, Err, Ok, None, Option}
use Rattle.rules.specs.declared.Fault.{Fault}
use Prim.Native.Nat.{ℕ}
use mathlib.Core.Path.{◌≡◌, refl}
use mathlib.Core.Bool.{true, false}
use mathlib.Core.List.{List}
use lib.IntN.{ℤ}
use lib.ListN.{length}
use Rattle.rules_unit.specs.Codes.{Code}
use Rattle.rules_unit.specs.Sound.{SoundCode}
use Rattle.rules_run.specs.declared.Span.{Span}
use Rattle.rules_run.specs.declared.Worked.{Worked}
use Rattle.rules_run.specs.declared.Worked.TheVariants as worked
use Rattle.rules_run.specs.declared.Flow.{Flow}
use Rattle.rules_run.specs.Evaluation.{number_of}
use Rattle.rules_run.specs.Turns.{on_number}
use Rattle.rules_fence.specs.Destinations.{AllValid}
use Rattle.rules_fence.proofs.Elements.{span_reads}
use Rattle.rules_fence.proofs.Mild.{mild_num, mild_plain, mild_value}
use Rattle.rules_fence.proofs.Moves.{TurnOk, failed_ok, goes_ok}
use Rattle.rules_fence.proofs.Places.{WorkedOk}

pub on_number_lem : (c : Code) (d : List ℕ) (M : Type 0) (r : Result ℤ Fault) (k : ℤ → Flow) → mild_num false r ≡ true → TurnOk c d None M (on_number r k)
on_number_lem c d M (Ok z) k m = goes_ok c d None M (k z)
on_number_lem c d M (Err x) k m = failed_ok c d None M x (mild_plain M x m)

module _ (c : Code) (s : SoundCode c) (d : List ℕ) (e : length d ≡ c.size) (v : AllValid c d) where
  pub number_mild : (span : Option Span) (w : Result Worked Fault) → WorkedOk c false span w → mild_num false (number_of c d w) ≡ true
  number_mild span (Ok (worked.Number z)) o = refl
  number_mild span (Ok (worked.Place true a n)) o = mild_value false (span_reads c s d e v o.known o.kind o.some o.fenced)
  number_mild span (Ok (worked.Place false a n)) o = refl
  number_mild span (Ok (worked.Text p l)) o = refl
  number_mild span (Err x) o = o
