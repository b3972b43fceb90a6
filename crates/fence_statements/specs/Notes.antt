-- What is noted of the items of expressions: a byte for each offset, one list for expressions that are read and one for places that are written.
--   notedb notes e s         the items from the offset e on are noted, where the bounds s stand before them; where there are any, nothing is
--   note_at notes e s         the notes with that one more
--   Kept c dest es notes     of the expressions es, all that is noted keeps the rules, where `dest` says whether it is of a place that is written
--   KeptIf r c dest es notes    so it is if the breach r is none
--   Both c reads writes      of the unit in c, both lists are so; BothIf r c reads writes, if the breach r is none
-- Assumes nothing.
use Rattle.std.specs.Prelude.{◌≡◌, Bool, true, false, cond, List, ℕ, ltb, get_or, set}
use Rattle.rules_unit.specs.declared.Form.TheVariants as form
use Rattle.rules_unit.specs.Codes.{Code}
use Rattle.rules_unit.specs.Decode.{items_at}
use Rattle.rules_fence.specs.declared.Breach.{Breach}
use Rattle.rules_fence.specs.declared.Seen.{Seen}
use Rattle.rules_fence.specs.declared.Seen.TheVariants as seen
use Rattle.rules_fence.specs.Bounds.{boundedb}
use Rattle.rules_fence.specs.Breaches.{keepsb, breach_from}
use Rattle.unit_decode.specs.declared.filled.Coded.{Coded}
use Rattle.unit_decode.specs.Units.{code_in, expressions_in}

abbrev pub notedb : List ℕ → ℕ → Seen → Bool
notedb notes e s = cond (boundedb form.Subscript s) false (ltb 0 (get_or notes e 0))

abbrev pub note_at : List ℕ → ℕ → Seen → List ℕ
note_at notes e s = cond (boundedb form.Subscript s) notes (set notes e 1)

pub record Kept (c : Code) (dest : Bool) (es notes : List ℕ) : Type 0 where
  pub each : (e : ℕ) → ltb 0 (get_or notes e 0) ≡ true → keepsb (breach_from c dest seen.Nothing (items_at es e)) ≡ true

pub record KeptIf (r : Breach) (c : Code) (dest : Bool) (es notes : List ℕ) : Type 0 where
  pub so : keepsb r ≡ true → Kept c dest es notes

pub record Both (c : Coded) (reads writes : List ℕ) : Type 0 where
  pub of_reads : Kept (code_in c) false (expressions_in c) reads
  pub of_writes : Kept (code_in c) true (expressions_in c) writes

pub record BothIf (r : Breach) (c : Coded) (reads writes : List ℕ) : Type 0 where
  pub so : keepsb r ≡ true → Both c reads writes
