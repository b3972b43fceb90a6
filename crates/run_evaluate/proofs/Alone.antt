-- An expression that is a reference without bounds alone: 02, the number of the field, 00.
-- Assumes nothing.
use Rattle.std.specs.Prelude.{Result}
use Rattle.rules.specs.declared.Fault.{Fault}
use mathlib.Core.Path.{◌≡◌, refl, sym, ◌∙◌}
use mathlib.Core.Bool.{Bool, true}
use mathlib.Core.List.{List, []}
use Prim.Native.Nat.{ℕ, ◌+◌, ◌<◌}
use native.Mathlib.Omega.{arith}
use lib.Dec.{ltb, eqb}
use lib.IntN.{pos}
use lib.ListN.{length, get_or}
use borrow.Author.Tests.{ltb-true, eqb-true}
use Rattle.unit_decode.specs.declared.filled.Coded.{Coded}
use Rattle.unit_decode.specs.Units.{code_in}
use Rattle.rules_unit.specs.declared.Form.TheVariants as form
use Rattle.rules_unit.specs.Decode.{SoundDialect, word_at, items_at}
use Rattle.rules_run.specs.declared.Worked.{Worked}
use Rattle.rules_run.specs.Evaluation.{place_by, worked_of}
use Rattle.rules.specs.Tests.{◌and◌}
use Rattle.rules.proofs.Tests.{both}
use Rattle.run_evaluate.specs.Steps.{loneb}
use Rattle.run_evaluate.proofs.Held.{vals_zero}
use Rattle.run_evaluate.proofs.Coded.{code_field}
use Rattle.run_evaluate.proofs.Steps.{rest_start, field_place}

-- What the tests of `loneb` tell where all hold.
record Lone (es : List ℕ) (i : ℕ) : Type 0 where
  there : i < length es
  field : get_or es i 0 ≡ 2
  closes : ltb (i + 3) (length es) and eqb (get_or es (i + 3) 0) 0 ≡ true
  room : i + 3 < length es

-- t is what the code's own test answers
module _ (es : List ℕ) (i : ℕ) (t : Bool) (et : t ≡ loneb es i) (o : t ≡ true) where
  lone_tells : Lone es i
  lone_tells =
      let closes : Bool = ltb (i + 3) (length es) and eqb (get_or es (i + 3) 0) 0 in
      let first = (both (ltb i (length es)) (eqb (get_or es i 0) 2 and closes)).0 (sym et ∙ o) in
      let second = (both (eqb (get_or es i 0) 2) closes).0 first.1 in
      record {
        there = ltb-true i (length es) first.0;
        field = eqb-true (get_or es i 0) 2 second.0;
        closes = second.1;
        room = ltb-true (i + 3) (length es) ((both (ltb (i + 3) (length es)) (eqb (get_or es (i + 3) 0) 0)).0 second.1).0;
      }

  -- both bytes of the field's number are there
  pub lone_word : i + 1 + 1 < length es
  lone_word = omega (arith, lone_tells.room)

  -- w is what the field comes to
  pub lone_place : (co : Coded) (d : List ℕ) (f : ℕ) (w : Result Worked Fault) → SoundDialect co.parts.dialect → length d < 65536
      → f ≡ word_at es (i + 1) → w ≡ place_by (code_in co) d form.First f (pos 0) (pos 0) → w ≡ worked_of (code_in co) d (items_at es i)
  lone_place co d f w dialect size ef q =
      (field_place co d es i 0 [] (record { dialect = dialect; size = size; there = lone_tells.there; vals = vals_zero 0 })
      (code_field es i lone_tells.there lone_tells.field) (omega (arith, lone_tells.room)) f ef true (sym lone_tells.closes) w refl refl q).same
      ∙ rest_start (code_in co) d (items_at es i) []
