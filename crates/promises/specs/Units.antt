-- What the check of a unit promises (document 01, "The coded unit" and "Stops and their numbers").
--
--   passes_exactly    the check passes a unit exactly when it is sound, and then answers its parts
--   answers_exactly   every answer of the check is given exactly when what it says is so: the first check that does not hold, and where
--   checks_exactly    the same of whatever `dibol::check` may answer
--   for_shaped, for_sorted    what 5 and what 4 ask of a FOR (request 4 of document 02, "FOR loops")
--   row_behind        where the next of several expressions in a row starts
-- Assumes nothing.
use Rattle.rules_unit.specs.Table.{used}
use Rattle.rules_unit.specs.declared.Refusal.{Refusal}
use Rattle.std.specs.Prelude.{◌≡◌, false, ◌↔◌, List, ℕ, ◌-◌, ◌<◌, take, drop, Result, Ok}
use Rattle.std.proofs.Common.{subst}
use contract.Lifetimes
use Rattle.rules_unit.specs.declared.Parts.{Parts}
use Rattle.rules_unit.specs.declared.Item.TheVariants as item
use Rattle.rules_unit.specs.declared.Want.{Want}
use Rattle.rules_unit.specs.declared.Want.TheVariants as want
use Rattle.rules_unit.specs.Codes.{Code}
use Rattle.rules_unit.specs.Decode.{item_at, expressions_at, code_of}
use Rattle.rules_unit.specs.Expressions.{next_at}
use Rattle.rules_unit.specs.WellFormed.{WellFormed}
use Rattle.rules_unit.specs.Checks.{check_of}
use Rattle.rules_unit.specs.Sound.{ShapeSound, UsesSound, SoundUnit}
use Rattle.rules_unit.specs.Answers.{Says}
use Rattle.rules_unit.proofs.Items.{next_behind}
use Rattle.rules_unit.proofs.Table.{for_shape, for_uses}
use Rattle.rules_unit.proofs.WellFormed.{use_tells}
use Rattle.rules_unit.proofs.Sound.{passed_sound, sound_passed, check_says, check_only}
use Rattle.rules_fence.proofs.Sorts.{known_of}
use Rattle.dibol.proofs.check.Reads as check

pub passes_exactly : (u : List ℕ) (p : Parts) → (check_of u ≡ Ok p) ↔ SoundUnit u p
passes_exactly u p = (passed_sound u p, sound_passed u p)

pub answers_exactly : (u : List ℕ) (r : Result Parts Refusal) → (check_of u ≡ r) ↔ Says u r
answers_exactly u r = (λ e. subst (Says u) e (check_says u), check_only u r)

-- Of whatever `dibol::check` may answer: `Post` is what its `ensures` says of its argument a, the unit, and its result r.
pub checks_exactly : (κs : Lifetimes.Lfts 1) (a : _) (r : Result Parts Refusal) (s : _) → check.Post κs a r s → (x : Result Parts Refusal) → (r ≡ x) ↔ Says a.0.now x
checks_exactly κs a r s p x = rw p (answers_exactly a.0.now x)

-- ---- FOR: code 14

module _ (c : Code) (i : ℕ) (for : (c.statement i).code ≡ 14) where
  -- "Add an entry statement and an end statement.": 5 unless the loop end stands behind its FOR, inside the unit, with the code 15
  pub for_shaped : ShapeSound c i
      ↔ ((c.statement i).zero ≡ 0) × (i < (c.statement i).c) × ((c.statement i).c < c.statements) × ((c.statement (c.statement i).c).code ≡ 15)
  for_shaped = for_shape c i for

  -- "The control place is a decimal place; start, limit and step are numbers; another sort is 4."
  pub for_sorted : UsesSound c i
      ↔ WellFormed c want.DecimalPlace (c.items (c.statement i).a)
      × WellFormed c want.Number (c.items (c.statement i).b)
      × WellFormed c want.Number (c.items (next_at c (c.statement i).b))
      × WellFormed c want.Number (c.items (next_at c (next_at c (c.statement i).b)))
  for_sorted = for_uses c i for

-- "The second starts right behind the 00 that closes the first, and the third behind that of the second" (docs/ENCODING.md): the last byte before the next
-- expression is the end of this one.
pub row_behind : (u : List ℕ) (p : Parts) (w : Want) (e : ℕ) → WellFormed (code_of u p) w ((code_of u p).items e)
    → item_at (take p.e (drop (expressions_at p) u)) (next_at (code_of u p) e - 1) ≡ item.End
row_behind u p w e f = next_behind u p e (known_of (code_of u p) w e ((use_tells (code_of u p) (used w e false)).of f))
