-- What each answer of the check says (document 01, "Stops and their numbers"): the first check that a unit does not pass, and where.
--   FirstField c i         the entry i is the first that breaks its rule
--   FirstStatement c i     the statement i is the first that is not sound, by 5
--   FirstExpression c i    the statement i is the first that is not sound, by 4
--   FirstThree u           checks 1, 2 and 3 are passed
--   Says u r               what the answer r says of the unit u
-- Assumes nothing.
use Rattle.rules_unit.specs.declared.Refusal.{Refusal}
use Rattle.rules_unit.specs.declared.Parts.{Parts}
use Rattle.std.specs.Prelude.{ℕ, ◌<◌, List, Result, Err, Ok}
use Rattle.rules_unit.specs.declared.Refusal.TheVariants as refusal
use Rattle.rules_unit.specs.Codes.{Code}
use Rattle.rules_unit.specs.Decode.{parts_of, code_of}
use Rattle.rules_unit.specs.Sound.{Filled, Ranges, EntryFits, ShapeSound, UsesSound, StatementSound, SoundUnit}

-- "3 | a field entry breaks its rule | first such entry"
pub record FirstField (c : Code) (i : ℕ) : Type 0 where
  pub low : i < c.fields
  pub before : (j : ℕ) → j < i → EntryFits c j
  pub breaks : EntryFits c i → ⊥

-- "then each statement in turn, 5 before a's 4 before b's 4"
pub record FirstStatement (c : Code) (i : ℕ) : Type 0 where
  pub low : i < c.statements
  pub before : (j : ℕ) → j < i → StatementSound c j
  pub breaks : ShapeSound c i → ⊥

pub record FirstExpression (c : Code) (i : ℕ) : Type 0 where
  pub low : i < c.statements
  pub before : (j : ℕ) → j < i → StatementSound c j
  pub shape : ShapeSound c i
  pub breaks : UsesSound c i → ⊥

-- "Checks 1, 2, 3 run in order"
pub record FirstThree (u : List ℕ) : Type 0 where
  pub filled : Filled u
  pub ranges : Ranges (parts_of u)
  pub entries : (i : ℕ) → i < (parts_of u).f → EntryFits (code_of u (parts_of u)) i

abbrev pub Says : List ℕ → Result Parts Refusal → Type 0
Says u (Ok p) = SoundUnit u p
Says u (Err refusal.NotFilled) = Filled u → ⊥
Says u (Err refusal.BadRange) = Filled u × (Ranges (parts_of u) → ⊥)
Says u (Err (refusal.BadField i)) = Filled u × Ranges (parts_of u) × FirstField (code_of u (parts_of u)) i
Says u (Err (refusal.BadExpression i)) = FirstThree u × FirstExpression (code_of u (parts_of u)) i
Says u (Err (refusal.BadStatement i)) = FirstThree u × FirstStatement (code_of u (parts_of u)) i
