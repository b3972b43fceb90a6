-- The alpha literal of a statement (document 01, "Stops and their numbers").
--   stretch_of u i    where the literal of the statement i lies in the unit; at 0, of no bytes, where there is none
--   literal_of u i    that stretch of the unit
-- Assumes nothing.
use Rattle.rules_unit.specs.declared.Refusal.{Refusal}
use Rattle.rules_unit.specs.declared.Parts.{Parts}
use Rattle.std.specs.Prelude.{ℕ, ◌+◌, cond, List, [], ◌∷◌, ltb, eqb, take, drop, Result, Err, Ok}
use Rattle.rules_unit.specs.declared.Item.{Item}
use Rattle.rules_unit.specs.declared.Item.TheVariants as item
use Rattle.rules_unit.specs.declared.Statement.{Statement}
use Rattle.rules_unit.specs.declared.Stretch.{Stretch}
use Rattle.rules_unit.specs.Codes.{Code}
use Rattle.rules_unit.specs.Decode.{literals_at, code_of}
use Rattle.rules_unit.specs.Checks.{check_of}

abbrev pub nowhere : Stretch
nowhere = record { at = 0; len = 0 }

-- "whose source is a lone alpha literal"; the literals start at the place given
abbrev pub lone_text : ℕ → List Item → Stretch
lone_text from [] = nowhere
lone_text from (item.Number place len ∷ is) = nowhere
lone_text from (item.Reference h field ∷ is) = nowhere
lone_text from (item.Text place len ∷ []) = record { at = from + place; len = len }
lone_text from (item.Text place len ∷ (i ∷ is)) = nowhere
lone_text from (item.Operator o ∷ is) = nowhere
lone_text from (item.End ∷ is) = nowhere
lone_text from (item.Bad ∷ is) = nowhere

-- "statement i is a SET"
abbrev pub stretch_by : Code → ℕ → Statement → Stretch
stretch_by c from s = cond (eqb s.code 1) (lone_text from (c.items s.b)) nowhere

-- "when the unit passes checks 1 to 5 .. and an empty stretch otherwise"
abbrev pub stretch_in : List ℕ → ℕ → Result Parts Refusal → Stretch
stretch_in u i (Ok p) =
    cond (ltb i p.n) (stretch_by (code_of u p) (literals_at p) ((code_of u p).statement i)) nowhere
stretch_in u i (Err r) = nowhere

unfoldable pub stretch_of : List ℕ → ℕ → Stretch
stretch_of u i = stretch_in u i (check_of u)

-- "that stretch of the unit itself"
abbrev pub literal_of : List ℕ → ℕ → List ℕ
literal_of u i = take (stretch_of u i).len (drop (stretch_of u i).at u)
