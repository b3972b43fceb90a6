-- One item of an expression, for the loop over its bytes.
--   top_down held n       the first n of the code's array of values, as the rules' list: the last held first
--   rest_of c d is st     what the items that are left come to, with the values st held
--   held_on kept next v   what an item comes to that makes v of the values that it takes
--   form_of code          the form of a reference by its code, 03 to 05
--   loneb es i           the expression at i is a reference without bounds alone: 02, the field, 00
--   Ready                what every step asks
--   Leads                what every step keeps: what is left, with the values held, comes to the same
-- The rule itself is `worked_of` of rules_run, over the list of items.
-- Assumes nothing.
use Rattle.rules.specs.declared.Fault.{Fault}
use Rattle.std.specs.Prelude.{ℕ, zero, suc, ◌+◌, ◌^◌, ◌<◌, ◌≡◌, Bool, cond, List, [], ◌∷◌, ltb, eqb, ℤ, pos, length, get_or, Result, Err, Ok}
use Rattle.rules.specs.Tests.{◌and◌}
use Rattle.rules.specs.Values.{Val}
use Rattle.rules_unit.specs.declared.Form.{Form}
use Rattle.rules_unit.specs.declared.Form.TheVariants as form
use Rattle.rules_unit.specs.declared.Item.{Item}
use Rattle.rules_unit.specs.Codes.{Code}
use Rattle.rules_unit.specs.Decode.{SoundDialect, items_at}
use Rattle.rules_run.specs.declared.Worked.{Worked}
use Rattle.rules_run.specs.Evaluation.{left, worked_from}
use Rattle.unit_decode.specs.declared.filled.Coded.{Coded}
use Rattle.run_evaluate.specs.declared.Step.{Step}
use Rattle.run_evaluate.specs.declared.Step.TheVariants.{Hold, Done}

unfoldable pub top_down : List ℤ → ℕ → List ℤ
top_down held zero = []
top_down held (suc n) = get_or held n (pos 0) ∷ top_down held n

unfoldable pub rest_of : Code → List ℕ → List Item → List ℤ → Result Worked Fault
rest_of c d [] st = left st
rest_of c d (i ∷ is) st = worked_from c d i is st

abbrev pub held_on : ℕ → ℕ → Result ℤ Fault → Step
held_on kept next (Ok v) = Hold kept next v
held_on kept next (Err e) = Done (Err e)

abbrev pub form_of : ℕ → Form
form_of code = cond (eqb code 0x03) form.Subscript (cond (eqb code 0x04) form.StartEnd form.PosLength)

abbrev pub loneb : List ℕ → ℕ → Bool
loneb es i =
    ltb i (length es) and eqb (get_or es i 0) 0x02 and ltb (i + 3) (length es) and eqb (get_or es (i + 3) 0) 0

-- Every value of the array is in the range.
abbrev pub Vals : List ℤ → Type 0
Vals held = (j : ℕ) → Val (10 ^ 18) (get_or held j (pos 0))

-- ---- steps

pub record Ready (c : Coded) (d es : List ℕ) (i : ℕ) (held : List ℤ) : Type 0 where
  pub dialect : SoundDialect c.parts.dialect
  pub size : length d < 65536
  pub there : i < length es
  pub vals : Vals held

-- What is left after a step, with the values that are held then.
abbrev pub after_step : Code → List ℕ → List ℕ → List ℤ → Step → Result Worked Fault
after_step c d es held (Hold kept next v) = rest_of c d (items_at es next) (v ∷ top_down held kept)
after_step c d es held (Done w) = w

-- A value that is held has a place, is in the range, and the next item stands further on.
abbrev pub Onward : ℕ → Step → Type 0
Onward i (Hold kept next v) = (kept < 16) × (i < next) × Val (10 ^ 18) v
Onward i (Done w) = Unit {0}

pub record Leads (c : Code) (d es : List ℕ) (i n : ℕ) (held : List ℤ) (r : Step) : Type 0 where
  pub same : after_step c d es held r ≡ rest_of c d (items_at es i) (top_down held n)
  pub onward : Onward i r
