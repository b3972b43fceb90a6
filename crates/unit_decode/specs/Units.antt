-- A unit that its parts fill, which is what `Coded` holds.
--   code_in c           the code in it
--   expressions_in c    the bytes of its expressions; RowsIn c rows says that whatever is noted of them is so
-- Assumes nothing.
use Rattle.std.specs.Prelude.{List, ℕ, take, drop}
use Rattle.rules_unit.specs.Codes.{Code}
use Rattle.rules_unit.specs.Decode.{expressions_at, code_of}
use Rattle.unit_decode.specs.Rows.{Rows}
use Rattle.unit_decode.specs.declared.filled.Coded.{Coded}

abbrev pub code_in : Coded → Code
code_in c = code_of c.unit.now c.parts

abbrev pub expressions_in : Coded → List ℕ
expressions_in c = take c.parts.e (drop (expressions_at c.parts) c.unit.now)

abbrev pub RowsIn : Coded → List ℕ → Type 0
RowsIn c rows = Rows (expressions_in c) rows
