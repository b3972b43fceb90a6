-- What a sound unit is (document 01, "The coded unit"), as statements. The checks 1 to 5 are tests, and pass exactly the sound units.
--   Ranges p              the five lengths
--   Filled u              the length, the mark and the parts' lengths together
--   EntrySound c i        the field entry i by itself; InOrder c i j two entries that are no records
--   EntryFits c i         the field entry i, by itself and after those before it
--   TableSound c i n      the GOTO statements behind a computed GOTO
--   EndSound c i end      the loop end of a FOR
--   RoleSound c i r x     the part x of the statement at i, by its role; RowSound c i r s all three
--   ShapeSound c i        what 5 is about; UsesSound c i what 4 is about; StatementSound c i both
--   SoundCode c           all entries and all statements
--   SoundUnit u p         the unit u, with the parts p
-- What a well-formed expression of a sort is stands in WellFormed. Assumes nothing.
use Rattle.std.specs.Prelude.{ℕ, ◌+◌, ◌-◌, ◌<◌, ◌≤◌, ◌≡◌, true, false, ◌⊎◌, List, length, get_or, None}
use Rattle.rules_unit.specs.declared.Parts.{Parts}
use Rattle.rules_unit.specs.declared.Statement.{Statement}
use Rattle.rules_unit.specs.declared.Role.{Role}
use Rattle.rules_unit.specs.declared.Role.TheVariants as role
use Rattle.rules_unit.specs.declared.Row.{Row}
use Rattle.rules_unit.specs.Codes.{Code, is_bad, decimalb, recordb, offset_of, size_of, count_of, end_of}
use Rattle.rules_unit.specs.Decode.{Fills, parts_of, code_of}
use Rattle.rules_unit.specs.Table.{verb_of, row_of, uses_of}
use Rattle.rules_unit.specs.WellFormed.{UseSound}
use Rattle.rules_unit.specs.Checks.{is_goto}

-- "D is 1 to 16,383; F 0 to 512; E 0 to 16,383; P 0 to 4,095; N 1 to 2,048."
pub record Ranges (p : Parts) : Type 0 where
  pub d_least : 1 ≤ p.d
  pub d_most : p.d ≤ 16383
  pub f_most : p.f ≤ 512
  pub e_most : p.e ≤ 16383
  pub p_most : p.p ≤ 4095
  pub n_least : 1 ≤ p.n
  pub n_most : p.n ≤ 2048

pub record Filled (u : List ℕ) : Type 0 where
  -- "length under 12 or over 57,353"
  pub least : 12 ≤ length u
  pub most : length u ≤ 57353
  -- "then the bytes 44 42 (hex)"
  pub mark : get_or u (length u - 2) 0 ≡ 0x44
  pub mark_last : get_or u (length u - 1) 0 ≡ 0x42
  -- "Together with the trailer they fill the unit exactly."
  pub fills : Fills u (parts_of u)

-- ---- fields

pub record EntrySound (c : Code) (i : ℕ) : Type 0 where
  -- "kind (0 alpha, 1 decimal, 2 record)"
  pub known : is_bad (c.field i).kind ≡ false
  -- "zero byte", and "a choice in the high bit" of it
  pub choice : ((c.field i).zero ≡ 0) ⊎ ((c.field i).zero ≡ 0x80)
  -- "Size and count are at least 1"
  pub some : 1 ≤ size_of c i
  pub many : 1 ≤ count_of c i
  -- "a decimal's size is at most 18"
  pub short : decimalb c i ≡ true → size_of c i ≤ c.dialect.limit
  -- "a record's count is 1"
  pub once : recordb c i ≡ true → count_of c i ≡ 1
  -- "offset + size x count is at most D"
  pub inside : end_of c i ≤ c.size

-- "Alpha and decimal entries stand in rising offset and share no byte"
pub record InOrder (c : Code) (i j : ℕ) : Type 0 where
  pub rising : offset_of c i < offset_of c j
  pub apart : (b : ℕ) → offset_of c i ≤ b → b < end_of c i → offset_of c j ≤ b → b < end_of c j → ⊥

-- An entry is held against those before it: of two that do not stand in order the later one breaks the rule. "Records may cover anything and
-- stand anywhere in the list."
pub record EntryFits (c : Code) (i : ℕ) : Type 0 where
  pub own : EntrySound c i
  pub after : (j : ℕ) → j < i → recordb c j ≡ false → recordb c i ≡ false → InOrder c j i

-- ---- statements

-- "computed GOTO, number b, a = n from 1 to 255"; "Code 12 at statement i needs n GOTO statements right after it inside the unit"
pub record TableSound (c : Code) (i n : ℕ) : Type 0 where
  pub least : 1 ≤ n
  pub most : n ≤ 255
  pub inside : i + n < c.statements
  pub gotos : (j : ℕ) → i < j → j ≤ i + n → is_goto (c.statement j) ≡ true

-- "the number of a loop end (code 15) that stands behind the statement, inside the unit" (docs/ENCODING.md): of the FOR at i.
pub record EndSound (c : Code) (i end : ℕ) : Type 0 where
  pub behind : i < end
  pub low : end < c.statements
  pub ends : (c.statement end).code ≡ 15

-- "Unused parts are zero."; "Targets are below N."
abbrev pub RoleSound : Code → ℕ → Role → ℕ → Type 0
RoleSound c i role.Unused x = x ≡ 0
RoleSound c i (role.Written w) x = Unit {0}
RoleSound c i (role.Read w) x = Unit {0}
RoleSound c i role.Target x = x < c.statements
RoleSound c i role.Table x = TableSound c i x
RoleSound c i role.Numbers x = Unit {0}
RoleSound c i role.End x = EndSound c i x
RoleSound c i role.Never x = ⊥

pub record RowSound (c : Code) (i : ℕ) (r : Row) (s : Statement) : Type 0 where
  pub of_a : RoleSound c i r.a s.a
  pub of_b : RoleSound c i r.b s.b
  pub of_c : RoleSound c i r.c s.c

-- "statement code, zero part, count or target"
pub record ShapeSound (c : Code) (i : ℕ) : Type 0 where
  pub blank : (c.statement i).zero ≡ 0
  pub parts : RowSound c i (row_of (verb_of (c.statement i).code)) (c.statement i)

-- Each of its expressions is well formed, and of the sort that its use wants.
pub record UsesSound (c : Code) (i : ℕ) : Type 0 where
  pub each : (k : ℕ) → k < length (uses_of c (c.statement i)) → UseSound c (get_or (uses_of c (c.statement i)) k None)

pub record StatementSound (c : Code) (i : ℕ) : Type 0 where
  pub shape : ShapeSound c i
  pub uses : UsesSound c i

-- ---- the unit

pub record SoundCode (c : Code) : Type 0 where
  pub entries : (i : ℕ) → i < c.fields → EntryFits c i
  pub statements : (i : ℕ) → i < c.statements → StatementSound c i

pub record SoundUnit (u : List ℕ) (p : Parts) : Type 0 where
  pub filled : Filled u
  -- "The last 12 bytes are a trailer that points back"
  pub parts : p ≡ parts_of u
  pub ranges : Ranges p
  pub code : SoundCode (code_of u p)
