-- The decimal fields of a sound unit, in the order of their numbers: each one starts at or behind the end of those before it.
-- Assumes nothing.
use Prim.Native.Nat.{ℕ, ◌+◌, ◌<◌, ◌≤◌}
use native.Mathlib.Omega.{arith}
use mathlib.Core.Path.{◌≡◌, refl}
use mathlib.Core.Bool.{Bool, true, false, cond}
use lib.Dec.{leb}
use borrow.Author.Tests.{leb-true, leb-false}
use Rattle.rules_unit.specs.Codes.{Code, decimalb, offset_of, end_of}
use Rattle.rules_unit.specs.Sound.{SoundCode}
use Rattle.rules_unit.proofs.Fields.{decimal_not, some_byte}
use Rattle.fence_decimals.specs.Ahead.{behind_of}

-- no decimal field from g on starts below the floor
pub record Above (c : Code) (g floor : ℕ) : Type 0 where
  pub each : (j : ℕ) → g ≤ j → j < c.fields → decimalb c j ≡ true → floor ≤ offset_of c j

pub above_start : (c : Code) → Above c 0 0
above_start c = record { each = λ j h k t. omega arith }

pub above_skip : (c : Code) (g floor : ℕ) → Above c g floor → Above c (g + 1) floor
above_skip c g floor w = record { each = λ j h. w.each j (omega arith) }

module _ (c : Code) (s : SoundCode c) where
  later : (i j : ℕ) → i < j → j < c.fields → decimalb c i ≡ true → decimalb c j ≡ true → end_of c i ≤ offset_of c j
  later i j h k t v = by (leb (end_of c i) (offset_of c j)) refl
    where
      by : (b : Bool) → leb (end_of c i) (offset_of c j) ≡ b → end_of c i ≤ offset_of c j
      by true q = leb-true (end_of c i) (offset_of c j) q
      by false q =
          let o = (s.entries j k).after i h (decimal_not c i t) (decimal_not c j v) in
          absurd (o.apart (offset_of c j) (omega (arith, o.rising)) (leb-false (end_of c i) (offset_of c j) q) (omega arith) (some_byte c j (s.entries j k).own))

  module _ (g floor : ℕ) (h : g < c.fields) (w : Above c g floor) where
    pub above_next : Above c (g + 1) (behind_of (c.field g) floor)
    above_next = by (decimalb c g) refl
      where
        by : (t : Bool) → decimalb c g ≡ t → Above c (g + 1) (cond t (end_of c g) floor)
        by true t = record { each = λ j l k v. later g j (omega arith) k t v }
        by false t = above_skip c g floor w

    -- the floor rises, and stays inside the data
    pub floor_rises : floor ≤ behind_of (c.field g) floor
    floor_rises = by (decimalb c g) refl
      where
        by : (t : Bool) → decimalb c g ≡ t → floor ≤ cond t (end_of c g) floor
        by true t = omega (arith, w.each g (omega arith) h t, some_byte c g (s.entries g h).own)
        by false t = omega arith

    pub floor_inside : floor ≤ c.size → behind_of (c.field g) floor ≤ c.size
    floor_inside l = by (decimalb c g)
      where
        by : (t : Bool) → cond t (end_of c g) floor ≤ c.size
        by true = (s.entries g h).own.inside
        by false = l
