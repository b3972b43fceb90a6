-- The items of an expression, one by one: the only place where the bound on their number is argued about.
--   width_some, width_most    an item takes 1 to 5 bytes
--   op_two, takes_two         an item takes no more than two values
--   is_end i                   the item is the end of an expression
--   known_field               a reference that keeps its own rule is to a field of the unit
--   beyond                    past the end of the expressions there is no item
--   items_step, items_as      the expression at an offset is its first item, and the expression that starts after that one
--   next_behind               right before the next expression in a row stands the 00 that closes this one
-- Assumes nothing.
use mathlib.Core.Path.{◌≡◌, refl, sym, ap, ◌∙◌}
use mathlib.Core.Bool.{Bool, true, false, false≢true}
use mathlib.Core.List.{List}
use Prim.Native.Nat.{ℕ, zero, suc, ◌+◌, ◌-◌, ◌<◌, ◌≤◌}
use native.Mathlib.Omega.{arith}
use lib.ListN.{length, take, drop}
use borrow.Author.Tests.{le-ltb, ltb-true}
use Rattle.rules_unit.specs.declared.Parts.{Parts}
use Rattle.rules_unit.specs.declared.Form.{Form}
use Rattle.rules_unit.specs.declared.Form.TheVariants as form
use Rattle.rules_unit.specs.declared.Op.{Op}
use Rattle.rules_unit.specs.declared.Op.TheVariants as op
use Rattle.rules_unit.specs.declared.Item.{Item}
use Rattle.rules_unit.specs.declared.Item.TheVariants as item
use Rattle.rules_unit.specs.Codes.{Code}
use Rattle.rules_unit.specs.Decode.{item_at, width_of, follow, items_in, items_at, expressions_at, code_of}
use Rattle.rules_unit.specs.Expressions.{op_takes, form_takes, takes, itemb, Known, extent_of, next_at}

pub width_some : (i : Item) → 1 ≤ width_of i
width_some (item.Number place len) = omega arith
width_some (item.Reference h field) = omega arith
width_some (item.Text place len) = omega arith
width_some (item.Operator o) = omega arith
width_some item.End = omega arith
width_some item.Bad = omega arith

pub width_most : (i : Item) → width_of i ≤ 5
width_most (item.Number place len) = omega arith
width_most (item.Reference h field) = omega arith
width_most (item.Text place len) = omega arith
width_most (item.Operator o) = omega arith
width_most item.End = omega arith
width_most item.Bad = omega arith

pub op_two : (o : Op) → op_takes o ≤ 2
op_two op.Add = omega arith
op_two op.Subtract = omega arith
op_two op.Multiply = omega arith
op_two op.Divide = omega arith
op_two op.Round = omega arith
op_two op.Negate = omega arith
op_two op.Eq = omega arith
op_two op.Ne = omega arith
op_two op.Gt = omega arith
op_two op.Lt = omega arith
op_two op.Ge = omega arith
op_two op.Le = omega arith
op_two op.Not = omega arith
op_two op.And = omega arith
op_two op.Or = omega arith
op_two op.Xor = omega arith

form_two : (h : Form) → form_takes h ≤ 2
form_two form.First = omega arith
form_two form.Subscript = omega arith
form_two form.StartEnd = omega arith
form_two form.PosLength = omega arith

pub takes_two : (i : Item) → takes i ≤ 2
takes_two (item.Number place len) = omega arith
takes_two (item.Reference h field) = form_two h
takes_two (item.Text place len) = omega arith
takes_two (item.Operator o) = op_two o
takes_two item.End = omega arith
takes_two item.Bad = omega arith

abbrev pub is_end : Item → Bool
is_end (item.Number place len) = false
is_end (item.Reference h field) = false
is_end (item.Text place len) = false
is_end (item.Operator o) = false
is_end item.End = true
is_end item.Bad = false

-- "field numbers .. lie inside their parts"
pub known_field : (u : List ℕ) (p : Parts) (i : Item) (h : Form) (f : ℕ) → i ≡ item.Reference h f → itemb (code_of u p) i ≡ true → f < p.f
known_field u p i h f e g = ltb-true f p.f (rw e at g)

pub beyond : (s : List ℕ) (at : ℕ) → length s ≤ at → item_at s at ≡ item.Bad
unfolding item_at
beyond s at h = rw (le-ltb at (length s) h)

-- One more makes no difference where there are enough.
enough : (k : ℕ) (s : List ℕ) (at : ℕ) → length s ≤ at + k → items_in k s at ≡ items_in (suc k) s at
unfolding items_in
enough zero s at h = let p : length s ≤ at = omega arith in rw (beyond s at p)
enough (suc k) s at h =
    ap (follow (item_at s at)) (enough k s (at + width_of (item_at s at)) (omega (arith, width_some (item_at s at))))

pub items_step : (s : List ℕ) (at : ℕ) → items_at s at ≡ follow (item_at s at) (items_at s (at + width_of (item_at s at)))
unfolding items_at items_in
items_step s at = ap (follow (item_at s at)) (enough (length s) s (at + width_of (item_at s at)) (omega arith))

-- i is the first item, as the code has read it
pub items_as : (s : List ℕ) (at : ℕ) (i : Item) → i ≡ item_at s at → items_at s at ≡ follow i (items_at s (at + width_of i))
items_as s at i e = items_step s at ∙ ap (λ (j : Item). follow j (items_at s (at + width_of j))) (sym e)

-- ---- expressions in a row

module _ (c : Code) (s : List ℕ) where
  -- The last byte of an expression of items that keep their rules is an End.
  closes : (k at : ℕ) → Known c (items_in k s at) → item_at s (at + extent_of (items_in k s at) - 1) ≡ item.End
  unfolding items_in extent_of
  closes zero at h = absurd (false≢true h.0)
  closes (suc k) at h = by (λ n. closes k (at + n)) (item_at s at) refl h
    where
      -- Behind an item of n bytes.
      further : (n x : ℕ) → item_at s (at + n + x - 1) ≡ item.End → item_at s (at + (n + x) - 1) ≡ item.End
      further n x e = let q : at + (n + x) - 1 ≡ at + n + x - 1 = omega arith in rw q e

      by : ((n : ℕ) → Known c (items_in k s (at + n)) → item_at s (at + n + extent_of (items_in k s (at + n)) - 1) ≡ item.End) → (i : Item) → item_at s at ≡ i
          → Known c (follow i (items_in k s (at + width_of i)))
          → item_at s (at + extent_of (follow i (items_in k s (at + width_of i))) - 1) ≡ item.End
      by more (item.Number place len) e h = further 4 (extent_of (items_in k s (at + 4))) (more 4 h.1)
      by more (item.Reference form field) e h = further 3 (extent_of (items_in k s (at + 3))) (more 3 h.1)
      by more (item.Text place len) e h = further 5 (extent_of (items_in k s (at + 5))) (more 5 h.1)
      by more (item.Operator o) e h = further 1 (extent_of (items_in k s (at + 1))) (more 1 h.1)
      by more item.End e h = let q : at + 1 - 1 ≡ at = omega arith in rw q e
      by more item.Bad e h = absurd (false≢true h.0)

pub next_behind : (u : List ℕ) (p : Parts) (e : ℕ) → Known (code_of u p) ((code_of u p).items e)
    → item_at (take p.e (drop (expressions_at p) u)) (next_at (code_of u p) e - 1) ≡ item.End
unfolding items_at
next_behind u p e h = let s = take p.e (drop (expressions_at p) u) in closes (code_of u p) s (suc (length s)) e h
