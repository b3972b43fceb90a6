-- What keeps the bounds that stand directly before an item in the range of values.
-- Assumes nothing.
use Rattle.std.specs.Prelude.{Result, Err, Ok}
use mathlib.Core.Path.{◌≡◌, sym, subst}
use mathlib.Core.Bool.{Bool, true, false, cond}
use mathlib.Core.List.{List, []}
use Prim.Native.Nat.{ℕ, ◌^◌}
use native.Mathlib.Omega.{arith}
use lib.IntN.{ℤ, pos, neg_ℤ}
use Rattle.rules.specs.declared.Fault.{Fault}
use Rattle.rules.specs.Values.{Val}
use Rattle.rules.proofs.Range.{InRange}
use Rattle.rules.proofs.Signed.{abs_neg, pow_le18}
use Rattle.rules_unit.specs.declared.Parts.{Parts}
use Rattle.rules_unit.specs.declared.Item.{Item}
use Rattle.rules_unit.specs.declared.Item.TheVariants as item
use Rattle.rules_unit.specs.Decode.{SoundDialect, code_of}
use Rattle.rules_run.specs.Evaluation.{literal_number}
use Rattle.rules_run.proofs.Ranges.{apply_range}
use Rattle.rules_fence.specs.declared.Seen.{Seen}
use Rattle.rules_fence.specs.declared.Seen.TheVariants as seen
use Rattle.rules_fence.specs.Bounds.{is_negate, seen_number, seen_negate, seen_after}
use Rattle.fence_bounds.specs.Asked.{Small}

pub small_none : Small seen.Nothing
small_none = record { first = record { small = omega arith }; last = record { small = omega arith } }

small_number : (n : Result ℤ Fault) (s : Seen) → InRange (10 ^ 18) n → Small s → Small (seen_number n s)
small_number (Err e) s r h = small_none
small_number (Ok v) seen.Nothing r h = record { first = record { small = omega arith }; last = r }
small_number (Ok v) (seen.One y plain) r h = record { first = h.last; last = r }
small_number (Ok v) (seen.Two x y plain) r h = record { first = h.last; last = r }

turned_small : (y : ℤ) → Val (10 ^ 18) y → Val (10 ^ 18) (neg_ℤ y)
turned_small y v = record { small = rw (abs_neg y) v.small }

small_negate : (s : Seen) → Small s → Small (seen_negate s)
small_negate seen.Nothing h = small_none
small_negate (seen.One y true) h = record { first = record { small = omega arith }; last = turned_small y h.last }
small_negate (seen.One y false) h = small_none
small_negate (seen.Two x y true) h = record { first = h.first; last = turned_small y h.last }
small_negate (seen.Two x y false) h = small_none

small_operator : (t : Bool) (s : Seen) → Small s → Small (cond t (seen_negate s) seen.Nothing)
small_operator true s h = small_negate s h
small_operator false s h = small_none

module _ (u : List ℕ) (p : Parts) (dialect : SoundDialect p.dialect) where
  literal_small : (place len : ℕ) → InRange (10 ^ 18) (literal_number (code_of u p) place len)
  literal_small place len =
      apply_range (code_of u p) [] (10 ^ 18) (omega arith) dialect.bound.most (pow_le18 (omega (arith, dialect.limit.most))) (item.Number place len) (pos 0) (pos 0)
      (record { small = omega arith }) (record { small = omega arith })

  small_after : (s : Seen) (i : Item) → Small s → Small (seen_after (code_of u p) s i)
  small_after s (item.Number place len) h = small_number (literal_number (code_of u p) place len) s (literal_small place len) h
  small_after s (item.Reference m field) h = small_none
  small_after s (item.Text place len) h = small_none
  small_after s (item.Operator o) h = small_operator (is_negate o) s h
  small_after s item.End h = small_none
  small_after s item.Bad h = small_none

  pub small_next : (s r : Seen) (i : Item) → Small s → r ≡ seen_after (code_of u p) s i → Small r
  small_next s r i h e = subst Small (sym e) (small_after s i h)
