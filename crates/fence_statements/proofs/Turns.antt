-- One turn of the loop over the items of an expression: what is left gives the answer z of the whole, and each way out of the loop's body tells
-- what z is. The premises are what the code knows there: i is the item, w how many bytes it takes, d whether it is a destination, r its breach.
-- Assumes nothing.
use mathlib.Core.Path.{◌≡◌, refl, sym, ap, ◌∙◌, subst}
use mathlib.Core.Bool.{Bool, true, false, cond, not, true≢false, false≢true}
use mathlib.Core.List.{List, [], ◌∷◌}
use Prim.Native.Nat.{ℕ, ◌+◌, ◌≤◌}
use lib.Dec.{ltb, eqb}
use lib.ListN.{length, get_or}
use borrow.Author.Tests.{not-true, not-false}
use Rattle.rules_unit.specs.declared.Item.{Item}
use Rattle.rules_unit.specs.declared.Item.TheVariants as item
use Rattle.rules_unit.specs.Codes.{Code}
use Rattle.rules_unit.specs.Decode.{item_at, width_of, follow, items_at}
use Rattle.rules_unit.specs.Expressions.{itemb, closesb}
use Rattle.rules_unit.proofs.Items.{items_as, beyond}
use Rattle.rules_fence.specs.declared.Breach.{Breach}
use Rattle.rules_fence.specs.declared.Breach.TheVariants as breach
use Rattle.rules_fence.specs.declared.Seen.{Seen}
use Rattle.rules_fence.specs.Bounds.{seen_after}
use Rattle.rules_fence.specs.Fence.{destb}
use Rattle.rules_fence.specs.Breaches.{keepsb, item_breach, breach_from}
use Rattle.rules_unit.specs.Expressions.{Known}
use Rattle.fence_statements.specs.Asked.{AllKnown}
use Rattle.run_items.proofs.Closing.{closed, unclosed}

-- ---- the destination

dest_some : (dest : Bool) (is : List Item) → (is ≡ [] → ⊥) → destb dest is ≡ false
dest_some dest [] h = absurd (h refl)
dest_some dest (i ∷ is) h = refl

pub aim_last : (dest t : Bool) (s : List ℕ) (at : ℕ) → dest ≡ true → t ≡ cond (ltb at (length s)) (eqb (get_or s at 0) 0) false
    → t ≡ destb dest (items_at s at)
aim_last dest true s at h e = rw (closed s at true e refl, h)
aim_last dest false s at h e = sym (dest_some dest (items_at s at) (unclosed s at false e refl))

-- ---- the items that are left

pub goes_on : (i : Item) (is : List Item) → closesb i ≡ false → follow i is ≡ i ∷ is
goes_on (item.Number place len) is e = refl
goes_on (item.Reference h f) is e = refl
goes_on (item.Text place len) is e = refl
goes_on (item.Operator o) is e = refl
goes_on item.End is e = absurd (true≢false e)
goes_on item.Bad is e = absurd (true≢false e)

none_left : (c : Code) (dest : Bool) (s : Seen) (i : Item) (is : List Item) → closesb i ≡ true → breach_from c dest s (follow i is) ≡ breach.None
unfolding breach_from
none_left c dest s (item.Number place len) is e = absurd (false≢true e)
none_left c dest s (item.Reference h f) is e = absurd (false≢true e)
none_left c dest s (item.Text place len) is e = absurd (false≢true e)
none_left c dest s (item.Operator o) is e = absurd (false≢true e)
none_left c dest s item.End is e = refl
none_left c dest s item.Bad is e = refl

-- The code hands on whether an item is a destination, and not what is left after it.
aimed_as : (c : Code) (dest : Bool) (s : Seen) (i : Item) (is : List Item) → item_breach c (destb dest is) s i [] ≡ item_breach c dest s i is
aimed_as c dest s (item.Number place len) is = refl
aimed_as c dest s (item.Reference h f) is = refl
aimed_as c dest s (item.Text place len) is = refl
aimed_as c dest s (item.Operator o) is = refl
aimed_as c dest s item.End is = refl
aimed_as c dest s item.Bad is = refl

module _ (c : Code) (dest : Bool) (es : List ℕ) (at : ℕ) (s : Seen) (z : Breach) (left : breach_from c dest s (items_at es at) ≡ z) where
  pub turn_beyond : length es ≤ at → breach.None ≡ z
  turn_beyond h =
      sym (ap (breach_from c dest s) (items_as es at item.Bad (sym (beyond es at h))) ∙ none_left c dest s item.Bad (items_at es (at + 1)) refl) ∙ left

  module _ (i : Item) (e : i ≡ item_at es at) (b : Bool) (eb : b ≡ closesb i) where
    pub turn_closes : b ≡ true → breach.None ≡ z
    turn_closes h =
        sym (ap (breach_from c dest s) (items_as es at i e) ∙ none_left c dest s i (items_at es (at + width_of i)) (sym eb ∙ h)) ∙ left

    module _ (goes : b ≡ false) (w : ℕ) (ew : w ≡ width_of i) (d : Bool) (ed : d ≡ destb dest (items_at es (at + w))) (r : Breach)
        (er : r ≡ item_breach c d s i []) (k : Bool) (ek : k ≡ keepsb r) where
      by : z ≡ cond k (breach_from c dest (seen_after c s i) (items_at es (at + w))) r
      unfolding breach_from
      by =
          sym left
          ∙ ap (breach_from c dest s) (items_as es at i e ∙ goes_on i (items_at es (at + width_of i)) (sym eb ∙ goes))
          ∙ rw (← ew, ← aimed_as c dest s i (items_at es (at + w)), ← ed, ← er, ← ek)

      pub turn_breaks : not k ≡ true → r ≡ z
      turn_breaks h = sym (rw (not-true k h) at by)

      pub turn_on : (t : Seen) → t ≡ seen_after c s i → not k ≡ false → breach_from c dest t (items_at es (at + w)) ≡ z
      turn_on t et h = rw et (sym (rw (not-false k h) at by))

-- ---- every item keeps its own rule

module _ (c : Code) (es : List ℕ) (at : ℕ) (known : AllKnown c (items_at es at)) (i : Item) (e : i ≡ item_at es at) (b : Bool) (eb : b ≡ closesb i)
    (goes : b ≡ false) where
  both : Known c (i ∷ items_at es (at + width_of i))
  both = subst (Known c) (items_as es at i e ∙ goes_on i (items_at es (at + width_of i)) (sym eb ∙ goes)) known.each

  pub item_known : itemb c i ≡ true
  item_known = both.0

  pub next_known : (w : ℕ) → w ≡ width_of i → AllKnown c (items_at es (at + w))
  next_known w ew = record { each = rw ew both.1 }
