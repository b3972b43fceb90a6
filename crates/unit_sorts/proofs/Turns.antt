-- One turn of the loop over the items of an expression: what is left gives the answer z of the whole, and each way out of the loop's body
-- tells what z is. The premises are what the code knows there: i is the item, t how many values it takes, w how many bytes.
-- Assumes nothing.
use mathlib.Core.Path.{◌≡◌, refl, sym, ap, ◌∙◌}
use mathlib.Core.Bool.{Bool, true, false, cond, not}
use mathlib.Core.List.{List}
use Prim.Native.Nat.{ℕ, ◌+◌, ◌-◌, ◌≤◌, ◌<◌}
use native.Mathlib.Omega.{arith}
use lib.Dec.{leb, eqb}
use lib.ListN.{length}
use borrow.Author.Tests.{le-leb, lt-leb, eq-eqb, ne_eqb, not-true}
use Rattle.rules.proofs.Walk.{seen_no, seen_yes, cond_same}
use Rattle.rules_unit.specs.declared.Item.{Item}
use Rattle.rules_unit.specs.declared.Item.TheVariants as item
use Rattle.rules_unit.specs.declared.Sort.{Sort}
use Rattle.rules_unit.specs.declared.Sort.TheVariants as sort
use Rattle.rules_unit.specs.Codes.{Code}
use Rattle.rules_unit.specs.Decode.{item_at, width_of, follow, items_at}
use Rattle.rules_unit.specs.Expressions.{takes, itemb, sort_of, goes_on, sort_from}
use Rattle.unit_sorts.specs.Notes.{is_wrong, noted_at, Noted}
use Rattle.rules_unit.proofs.Items.{items_as, beyond}

next_sort : (c : Code) (i : Item) (is : List Item) (n : ℕ) (k : Sort) → (i ≡ item.End → ⊥)
    → sort_from c (follow i is) n k
    ≡ cond (goes_on k)
    (cond (itemb c i)
    (cond (leb (takes i) n) (cond (leb (n - takes i + 1) 16) (sort_from c is (n - takes i + 1) (sort_of c i)) sort.Wrong) sort.Wrong)
    sort.Wrong) sort.Wrong
unfolding sort_from
next_sort c (item.Number place len) is n k h = refl
next_sort c (item.Reference m field) is n k h = refl
next_sort c (item.Text place len) is n k h = refl
next_sort c (item.Operator o) is n k h = refl
next_sort c item.End is n k h = absurd (h refl)
next_sort c item.Bad is n k h = refl

-- the answer from the item i on, which stands at an offset, where an item may stand
abbrev pub ahead : Code → List ℕ → ℕ → ℕ → Item → Sort
ahead c s at n i =
    cond (itemb c i)
    (cond (leb (takes i) n)
    (cond (leb (n - takes i + 1) 16) (sort_from c (items_at s (at + width_of i)) (n - takes i + 1) (sort_of c i)) sort.Wrong)
    sort.Wrong) sort.Wrong

at_item : (c : Code) (s : List ℕ) (at n : ℕ) (k : Sort) (i : Item) → i ≡ item_at s at
    → sort_from c (items_at s at) n k ≡ sort_from c (follow i (items_at s (at + width_of i))) n k
at_item c s at n k i e = ap (λ (l : List Item). sort_from c l n k) (items_as s at i e)

pub turn : (c : Code) (s : List ℕ) (at n : ℕ) (k : Sort) (i : Item) → i ≡ item_at s at → (i ≡ item.End → ⊥)
    → sort_from c (items_at s at) n k ≡ cond (goes_on k) (ahead c s at n i) sort.Wrong
turn c s at n k i e other = at_item c s at n k i e ∙ next_sort c i (items_at s (at + width_of i)) n k other

module _ (c : Code) (s : List ℕ) (at n : ℕ) (k z : Sort) (left : sort_from c (items_at s at) n k ≡ z) where
  pub turn_beyond : length s ≤ at → sort.Wrong ≡ z
  unfolding sort_from
  turn_beyond h = sym (cond_same (goes_on k) sort.Wrong) ∙ sym (at_item c s at n k item.Bad (sym (beyond s at h))) ∙ left

  module _ (i : Item) (e : i ≡ item_at s at) where
    at_end : i ≡ item.End → z ≡ cond (eqb n 1) k sort.Wrong
    unfolding sort_from
    at_end f = sym left ∙ at_item c s at n k item.End (sym f ∙ e)

    pub turn_one : i ≡ item.End → n ≡ 1 → k ≡ z
    turn_one f h = sym (rw (eq-eqb n 1 h) at (at_end f))

    pub turn_none : i ≡ item.End → (n ≡ 1 → ⊥) → sort.Wrong ≡ z
    turn_none f h = sym (rw (ne_eqb n 1 h) at (at_end f))

    module _ (other : i ≡ item.End → ⊥) (g : Bool) (eg : g ≡ goes_on k) where
      by : z ≡ cond (goes_on k) (ahead c s at n i) sort.Wrong
      by = sym left ∙ turn c s at n k i e other

      pub turn_last : not g ≡ true → sort.Wrong ≡ z
      turn_last h = sym (rw (seen_no g (goes_on k) h eg) at by)

      -- what is noted for the values held holds after any item that another may follow
      pub turn_noted : (notes : List ℕ) (x : Sort) (w : Bool) → not g ≡ false → Noted c s notes → x ≡ noted_at notes at n → w ≡ is_wrong x → not w ≡ true → x ≡ z
      turn_noted notes x w goes noted ex ew h =
          ex
          ∙ noted.so at n (rw ex at (sym ew ∙ not-true w h))
          ∙ turn c s at n sort.Number i e other
          ∙ sym (rw (seen_yes g (goes_on k) goes eg) at by)

      module _ (goes : not g ≡ false) (b : Bool) (eb : b ≡ itemb c i) where
        pub turn_item : not b ≡ true → sort.Wrong ≡ z
        turn_item h = sym (rw (seen_yes g (goes_on k) goes eg, seen_no b (itemb c i) h eb) at by)

        module _ (good : not b ≡ false) (t : ℕ) (et : t ≡ takes i) where
          pub turn_few : n < t → sort.Wrong ≡ z
          turn_few h = sym (rw (seen_yes g (goes_on k) goes eg, seen_yes b (itemb c i) good eb, lt-leb (takes i) n (omega arith)) at by)

          -- m is the bound that the code tests
          pub turn_full : (m : ℕ) → t ≤ n → m < n - t + 1 → 16 ≤ m → sort.Wrong ≡ z
          turn_full m h l o =
              sym (rw (seen_yes g (goes_on k) goes eg, seen_yes b (itemb c i) good eb, le-leb (takes i) n (omega arith), lt-leb (n - takes i + 1) 16 (omega arith)) at by)

          pub turn_on : (k' : Sort) (w : ℕ) → t ≤ n → n - t + 1 ≤ 16 → k' ≡ sort_of c i → w ≡ width_of i
              → sort_from c (items_at s (at + w)) (n - t + 1) k' ≡ z
          turn_on k' w h l ek ew =
              rw (ek, ew, et)
              (sym (rw (seen_yes g (goes_on k) goes eg, seen_yes b (itemb c i) good eb, le-leb (takes i) n (omega arith), le-leb (n - takes i + 1) 16 (omega arith)) at by))
