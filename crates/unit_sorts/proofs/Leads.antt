-- The way through an expression whose sort k is known, and not Wrong: at each item of it the rules hold, and what is left gives k.
-- Assumes nothing.
use mathlib.Core.Path.{◌≡◌, refl, sym, subst, ◌∙◌}
use mathlib.Core.Bool.{Bool, true, false, cond}
use mathlib.Core.List.{List}
use Prim.Native.Nat.{ℕ, ◌+◌, ◌-◌, ◌*◌, ◌≤◌}
use native.Mathlib.Omega.{arith}
use lib.Dec.{T, leb}
use lib.ListN.{set}
use borrow.Author.Tests.{leb-true}
use Rattle.rules_unit.specs.declared.Item.{Item}
use Rattle.rules_unit.specs.declared.Item.TheVariants as item
use Rattle.rules_unit.specs.declared.Sort.{Sort}
use Rattle.rules_unit.specs.declared.Sort.TheVariants as sort
use Rattle.rules_unit.specs.Codes.{Code}
use Rattle.rules_unit.specs.Decode.{item_at, width_of, items_at}
use Rattle.rules_unit.specs.Expressions.{takes, itemb, sort_of, goes_on, sort_from}
use Rattle.unit_sorts.specs.Notes.{is_wrong, note_of, Noted}
use Rattle.unit_sorts.proofs.Notes.{noted_more}
use Rattle.unit_sorts.proofs.Turns.{ahead, turn}

-- what is left from an offset on, with n values held, gives k after some sort
pub record Leads (c : Code) (s : List ℕ) (at n : ℕ) (k : Sort) : Type 0 where
  pub last : Sort
  pub gives : sort_from c (items_at s at) n last ≡ k

pub lead_start : (c : Code) (s : List ℕ) (at : ℕ) (k : Sort) → k ≡ sort_from c (items_at s at) 0 sort.Number → Leads c s at 0 k
lead_start c s at k e = record { last = sort.Number; gives = sym e }

-- a test that must have passed
passed : (t : Bool) (x k : Sort) → is_wrong k ≡ false → cond t x sort.Wrong ≡ k → t ≡ true
passed true x k h e = refl
passed false x k h e = let z : true ≡ false = rw (sym e) at h in absurd (subst T z tt)

module _ (c : Code) (s : List ℕ) (at n : ℕ) (k : Sort) (lead : Leads c s at n k) (fine : is_wrong k ≡ false)
    (i : Item) (e : i ≡ item_at s at) (other : i ≡ item.End → ⊥) where
  first : cond (goes_on lead.last) (ahead c s at n i) sort.Wrong ≡ k
  first = sym (turn c s at n lead.last i e other) ∙ lead.gives

  goes : ahead c s at n i ≡ k
  goes = rw (passed (goes_on lead.last) (ahead c s at n i) k fine first) at first

  -- the sort is that of the items from here on, as if they were the first
  pub lead_here : k ≡ sort_from c (items_at s at) n sort.Number
  lead_here = sym goes ∙ sym (turn c s at n sort.Number i e other)

  -- so it may be noted here
  pub lead_noted : (notes new : List ℕ) → Noted c s notes → new ≡ set notes at (n * 8 + note_of k) → Noted c s new
  lead_noted notes new noted f = rw f (noted_more c s notes at n k noted lead_here)

  rest : Sort
  rest = sort_from c (items_at s (at + width_of i)) (n - takes i + 1) (sort_of c i)

  held : cond (leb (takes i) n) (cond (leb (n - takes i + 1) 16) rest sort.Wrong) sort.Wrong ≡ k
  unfolding rest
  held =
      rw (passed (itemb c i) (cond (leb (takes i) n) (cond (leb (n - takes i + 1) 16) rest sort.Wrong) sort.Wrong) k fine goes) at goes

  few : leb (takes i) n ≡ true
  unfolding rest
  few = passed (leb (takes i) n) (cond (leb (n - takes i + 1) 16) rest sort.Wrong) k fine held

  room : cond (leb (n - takes i + 1) 16) rest sort.Wrong ≡ k
  unfolding rest
  room = rw few at held

  most : leb (n - takes i + 1) 16 ≡ true
  unfolding rest
  most = passed (leb (n - takes i + 1) 16) rest k fine room

  -- t values are taken, and w bytes
  module _ (t : ℕ) (et : t ≡ takes i) where
    pub lead_few : t ≤ n
    lead_few = omega (arith, leb-true (takes i) n few)

    pub lead_most : n - t + 1 ≤ 16
    lead_most = omega (arith, leb-true (n - takes i + 1) 16 most)

    pub lead_on : (w : ℕ) → w ≡ width_of i → Leads c s (at + w) (n - t + 1) k
    unfolding rest
    lead_on w ew = record { last = sort_of c i; gives = rw (ew, et) (rw most at room) }
