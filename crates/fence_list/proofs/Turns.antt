-- References and items, and one turn of the loop over the items of an expression: what is left gives the answer z of the whole. The premises are what the code
-- knows there.
-- Assumes nothing.
use Rattle.std.specs.Prelude.{Option}
use mathlib.Core.Path.{◌≡◌, refl, sym, ap, ◌∙◌}
use mathlib.Core.Bool.{Bool, true, false, false≢true}
use mathlib.Core.List.{List, [], ◌++◌}
use Prim.Native.Nat.{ℕ, ◌+◌, ◌≤◌}
use lib.ListN.{length}
use Rattle.rules_unit.specs.declared.Form.{Form}
use Rattle.rules_unit.specs.declared.Op.{Op}
use Rattle.rules_unit.specs.declared.Item.{Item}
use Rattle.rules_unit.specs.declared.Item.TheVariants as item
use Rattle.rules_unit.specs.Codes.{Code}
use Rattle.rules_unit.specs.Decode.{item_at, width_of, follow, items_at}
use Rattle.rules_unit.specs.Expressions.{closesb}
use Rattle.rules_unit.proofs.Items.{items_as, beyond}
use Rattle.rules_run.specs.declared.Span.{Span}
use Rattle.rules_fence.specs.declared.Breach.{Breach}
use Rattle.rules_fence.specs.declared.Broken.{Broken}
use Rattle.rules_fence.specs.declared.Seen.{Seen}
use Rattle.rules_fence.specs.Bounds.{seen_after, fixed_span}
use Rattle.rules_fence.specs.Fence.{destb}
use Rattle.rules_fence.specs.Breaches.{keepsb, reference_breach}
use Rattle.rules_fence.specs.Listed.{reference_broken, item_broken, broken_from, Listed}
use Rattle.fence_statements.proofs.Turns.{goes_on}
use Rattle.fence_list.specs.Gathered.{count_after, row_put, gathered}
use Rattle.fence_list.proofs.Gathering.{G, gathered_append}

-- ---- one reference: r is the rule that it breaks, t whether that is none

module _ (c : Code) (i : ℕ) (dest : Bool) (s : Seen) (at : ℕ) (h : Form) (f skip n : ℕ) (rows : List ℕ) (r : Breach) (er : r ≡ reference_breach c dest h f s)
    (t : Bool) (et : t ≡ keepsb r) where
  kept : t ≡ keepsb (reference_breach c dest h f s)
  kept = et ∙ ap keepsb er

  pub reference_keeps : t ≡ true → G n rows ≡ gathered skip (reference_broken c i dest s at h f) (G n rows)
  unfolding gathered
  reference_keeps e = rw (sym kept ∙ e)

  pub reference_breaks : (p : Option Span) (m : ℕ) (next : List ℕ) → t ≡ false → p ≡ fixed_span c h f s
      → next ≡ row_put skip n (record { statement = i; rule = r; written = dest; field = f; form = h; span = p; at = at }) rows
      → m ≡ count_after n → G m next ≡ gathered skip (reference_broken c i dest s at h f) (G n rows)
  unfolding gathered
  reference_breaks p m next e ep en em = rw (sym kept ∙ e, em, en, ep, er)

-- ---- one item

module _ (c : Code) (i : ℕ) (dest : Bool) (s : Seen) (at skip n : ℕ) (rows : List ℕ) (x : Item) where
  pub item_number : (place len : ℕ) → x ≡ item.Number place len → G n rows ≡ gathered skip (item_broken c i dest s at x []) (G n rows)
  unfolding gathered
  item_number place len e = rw e

  pub item_reference : (h : Form) (f : ℕ) (g : Listed) → x ≡ item.Reference h f → g ≡ gathered skip (reference_broken c i dest s at h f) (G n rows)
      → g ≡ gathered skip (item_broken c i dest s at x []) (G n rows)
  item_reference h f g e q = rw e q

  pub item_text : (place len : ℕ) → x ≡ item.Text place len → G n rows ≡ gathered skip (item_broken c i dest s at x []) (G n rows)
  unfolding gathered
  item_text place len e = rw e

  pub item_operator : (o : Op) → x ≡ item.Operator o → G n rows ≡ gathered skip (item_broken c i dest s at x []) (G n rows)
  unfolding gathered
  item_operator o e = rw e

  pub item_end : x ≡ item.End → G n rows ≡ gathered skip (item_broken c i dest s at x []) (G n rows)
  unfolding gathered
  item_end e = rw e

  pub item_bad : x ≡ item.Bad → G n rows ≡ gathered skip (item_broken c i dest s at x []) (G n rows)
  unfolding gathered
  item_bad e = rw e

-- ---- the items that are left

none_left : (c : Code) (i : ℕ) (dest : Bool) (s : Seen) (at : ℕ) (x : Item) (xs : List Item) → closesb x ≡ true → broken_from c i dest s at (follow x xs) ≡ []
unfolding broken_from
none_left c i dest s at (item.Number place len) xs e = absurd (false≢true e)
none_left c i dest s at (item.Reference h f) xs e = absurd (false≢true e)
none_left c i dest s at (item.Text place len) xs e = absurd (false≢true e)
none_left c i dest s at (item.Operator o) xs e = absurd (false≢true e)
none_left c i dest s at item.End xs e = refl
none_left c i dest s at item.Bad xs e = refl

-- The code hands on whether an item is a destination, and not what is left after it.
aimed_as : (c : Code) (i : ℕ) (dest : Bool) (s : Seen) (at : ℕ) (x : Item) (xs : List Item) → item_broken c i (destb dest xs) s at x [] ≡ item_broken c i dest s at x xs
aimed_as c i dest s at (item.Number place len) xs = refl
aimed_as c i dest s at (item.Reference h f) xs = refl
aimed_as c i dest s at (item.Text place len) xs = refl
aimed_as c i dest s at (item.Operator o) xs = refl
aimed_as c i dest s at item.End xs = refl
aimed_as c i dest s at item.Bad xs = refl

module _ (c : Code) (i : ℕ) (dest : Bool) (es : List ℕ) (at : ℕ) (s : Seen) (skip : ℕ) (g z : Listed)
    (left : gathered skip (broken_from c i dest s at (items_at es at)) g ≡ z) where
  over : (x : Item) → x ≡ item_at es at → closesb x ≡ true → g ≡ z
  unfolding gathered
  over x e h =
      ap (λ (bs : List Broken). gathered skip bs g)
      (sym (ap (broken_from c i dest s at) (items_as es at x e) ∙ none_left c i dest s at x (items_at es (at + width_of x)) h))
      ∙ left

  pub turn_beyond : length es ≤ at → g ≡ z
  turn_beyond h = over item.Bad (sym (beyond es at h)) refl

  module _ (x : Item) (e : x ≡ item_at es at) (b : Bool) (eb : b ≡ closesb x) where
    pub turn_closes : b ≡ true → g ≡ z
    turn_closes h = over x e (sym eb ∙ h)

    module _ (goes : b ≡ false) (w : ℕ) (ew : w ≡ width_of x) (d : Bool) (ed : d ≡ destb dest (items_at es (at + w))) (next : Listed)
        (en : next ≡ gathered skip (item_broken c i d s at x []) g) where
      split : broken_from c i dest s at (items_at es at) ≡ item_broken c i d s at x [] ++ broken_from c i dest (seen_after c s x) (at + w) (items_at es (at + w))
      unfolding broken_from
      split =
          ap (broken_from c i dest s at) (items_as es at x e ∙ goes_on x (items_at es (at + width_of x)) (sym eb ∙ goes))
          ∙ rw (← ew, ← aimed_as c i dest s at x (items_at es (at + w)), ← ed)

      pub turn_on : (t : Seen) → t ≡ seen_after c s x → gathered skip (broken_from c i dest t (at + w) (items_at es (at + w))) next ≡ z
      turn_on t et =
          ap (λ (y : Seen). gathered skip (broken_from c i dest y (at + w) (items_at es (at + w))) next) et
          ∙ ap (gathered skip (broken_from c i dest (seen_after c s x) (at + w) (items_at es (at + w)))) en
          ∙ sym (gathered_append skip (item_broken c i d s at x []) (broken_from c i dest (seen_after c s x) (at + w) (items_at es (at + w))) g)
          ∙ ap (λ (bs : List Broken). gathered skip bs g) (sym split)
          ∙ left
