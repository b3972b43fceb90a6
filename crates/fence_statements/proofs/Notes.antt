-- Notes of the items that keep the rules: what they tell, and that they stay true. One law for each way through the code.
--   Keeping c dest es notes at z    on the way through an expression that breaks z first: what is noted from the item at `at` on keeps the rules,
--                                   and so does all that is noted, if z is none
-- Assumes nothing.
use mathlib.Core.Path.{◌≡◌, refl, sym, ap, ◌∙◌}
use mathlib.Core.Bool.{Bool, true, false, not, false≢true}
use mathlib.Core.List.{List}
use Prim.Native.Nat.{ℕ, ◌+◌, ◌≤◌, ◌<◌}
use native.Mathlib.Omega.{arith}
use lib.Dec.{ltb, eqb}
use lib.ListN.{get_or, set, replicate}
use lib.Seq.{get_or-set_other}
use borrow.Author.Tests.{eqb-true, eqb-false, not-false}
use Rattle.rules_unit.specs.declared.Item.{Item}
use Rattle.rules_unit.specs.Codes.{Code}
use Rattle.rules_unit.specs.Decode.{width_of, items_at}
use Rattle.rules_unit.proofs.Items.{width_some}
use Rattle.rules_fence.specs.declared.Breach.{Breach}
use Rattle.rules_fence.specs.declared.Breach.TheVariants as breach
use Rattle.rules_fence.specs.declared.Seen.{Seen}
use Rattle.rules_fence.specs.declared.Seen.TheVariants as seen
use Rattle.rules_fence.specs.Breaches.{keepsb, breach_from}
use Rattle.rules_fence.proofs.Kept.{none_kept}
use Rattle.unit_decode.specs.declared.filled.Coded.{Coded}
use Rattle.unit_decode.specs.Units.{code_in, expressions_in}
use Rattle.unit_decode.proofs.Rows.{zeros}
use Rattle.fence_statements.specs.Notes.{notedb, note_at, Kept, KeptIf, Both, BothIf}

-- ---- the way through an expression

pub record Keeping (c : Code) (dest : Bool) (es notes : List ℕ) (at : ℕ) (z : Breach) : Type 0 where
  pub ahead : (e : ℕ) → at ≤ e → ltb 0 (get_or notes e 0) ≡ true → keepsb (breach_from c dest seen.Nothing (items_at es e)) ≡ true
  pub all : keepsb z ≡ true → Kept c dest es notes

module _ (c : Code) (dest : Bool) (es notes : List ℕ) (at : ℕ) (z : Breach) where
  module _ (k : Keeping c dest es notes at z) where
    pub keeping_end : (r : Breach) → r ≡ z → KeptIf r c dest es notes
    keeping_end r e = record { so = λ h. k.all (sym (ap keepsb e) ∙ h) }

    -- the bounds s stand before the item
    module _ (s : Seen) (left : breach_from c dest s (items_at es at) ≡ z) where
      pub turn_noted : (b : Bool) → b ≡ notedb notes at s → b ≡ true → breach.None ≡ z
      turn_noted b eb t = by s left (sym eb ∙ t)
        where
          by : (x : Seen) → breach_from c dest x (items_at es at) ≡ z → notedb notes at x ≡ true → breach.None ≡ z
          by seen.Nothing l h = sym (none_kept z (sym (ap keepsb l) ∙ k.ahead at (omega arith) h))
          by (seen.One y plain) l h = absurd (false≢true h)
          by (seen.Two x y plain) l h = absurd (false≢true h)

      past : (w : ℕ) → 0 < w → Keeping c dest es notes (at + w) z
      past w h = record { ahead = λ e l. k.ahead e (omega arith); all = k.all }

      other : (e : ℕ) → (e ≡ at → ⊥) → ltb 0 (get_or (set notes at 1) e 0) ≡ ltb 0 (get_or notes e 0)
      other e h = ap (ltb 0) (get_or-set_other notes at e 1 0 h)

      more : breach_from c dest seen.Nothing (items_at es at) ≡ z → keepsb z ≡ true → Kept c dest es (set notes at 1)
      more l h = record { each = λ e t. by e t (eqb e at) refl }
        where
          by : (e : ℕ) → ltb 0 (get_or (set notes at 1) e 0) ≡ true → (b : Bool) → eqb e at ≡ b → keepsb (breach_from c dest seen.Nothing (items_at es e)) ≡ true
          by e t true q = rw (eqb-true e at q) (ap keepsb l ∙ h)
          by e t false q = (k.all h).each e (sym (other e (eqb-false e at q)) ∙ t)

      pub turn_notes : (next : List ℕ) (i : Item) (w : ℕ) → next ≡ note_at notes at s → w ≡ width_of i → Keeping c dest es next (at + w) z
      turn_notes next i w en ew = rw en (by s left)
        where
          some : 0 < w
          some = omega (arith, width_some i)

          by : (x : Seen) → breach_from c dest x (items_at es at) ≡ z → Keeping c dest es (note_at notes at x) (at + w) z
          by seen.Nothing l =
              record {
                ahead = λ e h t. k.ahead e (omega (arith, some)) (sym (other e (λ q. omega (arith, some, q))) ∙ t);
                all = more l;
              }
          by (seen.One y plain) l = past w some
          by (seen.Two x y plain) l = past w some

-- ---- the two lists

module _ (co : Coded) (reads writes : List ℕ) where
  pub both_kept : (r : Breach) (k : Bool) → BothIf r co reads writes → k ≡ keepsb r → not k ≡ false → Both co reads writes
  both_kept r k w ek h = w.so (sym ek ∙ not-false k h)

kept_none : (c : Code) (dest : Bool) (es : List ℕ) (m : ℕ) → Kept c dest es (replicate m 0)
kept_none c dest es m = record { each = λ e h. absurd (false≢true (sym (ap (ltb 0) (zeros m e)) ∙ h)) }

-- Of nothing that is noted every claim holds.
pub both_none : (co : Coded) (m n : ℕ) → Both co (replicate m 0) (replicate n 0)
both_none co m n =
    record { of_reads = kept_none (code_in co) false (expressions_in co) m; of_writes = kept_none (code_in co) true (expressions_in co) n }
