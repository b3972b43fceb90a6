-- One span and the rules that it keeps, in the tests' order. One law for each way out of the code; entry is the field's entry as the code has
-- read it.
-- Assumes nothing.
use mathlib.Core.Path.{◌≡◌, sym, ap, ◌∙◌}
use mathlib.Core.Bool.{Bool, true, false}
use mathlib.Core.List.{List}
use Prim.Native.Nat.{ℕ, ◌+◌, ◌-◌, ◌*◌, ◌/◌, ◌≤◌}
use native.Mathlib.Omega.{arith}
use lib.Dec.{leb}
use lib.ListN.{get_or}
use Rattle.rules_unit.specs.declared.Parts.{Parts}
use Rattle.rules_unit.specs.declared.Field.{Field}
use Rattle.rules_unit.specs.Decode.{code_of}
use Rattle.rules_fence.specs.declared.Breach.{Breach}
use Rattle.rules_fence.specs.declared.Breach.TheVariants as breach
use Rattle.rules_fence.specs.Breaches.{end_breach, element_breach, alpha_breach}
use Rattle.fence_decimals.specs.Ahead.{Ahead}

-- o is the code's own copy of where the field starts, from the entry that it has read
entry_offset : (u : List ℕ) (p : Parts) (f : ℕ) (entry : Field) → entry ≡ (code_of u p).field f → (o : ℕ) → o ≡ entry.offset → o ≡ ((code_of u p).field f).offset
entry_offset u p f entry ee o eo = eo ∙ ap (λ (g : Field). g.offset) ee

-- ---- decimal spans

-- Of no bytes, every element ends where the field starts.
no_size : (o k z : ℕ) → z ≡ 0 → o ≡ o + k * z + z
no_size o k z e = let m : k * z ≡ 0 = rw e (omega arith) in omega arith

module _ (u : List ℕ) (p : Parts) (dest : Bool) (f a n : ℕ) (entry : Field) (ee : entry ≡ (code_of u p).field f) (o z : ℕ) (eo : o ≡ entry.offset) (ez : z ≡ entry.size) where
  size : z ≡ ((code_of u p).field f).size
  size = ez ∙ ap (λ (g : Field). g.size) ee

  pub element_by : (r : Breach) → r ≡ end_breach dest (o + (a - o) / z * z + z) (a + n) → r ≡ element_breach (code_of u p) dest f a n
  unfolding element_breach
  element_by r q = rw (entry_offset u p f entry ee o eo, size) at q

  pub element_none : (r : Breach) → z ≡ 0 → r ≡ end_breach dest o (a + n) → r ≡ element_breach (code_of u p) dest f a n
  element_none r e q = element_by r (q ∙ ap (λ (x : ℕ). end_breach dest x (a + n)) (no_size o ((a - o) / z) z e))

-- ---- alpha spans

-- b says whether the span ends at or before the decimal field that is noted for its first byte
module _ (u : List ℕ) (p : Parts) (dest : Bool) (a n : ℕ) where
  pub alpha_read : dest ≡ false → breach.None ≡ alpha_breach (code_of u p) dest a n
  unfolding alpha_breach
  alpha_read e = rw e

  module _ (ahead : List ℕ) (w : Ahead (code_of u p) ahead) (e : dest ≡ true) (l : a + n ≤ p.d) (b : Bool) (eb : b ≡ leb (a + n) (get_or ahead a 65535)) where
    pub alpha_apart : b ≡ true → breach.None ≡ alpha_breach (code_of u p) dest a n
    unfolding alpha_breach
    alpha_apart h = rw (e, sym (w.so a n l) ∙ sym eb ∙ h)

    pub alpha_shared : b ≡ false → breach.OnDecimal ≡ alpha_breach (code_of u p) dest a n
    unfolding alpha_breach
    alpha_shared h = rw (e, sym (w.so a n l) ∙ sym eb ∙ h)
