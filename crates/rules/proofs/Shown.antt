-- Number to alpha (document 01, "Moves and arithmetic"): the digits shown are the shortest, and a number that has room reads back.
-- Assumes nothing.
use Rattle.std.specs.Prelude.{Ok}
use mathlib.Core.Path.{◌≡◌, refl, ap, ◌∙◌}
use mathlib.Core.Bool.{Bool, true, false, cond}
use Prim.Native.Nat.{ℕ, zero, suc, ◌+◌, ◌-◌, ◌*◌, ◌/◌, ◌%◌, ◌^◌, ◌≤◌, ◌<◌}
use native.Mathlib.Nat.{mod-lt, mod-eq_of_lt, add-sub_cancel_left}
use native.Mathlib.Omega.{arith}
use lib.Dec.{ltb, eqb, lit<}
use lib.IntN.{ℤ, nat_abs}
use borrow.Author.Tests.{ltb-true, ltb-false, lt-ltb, le-ltb, eq-eqb, ne_eqb, eqb-true, eqb-false}
use Rattle.rules.specs.Values.{Val, Top, signed, is_neg}
use Rattle.rules.specs.Arithmetic.{kept}
use Rattle.rules.specs.Moves.{placed, width_from, width, shown_at, shown, alpha_from, alpha_of}
use Rattle.rules.proofs.Signed.{signed_abs, val_any}
use Rattle.rules.proofs.Decimals.{from_yes, next_digit}

-- ---- "shortest digits"

-- The number m has w digits: w are enough, and of several none can be spared.
pub record Shortest (m w : ℕ) : Type 0 where
  pub enough : m < 10 ^ w
  pub needed : 1 < w → 10 ^ (w - 1) ≤ m

shortest_from : (k w m : ℕ) → m < 10 ^ (w + k) → (1 < w → 10 ^ (w - 1) ≤ m) → Shortest m (width_from k w m)
unfolding width_from
shortest_from zero w m h n = let e : w + 0 ≡ w = omega arith in record { enough = rw e at h; needed = n }
shortest_from (suc k) w m h n =
    let e : w + suc k ≡ w + 1 + k = omega arith in
    let d : w + 1 - 1 ≡ w = omega arith in
    by (ltb m (10 ^ w)) refl (λ l. shortest_from k (w + 1) m (rw e at h) (λ x. rw d l))
  where
    by : (t : Bool) → ltb m (10 ^ w) ≡ t → (10 ^ w ≤ m → Shortest m (width_from k (w + 1) m)) → Shortest m (cond t w (width_from k (w + 1) m))
    by true e f = record { enough = ltb-true m (10 ^ w) e; needed = n }
    by false e f = f (ltb-false m (10 ^ w) e)

pub width_shortest : (m : ℕ) → m < 10 ^ 18 → Shortest m (width m)
width_shortest m h = shortest_from 17 1 m h (λ e. absurd (omega arith))

-- ---- what is shown reads back: the last k places, then the place of the minus, then those before it

module _ (top : ℕ) (neg : Bool) (m w : ℕ) where
  digits_read : (t : Bool) (k acc : ℕ) → k ≤ w → alpha_from top t acc (placed (shown_at neg m w) k) ≡ kept top (signed t (acc * 10 ^ k + m % 10 ^ k))
  unfolding alpha_from placed
  digits_read t zero acc h = ap (λ (x : ℕ). kept top (signed t x)) (omega arith)
  digits_read t (suc k) acc h =
      let d = m / 10 ^ k % 10 in
      let l : d < 10 = mod-lt (m / 10 ^ k) (lit< tt) in
      rw (lt-ltb k w (omega arith))
      (rw (ne_eqb (48 + d) 32 (λ e. omega arith), ne_eqb (48 + d) 43 (λ e. omega arith), ne_eqb (48 + d) 45 (λ e. omega arith), from_yes 48 (48 + d) (omega arith) (omega arith), add-sub_cancel_left 48 d)
      (digits_read t k (acc * 10 + d) (omega arith) ∙ ap (λ (x : ℕ). kept top (signed t x)) (next_digit acc m k)))

minus_read : (top : ℕ) (neg : Bool) (m w : ℕ) → alpha_from top false 0 (placed (shown_at neg m w) (suc w)) ≡ alpha_from top neg 0 (placed (shown_at neg m w) w)
unfolding alpha_from placed
minus_read top true m w = rw (le-ltb w w (omega arith), eq-eqb w w refl)
minus_read top false m w = rw (le-ltb w w (omega arith))

space_at : (neg : Bool) (m w k : ℕ) → w < k → shown_at neg m w k ≡ 32
space_at true m w k h = rw (le-ltb k w (omega arith), ne_eqb k w (λ e. omega arith))
space_at false m w k h = rw (le-ltb k w (omega arith))

spaces_read : (top : ℕ) (neg : Bool) (m w n : ℕ) → w < n → alpha_from top false 0 (placed (shown_at neg m w) n) ≡ alpha_from top neg 0 (placed (shown_at neg m w) w)
unfolding alpha_from placed
spaces_read top neg m w zero h = absurd (omega arith)
spaces_read top neg m w (suc k) h = by (eqb k w) refl (spaces_read top neg m w k)
  where
    by : (t : Bool) → eqb k w ≡ t → (w < k → alpha_from top false 0 (placed (shown_at neg m w) k) ≡ alpha_from top neg 0 (placed (shown_at neg m w) w))
        → alpha_from top false 0 (placed (shown_at neg m w) (suc k)) ≡ alpha_from top neg 0 (placed (shown_at neg m w) w)
    by true e f = ap (λ (j : ℕ). alpha_from top false 0 (placed (shown_at neg m w) (suc j))) (eqb-true k w e) ∙ minus_read top neg m w
    by false e f =
        let n = eqb-false k w e in
        let l : w < k = omega arith in
        rw (space_at neg m w k l) (f l)

-- A number that has room, with a place for a minus, reads as itself.
pub shown_reads : {top : ℕ} (n : ℕ) (v : ℤ) → Top top → Val top v → width (nat_abs v) + 1 ≤ n → alpha_of top (shown n v) ≡ Ok v
shown_reads {top} n v t h r =
    let m = nat_abs v in
    let w = width m in
    let e : 0 * 10 ^ w + m % 10 ^ w ≡ m = omega (arith, mod-eq_of_lt (width_shortest m (val_any t h).small).enough) in
    spaces_read top (is_neg v) m w n (omega arith)
    ∙ digits_read top (is_neg v) m w (is_neg v) w 0 (omega arith)
    ∙ ap (λ (x : ℕ). kept top (signed (is_neg v) x)) e
    ∙ ap (kept top) (signed_abs v)
    ∙ rw (lt-ltb m top h.small)
