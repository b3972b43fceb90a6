-- Laws of alpha to number, one for each character that the loop of `text::from_alpha` meets, and its end.
-- Assumes nothing.
use Rattle.std.specs.Prelude.{Err}
use mathlib.Core.Path.{◌≡◌, sym, ap, ◌∙◌}
use mathlib.Core.Bool.{Bool, true, false}
use mathlib.Core.List.{List, [], ◌∷◌}
use Prim.Native.Nat.{ℕ, ◌+◌, ◌-◌, ◌*◌, ◌≤◌, ◌<◌}
use native.Mathlib.Omega.{arith}
use lib.Dec.{ltb}
use lib.IntN.{nat_abs}
use lib.ListN.{length, get_or, drop, drop_of_length-le}
use borrow.Author.Tests.{ne_eqb, le-ltb}
use Rattle.rules.specs.declared.Fault.TheVariants as fault
use Rattle.rules.specs.Values.{signed}
use Rattle.rules.specs.Arithmetic.{kept}
use Rattle.rules.specs.Moves.{alpha_from}
use Rattle.rules.proofs.Signed.{abs_signed}
use Rattle.rules.proofs.Decimals.{from_yes, from_low, from_high}
use Rattle.text.proofs.Reading.{drop_next}

-- ---- one character

module _ (top : ℕ) (t : Bool) (acc b : ℕ) (bs : List ℕ) where
  space : b ≡ 32 → alpha_from top t acc (b ∷ bs) ≡ alpha_from top t acc bs
  unfolding alpha_from
  space e = rw e

  plus : b ≡ 43 → alpha_from top t acc (b ∷ bs) ≡ alpha_from top t acc bs
  unfolding alpha_from
  plus e = rw e

  minus : b ≡ 45 → t ≡ false → alpha_from top t acc (b ∷ bs) ≡ alpha_from top true acc bs
  unfolding alpha_from
  minus e f = rw (e, f)

  twice : b ≡ 45 → t ≡ true → alpha_from top t acc (b ∷ bs) ≡ Err fault.BadDigit
  unfolding alpha_from
  twice e f = rw (e, f)

  digit : 48 ≤ b → b < 58 → alpha_from top t acc (b ∷ bs) ≡ alpha_from top t (acc * 10 + (b - 48)) bs
  unfolding alpha_from
  digit h k = simp (ne_eqb b 32 (λ e. omega arith), ne_eqb b 43 (λ e. omega arith), ne_eqb b 45 (λ e. omega arith), from_yes 48 b h k)

  low : (b ≡ 32 → ⊥) → (b ≡ 43 → ⊥) → (b ≡ 45 → ⊥) → b < 48 → alpha_from top t acc (b ∷ bs) ≡ Err fault.BadDigit
  unfolding alpha_from
  low p q r h = simp (ne_eqb b 32 p, ne_eqb b 43 q, ne_eqb b 45 r, from_low 48 b h)

  high : 58 ≤ b → alpha_from top t acc (b ∷ bs) ≡ Err fault.BadDigit
  unfolding alpha_from
  high h = simp (ne_eqb b 32 (λ e. omega arith), ne_eqb b 43 (λ e. omega arith), ne_eqb b 45 (λ e. omega arith), from_high 48 b h)

-- ---- the character at i of s

pub record At (s : List ℕ) (i b : ℕ) : Type 0 where
  pub inside : i < length s
  pub is : b ≡ get_or s i 0

next : {s : List ℕ} {i b : ℕ} → At s i b → drop i s ≡ b ∷ drop (i + 1) s
next {s} {i} {b} a = drop_next s i a.inside ∙ ap (λ (x : ℕ). x ∷ drop (i + 1) s) (sym a.is)

module _ (top : ℕ) (t : Bool) (acc : ℕ) {s : List ℕ} {i b : ℕ} (a : At s i b) where
  pub at_space : b ≡ 32 → alpha_from top t acc (drop i s) ≡ alpha_from top t acc (drop (i + 1) s)
  at_space e = ap (alpha_from top t acc) (next a) ∙ space top t acc b _ e

  pub at_plus : b ≡ 43 → alpha_from top t acc (drop i s) ≡ alpha_from top t acc (drop (i + 1) s)
  at_plus e = ap (alpha_from top t acc) (next a) ∙ plus top t acc b _ e

  pub at_minus : b ≡ 45 → t ≡ false → alpha_from top t acc (drop i s) ≡ alpha_from top true acc (drop (i + 1) s)
  at_minus e f = ap (alpha_from top t acc) (next a) ∙ minus top t acc b _ e f

  pub at_twice : b ≡ 45 → t ≡ true → alpha_from top t acc (drop i s) ≡ Err fault.BadDigit
  at_twice e f = ap (alpha_from top t acc) (next a) ∙ twice top t acc b _ e f

  pub at_digit : 48 ≤ b → b < 58 → alpha_from top t acc (drop i s) ≡ alpha_from top t (acc * 10 + (b - 48)) (drop (i + 1) s)
  at_digit h k = ap (alpha_from top t acc) (next a) ∙ digit top t acc b _ h k

  pub at_low : (b ≡ 32 → ⊥) → (b ≡ 43 → ⊥) → (b ≡ 45 → ⊥) → b < 48 → alpha_from top t acc (drop i s) ≡ Err fault.BadDigit
  at_low p q r h = ap (alpha_from top t acc) (next a) ∙ low top t acc b _ p q r h

  pub at_high : 58 ≤ b → alpha_from top t acc (drop i s) ≡ Err fault.BadDigit
  at_high h = ap (alpha_from top t acc) (next a) ∙ high top t acc b _ h

-- ---- the end

pub at_end : (top : ℕ) (t : Bool) (acc i : ℕ) (s : List ℕ) → length s ≤ i → alpha_from top t acc (drop i s) ≡ kept top (signed t acc)
unfolding alpha_from
at_end top t acc i s h = ap (alpha_from top t acc) (drop_of_length-le s h)

too_long : (top : ℕ) (t : Bool) (acc : ℕ) → top ≤ acc → ltb (nat_abs (signed t acc)) top ≡ false
too_long top t acc h = rw (abs_signed t acc) (le-ltb acc top h)

pub kept_long : (top : ℕ) (t : Bool) (acc : ℕ) → top ≤ acc → kept top (signed t acc) ≡ Err fault.TooLong
kept_long top t acc h = simp (too_long top t acc h)

-- ---- from top on the number itself no longer matters

pub over : (top : ℕ) (t : Bool) (a c : ℕ) → top ≤ a → top ≤ c → (bs : List ℕ) → alpha_from top t a bs ≡ alpha_from top t c bs
unfolding alpha_from
over top t a c h k [] = kept_long top t a h ∙ sym (kept_long top t c k)
over top t a c h k (b ∷ bs) = rw (over top t a c h k bs, over top true a c h k bs, over top t (a * 10 + (b - 48)) (c * 10 + (b - 48)) (omega arith) (omega arith) bs)
