-- Valid decimals (document 01, "Values and references"): the test and the statement with quantifiers say the same, and a decimal reads as
-- a number exactly when it is valid.
-- Assumes nothing.
use Rattle.std.specs.Prelude.{Result, Err, Ok}
use Rattle.rules.specs.declared.Fault.{Fault}
use mathlib.Core.Path.{◌≡◌, refl, sym, ap, ◌∙◌}
use mathlib.Core.Bool.{Bool, true, false, cond, ◌||◌, false≢true}
use mathlib.Core.Logic.{◌⊎◌, inl, inr}
use mathlib.Core.List.{List, [], ◌∷◌}
use Prim.Native.Nat.{ℕ, zero, suc, ◌+◌, ◌-◌, ◌*◌, ◌≤◌, ◌<◌}
use native.Mathlib.Omega.{arith}
use lib.Dec.{ltb, leb, eqb}
use lib.IntN.{ℤ, pos}
use lib.ListN.{length, get_or}
use borrow.Author.Tests.{ltb-true, ltb-false, leb-true, le-leb, lt-leb, eq-eqb, ne_eqb, eqb-true}
use Rattle.rules.proofs.Tests.{both}
use Rattle.rules.proofs.Walk.{cond_case, cond_either}
use Rattle.rules.specs.Tests.{◌and◌}
use Rattle.rules.specs.declared.Fault.TheVariants as fault
use Rattle.rules.specs.Values.{signed, is_from, valid_from, paddedb, validb, Valid, Figures, read_from, padded_read, read_of}

-- ---- the test and the statement

either : (a b : Bool) → (a || b) ≡ true → (a ≡ true) ⊎ (b ≡ true)
either true b e = inl refl
either false b e = inr e

of_either : (a b : Bool) → (a ≡ true) ⊎ (b ≡ true) → (a || b) ≡ true
of_either true b o = refl
of_either false b (inl e) = absurd (false≢true e)
of_either false b (inr e) = e

-- The first n characters are digits.
abbrev Digits : List ℕ → ℕ → Type 0
Digits s n = (j : ℕ) → j < n → is_from 48 (get_or s j 0) ≡ true

-- The character b may stand last.
abbrev Last : ℕ → ℕ → Type 0
Last sign b = (is_from 48 b ≡ true) ⊎ (is_from sign b ≡ true)

module _ (sign : ℕ) where
  from_digits : (b : ℕ) (bs : List ℕ) → valid_from sign b bs ≡ true → Digits (b ∷ bs) (length bs)
  unfolding valid_from
  from_digits b [] e j h = absurd (omega arith)
  from_digits b (x ∷ xs) e zero h = ((both (is_from 48 b) (valid_from sign x xs)).0 e).0
  from_digits b (x ∷ xs) e (suc j) h = from_digits x xs ((both (is_from 48 b) (valid_from sign x xs)).0 e).1 j (omega arith)

  from_last : (b : ℕ) (bs : List ℕ) → valid_from sign b bs ≡ true → Last sign (get_or (b ∷ bs) (length bs) 0)
  unfolding valid_from
  from_last b [] e = either (is_from 48 b) (is_from sign b) e
  from_last b (x ∷ xs) e = from_last x xs ((both (is_from 48 b) (valid_from sign x xs)).0 e).1

  from_of : (b : ℕ) (bs : List ℕ) → Digits (b ∷ bs) (length bs) → Last sign (get_or (b ∷ bs) (length bs) 0) → valid_from sign b bs ≡ true
  unfolding valid_from
  from_of b [] d l = of_either (is_from 48 b) (is_from sign b) l
  from_of b (x ∷ xs) d l = (both (is_from 48 b) (valid_from sign x xs)).1 (d 0 (omega arith), from_of x xs (λ j h. d (suc j) (omega arith)) l)

-- ---- leading spaces

-- What the characters of a padded decimal are, however many there are.
record Padded (sign : ℕ) (s : List ℕ) : Type 0 where
  blanks : ℕ
  few : blanks ≤ length s
  spaces : (j : ℕ) → j < blanks → get_or s j 0 ≡ 32
  digits : (j : ℕ) → blanks ≤ j → j + 1 < length s → is_from 48 (get_or s j 0) ≡ true
  last : blanks < length s → Last sign (get_or s (length s - 1) 0)

-- Characters that pass without a space before them.
figures_of : {limit : ℕ} (sign b : ℕ) (bs : List ℕ) → length (b ∷ bs) ≤ limit → valid_from sign b bs ≡ true → Figures limit sign (b ∷ bs)
figures_of sign b bs h e =
    let n : length (b ∷ bs) - 1 ≡ length bs = omega arith in
    record { some = omega arith; most = h; digits = λ j k. from_digits sign b bs e j (omega arith); last = rw n (from_last sign b bs e) }

no_blanks : {limit sign : ℕ} {s : List ℕ} → Figures limit sign s → Padded sign s
no_blanks f = record { blanks = 0; few = omega arith; spaces = λ j h. absurd (omega arith); digits = λ j h g. f.digits j g; last = λ h. f.last }

-- A space is none of ten characters above it.
pub not_space : (z b : ℕ) → 32 < z → is_from z b ≡ true → b ≡ 32 → ⊥
not_space z b h e q = omega (arith, leb-true z b ((both (leb z b) (ltb b (z + 10))).0 e).0)

-- One character more in front leaves the last one last.
last_more : (b : ℕ) (bs : List ℕ) → 0 < length bs → get_or (b ∷ bs) (length (b ∷ bs) - 1) 0 ≡ get_or bs (length bs - 1) 0
last_more b [] h = absurd (omega arith)
last_more b (x ∷ xs) h = let n : length (b ∷ (x ∷ xs)) - 1 ≡ suc (length (x ∷ xs) - 1) = omega arith in rw n

module _ (sign : ℕ) where
  padded_of : (s : List ℕ) (k : ℕ) → ((j : ℕ) → j < k → get_or s j 0 ≡ 32) → ((j : ℕ) → k ≤ j → j + 1 < length s → is_from 48 (get_or s j 0) ≡ true)
      → (k < length s → Last sign (get_or s (length s - 1) 0)) → paddedb sign s ≡ true
  unfolding paddedb valid_from
  padded_of [] k sp d l = refl
  padded_of (b ∷ []) zero sp d l = cond_either (λ (t : Bool). t ≡ true) (eqb b 32) true (valid_from sign b []) refl (of_either (is_from 48 b) (is_from sign b) (l (omega arith)))
  padded_of (b ∷ (x ∷ xs)) zero sp d l =
      let n : length (b ∷ (x ∷ xs)) - 1 ≡ length (x ∷ xs) = omega arith in
      rw (ne_eqb b 32 (not_space 48 b (omega arith) (d 0 (omega arith) (omega arith))))
      (from_of sign b (x ∷ xs) (λ j h. d j (omega arith) (omega arith)) (rw n at (l (omega arith))))
  padded_of (b ∷ bs) (suc k) sp d l =
      rw (eq-eqb b 32 (sp 0 (omega arith)))
      (padded_of bs k (λ j h. sp (suc j) (omega arith)) (λ j h g. d (suc j) (omega arith) (omega arith)) (λ h. rw (last_more b bs (omega arith)) at (l (omega arith))))

  padded_more : (b : ℕ) (bs : List ℕ) → b ≡ 32 → Padded sign bs → Padded sign (b ∷ bs)
  padded_more b bs q p =
      record {
        blanks = suc p.blanks;
        few = omega (arith, p.few);
        spaces = λ j h. at j h;
        digits = λ j h g. behind j h g;
        last = λ h. rw (last_more b bs (omega arith)) (p.last (omega arith));
      }
    where
      at : (j : ℕ) → j < suc p.blanks → get_or (b ∷ bs) j 0 ≡ 32
      at zero h = q
      at (suc j) h = p.spaces j (omega arith)

      behind : (j : ℕ) → suc p.blanks ≤ j → j + 1 < length (b ∷ bs) → is_from 48 (get_or (b ∷ bs) j 0) ≡ true
      behind zero h g = absurd (omega arith)
      behind (suc j) h g = p.digits j (omega arith) (omega arith)

  padded_to : (s : List ℕ) → paddedb sign s ≡ true → Padded sign s
  unfolding paddedb
  padded_to [] e = record { blanks = 0; few = omega arith; spaces = λ j h. absurd (omega arith); digits = λ j h g. absurd (omega arith); last = λ h. absurd (omega arith) }
  padded_to (b ∷ bs) e =
      cond_case (λ (t : Bool). t ≡ true → Padded sign (b ∷ bs)) (eqb b 32) (paddedb sign bs) (valid_from sign b bs)
      (λ q f. padded_more b bs (eqb-true b 32 q) (padded_to bs f))
      (λ q f. no_blanks (figures_of {limit = length (b ∷ bs)} sign b bs (omega arith) f))
      e

-- ---- the whole

-- The statement with quantifiers gives the test, and the test gives the statement.
pub valid_of : {limit sign : ℕ} {s : List ℕ} → Valid limit sign s → validb limit sign s ≡ true
unfolding validb
valid_of {s = []} v = absurd (omega (arith, v.some))
valid_of {limit} {sign} {s = b ∷ bs} v =
    (both (leb (length (b ∷ bs)) limit) (paddedb sign (b ∷ bs))).1
    (le-leb (length (b ∷ bs)) limit v.most, padded_of sign (b ∷ bs) v.blanks v.spaces v.digits v.last)

padded_valid : {limit sign : ℕ} {s : List ℕ} → 1 ≤ length s → length s ≤ limit → Padded sign s → Valid limit sign s
padded_valid h k p = record { some = h; most = k; blanks = p.blanks; few = p.few; spaces = p.spaces; digits = p.digits; last = p.last }

pub valid_to : {limit sign : ℕ} {s : List ℕ} → validb limit sign s ≡ true → Valid limit sign s
unfolding validb
valid_to {s = []} e = absurd (false≢true e)
valid_to {limit} {sign} {s = b ∷ bs} e =
    let t = (both (leb (length (b ∷ bs)) limit) (paddedb sign (b ∷ bs))).0 e in
    padded_valid (omega arith) (leb-true (length (b ∷ bs)) limit t.0) (padded_to sign (b ∷ bs) t.1)

-- A decimal without spaces is valid.
pub figures_valid : {limit sign : ℕ} {s : List ℕ} → Figures limit sign s → Valid limit sign s
figures_valid f = padded_valid f.some f.most (no_blanks f)

-- ---- a decimal reads as a number exactly when it is valid

abbrev is_value : Result ℤ Fault → Bool
is_value (Ok v) = true
is_value (Err f) = false

value_cond : (t : Bool) (x y : Result ℤ Fault) → is_value (cond t x y) ≡ cond t (is_value x) (is_value y)
value_cond true x y = refl
value_cond false x y = refl

value_or : (t u : Bool) (y z : ℤ) → is_value (cond t (Ok y) (cond u (Ok z) (Err fault.BadDigit))) ≡ (t || u)
value_or true u y z = refl
value_or false true y z = refl
value_or false false y z = refl

from_is : (sign acc b : ℕ) (bs : List ℕ) → is_value (read_from sign acc b bs) ≡ valid_from sign b bs
unfolding read_from valid_from
from_is sign acc b [] = value_or (is_from 48 b) (is_from sign b) (pos (acc * 10 + (b - 48))) (signed true (acc * 10 + (b - sign)))
from_is sign acc b (x ∷ xs) =
    value_cond (is_from 48 b) (read_from sign (acc * 10 + (b - 48)) x xs) (Err fault.BadDigit) ∙ ap (λ (t : Bool). is_from 48 b and t) (from_is sign (acc * 10 + (b - 48)) x xs)

padded_is : (sign : ℕ) (s : List ℕ) → is_value (padded_read sign s) ≡ paddedb sign s
unfolding padded_read paddedb
padded_is sign [] = refl
padded_is sign (b ∷ bs) = value_cond (eqb b 32) (padded_read sign bs) (read_from sign 0 b bs) ∙ rw (padded_is sign bs, from_is sign 0 b bs)

read_is : (limit sign : ℕ) (s : List ℕ) → is_value (read_of limit sign s) ≡ validb limit sign s
unfolding read_of validb
read_is limit sign [] = refl
read_is limit sign (b ∷ bs) = by (ltb limit (length (b ∷ bs))) refl
  where
    by : (t : Bool) → ltb limit (length (b ∷ bs)) ≡ t → is_value (cond t (Err fault.TooLong) (padded_read sign (b ∷ bs))) ≡ (leb (length (b ∷ bs)) limit and paddedb sign (b ∷ bs))
    by true e = rw (lt-leb (length (b ∷ bs)) limit (ltb-true limit (length (b ∷ bs)) e))
    by false e = rw (le-leb (length (b ∷ bs)) limit (ltb-false limit (length (b ∷ bs)) e)) (padded_is sign (b ∷ bs))

-- Characters that read as a number without a space before them.
pub reads_figures : {limit sign b : ℕ} {bs : List ℕ} {v : ℤ} → length (b ∷ bs) ≤ limit → read_from sign 0 b bs ≡ Ok v → Figures limit sign (b ∷ bs)
reads_figures {sign = sign} {b = b} {bs = bs} h e = figures_of sign b bs h (sym (from_is sign 0 b bs) ∙ ap is_value e)

pub reads_valid : {limit sign : ℕ} {s : List ℕ} {v : ℤ} → read_of limit sign s ≡ Ok v → Valid limit sign s
reads_valid {limit} {sign} {s} e = valid_to (sym (read_is limit sign s) ∙ ap is_value e)

pub valid_reads : {limit sign : ℕ} {s : List ℕ} → Valid limit sign s → (v : ℤ) × (read_of limit sign s ≡ Ok v)
valid_reads {limit} {sign} {s} h = by (read_of limit sign s) (read_is limit sign s ∙ valid_of h)
  where
    by : (r : Result ℤ Fault) → is_value r ≡ true → (v : ℤ) × (r ≡ Ok v)
    by (Ok v) e = (v, refl)
    by (Err f) e = absurd (false≢true e)
