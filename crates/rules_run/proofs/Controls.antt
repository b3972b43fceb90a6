-- The control value of a loop (request 4 of document 02, "FOR loops"): what the test says, and that the control field holds what was stored.
--   test_up, test_down    the test with a positive and with a negative step
--   place_holds           a value that fits reads as itself, in a sound unit
-- Assumes nothing.
use Rattle.std.specs.Prelude.{Ok}
use Prim.Native.Nat.{ℕ, suc, ◌+◌, ◌-◌, ◌%◌, ◌^◌, ◌<◌, ◌≤◌}
use native.Mathlib.Nat.{mod-eq_of_lt}
use native.Mathlib.Omega.{arith}
use mathlib.Core.Path.{◌≡◌, refl, sym, ap, ◌∙◌}
use mathlib.Core.Bool.{Bool, true, false, cond, false≢true}
use mathlib.Core.Logic.{◌↔◌}
use mathlib.Core.List.{List}
use lib.Dec.{ltb}
use lib.IntN.{ℤ, pos, negsuc, nat_abs, ◌+ℤ◌}
use lib.ListN.{length, take, drop}
use lib.Signed.{le_z}
use borrow.Author.Tests.{ltb-true, lt-ltb, le-ltb, leb-true, le-leb}
use Rattle.rules.specs.Values.{Letters, signed, is_neg, read_of}
use Rattle.rules.specs.Moves.{written}
use Rattle.rules.proofs.Decimals.{length_written, read_written}
use Rattle.rules.proofs.Signed.{signed_abs}
use Rattle.rules_unit.specs.declared.Item.{Item}
use Rattle.rules_unit.specs.Codes.{Code}
use Rattle.rules_unit.specs.Decode.{SoundDialect}
use Rattle.rules_unit.specs.Sound.{SoundCode}
use Rattle.rules_run.specs.declared.Worked.TheVariants as worked
use Rattle.rules_run.specs.Evaluation.{read_at, worked_of}
use Rattle.rules_run.specs.Turns.{stored, testb}
use Rattle.rules_run.proofs.Bounded.{place_room}
use Rattle.rules_run.proofs.Stored.{stored_back}

-- ---- the test

-- v is not above w exactly when something that is not below zero leads from v to w.
not_above : (v w : ℤ) → (le_z v w ≡ true) ↔ (k : ℕ) × (v +ℤ pos k ≡ w)
not_above (pos a) (pos b) = (
  λ h. let l = leb-true a b h in let e : a + (b - a) ≡ b = omega arith in (b - a, ap pos e),
  λ r. let e = ap nat_abs r.1 in le-leb a b (omega (arith, e)),
)
not_above (pos a) (negsuc b) = (λ h. absurd (false≢true h), λ r. absurd (false≢true (ap is_neg r.1)))
not_above (negsuc a) (pos b) = (
  λ h. let e : b + suc a - suc a ≡ b = omega arith in (b + suc a, rw (le-ltb (b + suc a) (suc a) (omega arith), e)),
  λ r. refl,
)
not_above (negsuc a) (negsuc b) = (
  λ h. let l = leb-true b a h in let e : suc a - suc (a - b) ≡ b = omega arith in (a - b, rw (lt-ltb (a - b) (suc a) (omega arith), e)),
  λ r. by r.0 (ltb r.0 (suc a)) refl r.1,
)
  where
    by : (k : ℕ) (t : Bool) → ltb k (suc a) ≡ t → cond t (negsuc (suc a - suc k)) (pos (k - suc a)) ≡ negsuc b → le_z (negsuc a) (negsuc b) ≡ true
    by k true e q = let l = ltb-true k (suc a) e in let z = ap nat_abs q in le-leb b a (omega (arith, l, z))
    by k false e q = absurd (false≢true (ap is_neg q))

-- "with a positive step the loop goes on while the control value is not above the limit"
pub test_up : (v limit : ℤ) (s : ℕ) → (testb v limit (pos s) ≡ true) ↔ (k : ℕ) × (v +ℤ pos k ≡ limit)
test_up v limit s = not_above v limit

-- "with a negative step while it is not below"
pub test_down : (v limit : ℤ) (s : ℕ) → (testb v limit (negsuc s) ≡ true) ↔ (k : ℕ) × (limit +ℤ pos k ≡ v)
test_down v limit s = not_above limit v

-- ---- the control field

fits_whole : (n : ℕ) (v : ℤ) → nat_abs v < 10 ^ n → signed (is_neg v) (nat_abs v % 10 ^ n) ≡ v
fits_whole n v h = ap (signed (is_neg v)) (mod-eq_of_lt h) ∙ signed_abs v

-- A place of n characters at a, which lie inside the data, and a value that fits it.
control_holds : (c : Code) → Letters c.dialect.sign → (d : List ℕ) (a n : ℕ) (v : ℤ) → a + n ≤ length d → 1 ≤ n → n ≤ c.dialect.limit → nat_abs v < 10 ^ n
    → read_at c (stored d a (written c.dialect.sign n v)) a n ≡ Ok v
control_holds c letters d a n v h o l f =
    let new : List ℕ = written c.dialect.sign n v in
    let e : length new ≡ n = length_written c.dialect.sign n v in
    ap (λ (k : ℕ). read_of c.dialect.limit c.dialect.sign (take k (drop a (stored d a new)))) (sym e)
    ∙ ap (read_of c.dialect.limit c.dialect.sign) (stored_back d a new (omega arith))
    ∙ read_written letters c.dialect.limit n v o l
    ∙ ap Ok (fits_whole n v f)

-- Of a decimal place that is found in a sound unit nothing more is asked.
pub place_holds : (c : Code) → SoundCode c → SoundDialect c.dialect → (d : List ℕ) (is : List Item) (a n : ℕ) → worked_of c d is ≡ Ok (worked.Place true a n)
    → (v : ℤ) → nat_abs v < 10 ^ n → read_at c (stored d a (written c.dialect.sign n v)) a n ≡ Ok v
place_holds c unit dialect d is a n e v fits =
    let room = place_room c unit dialect d is a n e in
    control_holds c dialect.letters d a n v room.0 room.1 room.2 fits
