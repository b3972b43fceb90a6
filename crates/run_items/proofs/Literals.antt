-- Number literals: the digits of a literal one by one, and the literal as the part of the unit that the code reads.
-- Assumes nothing.
use Rattle.std.specs.Prelude.{Result, Err, Ok}
use Rattle.rules.specs.declared.Fault.{Fault}
use mathlib.Core.Path.{◌≡◌, refl, sym, ap, ◌∙◌}
use mathlib.Core.Bool.{false}
use mathlib.Core.List.{List}
use Prim.Native.Nat.{ℕ, ◌+◌, ◌-◌, ◌*◌, ◌^◌, ◌≤◌, ◌<◌}
use native.Mathlib.Nat.{add-sub_cancel_left}
use native.Mathlib.Numerals.{add-one}
use native.Mathlib.Omega.{arith}
use lib.IntN.{ℤ, pos}
use lib.ListN.{length, get_or, take, drop, drop_of_length-le}
use lib.Seq.{drop-cons}
use mir.Syntax.{w64}
use mir.Val.{SFits, to_z, of_z}
use Rattle.rules.specs.declared.Fault.TheVariants as fault
use Rattle.rules.proofs.Decimals.{from_yes, from_low, from_high, more_digits}
use Rattle.rules.proofs.Signed.{back}
use Rattle.rules_unit.specs.declared.Parts.{Parts}
use Rattle.rules_unit.specs.Decode.{Fills, code_of}
use Rattle.rules_unit.specs.Expressions.{digitsb, numberb}
use Rattle.rules_run.specs.Evaluation.{digits_from, literal_number}
use Rattle.unit_decode.proofs.Literals.{literals_length, number_past, number_there}
use Rattle.run_items.specs.Digits.{plain_from}

-- ---- digits

-- A digit more after the i digits of acc.
pub plain_digits : (acc i b : ℕ) → acc < 10 ^ i → b ≤ 57 → acc * 10 + (b - 48) < 10 ^ (i + 1)
plain_digits acc i b h l = more_digits acc i (b - 48) h (omega arith)

-- z is the number of the whole, which what is left from i on gives after the digits of acc; b is the character at i
module _ (s : List ℕ) (acc i : ℕ) (z : Result ℤ Fault) (rest : plain_from acc (drop i s) ≡ z) where
  pub plain_low : (b : ℕ) → i < length s → b ≡ get_or s i 0 → b < 48 → Err fault.Malformed ≡ z
  unfolding plain_from digitsb
  plain_low b h e l =
      let t : get_or s i 0 < 48 = omega arith in
      sym (ap (plain_from acc) (drop-cons s i 0 h) ∙ rw (from_low 48 (get_or s i 0) t)) ∙ rest

  pub plain_high : (b : ℕ) → i < length s → b ≡ get_or s i 0 → 57 < b → Err fault.Malformed ≡ z
  unfolding plain_from digitsb
  plain_high b h e l =
      let t : 58 ≤ get_or s i 0 = omega arith in
      sym (ap (plain_from acc) (drop-cons s i 0 h) ∙ rw (from_high 48 (get_or s i 0) t)) ∙ rest

  pub plain_more : (b : ℕ) → i < length s → b ≡ get_or s i 0 → 48 ≤ b → b ≤ 57 → plain_from (acc * 10 + (b - 48)) (drop (i + 1) s) ≡ z
  unfolding plain_from digitsb digits_from
  plain_more b h e l g =
      let t = from_yes 48 (get_or s i 0) (omega arith) (omega arith) in
      rw (add-one i, e) (sym (ap (plain_from acc) (drop-cons s i 0 h) ∙ rw t) ∙ rest)

  pub plain_end : {v : ℤ} → length s ≤ i → SFits w64 v → v ≡ pos acc → Ok (to_z w64 (of_z w64 v)) ≡ z
  unfolding plain_from digitsb digits_from
  plain_end h f e = ap Ok (back f ∙ e) ∙ (rw (drop_of_length-le s h) at rest)

-- ---- literals

module _ (u : List ℕ) (p : Parts) (place len : ℕ) where
  pub literal_none : false ≡ numberb (code_of u p) place len → Err fault.Malformed ≡ literal_number (code_of u p) place len
  unfolding literal_number
  literal_none h = rw (← h)

  -- read is the literals, start and n are the code's own copies of the place and the length
  module _ (fills : Fills u p) (some : 1 ≤ len) (short : len ≤ p.dialect.limit) (read : List ℕ) (start n : ℕ) (er : read ≡ (code_of u p).literals) (es : start ≡ place) (en : n ≡ len) where
    pub literal_past : length read < start + n → Err fault.Malformed ≡ literal_number (code_of u p) place len
    literal_past h =
        let past : p.p < place + len = omega (arith, h, es, en, ap length er, literals_length u p fills) in
        literal_none (number_past u p place len fills some place len p.p refl refl refl short past)

    pub literal_there : (r : Result ℤ Fault) → start + n ≤ length read → r ≡ plain_from 0 (take (start + n - start) (drop start read)) → r ≡ literal_number (code_of u p) place len
    unfolding plain_from literal_number
    literal_there r h q =
        let inside : place + len ≤ p.p = omega (arith, h, es, en, ap length er, literals_length u p fills) in
        let is : take (start + n - start) (drop start read) ≡ take len (drop place (code_of u p).literals) = rw (es, en, er, add-sub_cancel_left place len) in
        rw (← number_there u p place len fills some place len p.p refl refl refl short inside) (q ∙ ap (plain_from 0) is)
