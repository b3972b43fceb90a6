-- The check passes exactly the sound units, and each refusal says what the table says: which check is the first that fails, and where.
--   check_says       what the answer says is so
--   check_only       what is so is the answer
--   passed_sound, sound_passed, passed_fills, passed_parts    of a unit that passes
--   passed_by, fills_by    the same of the answer that the code has
--   one_field        a byte in two decimal fields of a sound unit makes them one
-- Assumes nothing.
use Rattle.std.specs.Prelude.{Result, Err, Ok, None, Some}
use Rattle.rules_unit.specs.declared.Refusal.{Refusal}
use Prim.Native.Nat.{ℕ, ◌-◌, ◌<◌, ◌≤◌}
use native.Mathlib.Omega.{arith}
use mathlib.Core.Path.{◌≡◌, refl, sym, ◌∙◌, subst}
use mathlib.Core.Bool.{Bool, true, false, cond, true≢false}
use mathlib.Core.List.{List}
use lib.Dec.{ltb, eqb}
use lib.ListN.{length, get_or}
use borrow.Author.Tests.{ltb-true, ltb-false, eqb-true, lt-ltb, le-ltb, eq-eqb}
use Rattle.rules_unit.specs.declared.Parts.{Parts}
use Rattle.rules_unit.specs.declared.Refusal.TheVariants as refusal
use Rattle.rules_unit.specs.Codes.{Code, decimalb, offset_of, end_of}
use Rattle.rules_unit.specs.Decode.{Fills, eighteen, mark_of, wrong_mark, parts_of, full_length, code_of}
use Rattle.rules_unit.specs.Checks.{filledb, rangesb, good_fields, statements_from, parts_check, check_of}
use Rattle.rules_unit.specs.Sound.{Filled, Ranges, SoundCode, SoundUnit}
use Rattle.rules_unit.specs.Answers.{FirstField, FirstThree, Says}
use Rattle.rules_unit.proofs.Tells.{Tells, tells_le, tells_eq, tells_as, tells_and, tells_not, tells_no, tells_fails}
use Rattle.rules_unit.proofs.Fields.{Upto, fields_upto, upto_only, decimal_not}
use Rattle.rules_unit.proofs.Statements.{Scans, statements_say, statements_pass, statements_shape, statements_use}

-- ---- 1 and 2

-- the mark that is not wrong
mark_bytes : (u : List ℕ) → wrong_mark (mark_of u) ≡ false → (get_or u (length u - 2) 0 ≡ 0x44) × (get_or u (length u - 1) 0 ≡ 0x42)
unfolding mark_of
mark_bytes u = by (eqb first 0x44) (eqb last 0x42) refl refl
  where
    first : ℕ
    first = get_or u (length u - 2) 0

    last : ℕ
    last = get_or u (length u - 1) 0

    by : (s t : Bool) → eqb first 0x44 ≡ s → eqb last 0x42 ≡ t → wrong_mark (cond s (cond t (Some eighteen) None) None) ≡ false
        → (first ≡ 0x44) × (last ≡ 0x42)
    by true true e f q = (eqb-true first 0x44 e, eqb-true last 0x42 f)
    by true false e f q = absurd (true≢false q)
    by false t e f q = absurd (true≢false q)

mark_right : (u : List ℕ) → get_or u (length u - 2) 0 ≡ 0x44 → get_or u (length u - 1) 0 ≡ 0x42 → wrong_mark (mark_of u) ≡ false
unfolding mark_of
mark_right u e f = rw (eq-eqb (get_or u (length u - 2) 0) 0x44 e, eq-eqb (get_or u (length u - 1) 0) 0x42 f)

pub filled_tells : (u : List ℕ) → Tells (filledb u) (Filled u)
unfolding filledb
filled_tells u =
    tells_as
    (λ r.
    let m = mark_bytes u r.1.1.0 in
    record { least = r.0; most = r.1.0; mark = m.0; mark_last = m.1; fills = record { whole = r.1.1.1 } })
    (λ r. (r.least, (r.most, (mark_right u r.mark r.mark_last, r.fills.whole))))
    (tells_and (tells_le 12 (length u))
    (tells_and (tells_le (length u) 57353) (tells_and (tells_not (wrong_mark (mark_of u))) (tells_eq (full_length (parts_of u)) (length u)))))

pub ranges_tell : (p : Parts) → Tells (rangesb p) (Ranges p)
unfolding rangesb
ranges_tell p =
    tells_as
    (λ r. record { d_least = r.0; d_most = r.1.0; f_most = r.1.1.0; e_most = r.1.1.1.0; p_most = r.1.1.1.1.0; n_least = r.1.1.1.1.1.0; n_most = r.1.1.1.1.1.1 })
    (λ r. (r.d_least, (r.d_most, (r.f_most, (r.e_most, (r.p_most, (r.n_least, r.n_most)))))))
    (tells_and (tells_le 1 p.d)
    (tells_and (tells_le p.d 16383)
    (tells_and (tells_le p.f 512)
    (tells_and (tells_le p.e 16383) (tells_and (tells_le p.p 4095) (tells_and (tells_le 1 p.n) (tells_le p.n 2048)))))))

-- ---- the check

module _ (u : List ℕ) where
  abbrev parts : Parts
  parts = parts_of u

  abbrev code : Code
  code = code_of u (parts_of u)

  abbrev good : ℕ
  good = good_fields code parts.f 0 0

  -- what the check of the statements says, after checks 1 to 3
  after_fields : FirstThree u → (r : Result Parts Refusal) → Scans u parts r → Says u r
  after_fields o (Ok q) s =
      rw s.0 (record { filled = o.filled; parts = refl; ranges = o.ranges; code = record { entries = o.entries; statements = s.1 } })
  after_fields o (Err refusal.NotFilled) s = absurd s
  after_fields o (Err refusal.BadRange) s = absurd s
  after_fields o (Err (refusal.BadField i)) s = absurd s
  after_fields o (Err (refusal.BadExpression i)) s = (o, s)
  after_fields o (Err (refusal.BadStatement i)) s = (o, s)

  pub check_says : Says u (check_of u)
  unfolding check_of parts_check
  check_says = by (filledb u) (rangesb parts) (ltb good parts.f) refl refl refl
    where
      upto : Upto code parts.f good
      upto = fields_upto code parts.f

      by : (x y z : Bool) → filledb u ≡ x → rangesb parts ≡ y → ltb good parts.f ≡ z
          → Says u (cond x (cond y (cond z (Err (refusal.BadField good)) (statements_from u parts parts.n 0)) (Err refusal.BadRange)) (Err refusal.NotFilled))
      by true true true e f g =
          let l = ltb-true good parts.f g in
          ((filled_tells u).to e, (ranges_tell parts).to f, record { low = l; before = upto.before; breaks = upto.breaks l })
      by true true false e f g =
          let l = ltb-false good parts.f g in
          let o : FirstThree u = record { filled = (filled_tells u).to e; ranges = (ranges_tell parts).to f; entries = λ i h. upto.before i (omega arith) } in
          after_fields o (statements_from u parts parts.n 0) (statements_say u parts)
      by true false z e f g = ((filled_tells u).to e, tells_fails (ranges_tell parts) f)
      by false y z e f g = tells_fails (filled_tells u) e

  -- ---- and back

  unfilled : (Filled u → ⊥) → check_of u ≡ Err refusal.NotFilled
  unfolding check_of
  unfilled n = rw (tells_no (filled_tells u) n)

  refused_range : Filled u → (Ranges parts → ⊥) → check_of u ≡ Err refusal.BadRange
  unfolding check_of parts_check
  refused_range w n = rw ((filled_tells u).of w, tells_no (ranges_tell parts) n)

  refused_field : (i : ℕ) → Filled u → Ranges parts → FirstField code i → check_of u ≡ Err (refusal.BadField i)
  unfolding check_of parts_check
  refused_field i w r f =
      let e : good ≡ i = upto_only code parts.f good i (fields_upto code parts.f) (record { low = omega (arith, f.low); before = f.before; breaks = λ l. f.breaks }) in
      rw ((filled_tells u).of w, (ranges_tell parts).of r, e, lt-ltb i parts.f f.low)

  -- after checks 1 to 3 the answer is that of the statements
  in_order : FirstThree u → check_of u ≡ statements_from u parts parts.n 0
  unfolding check_of parts_check
  in_order o =
      let e : good ≡ parts.f = upto_only code parts.f good parts.f (fields_upto code parts.f) (record { low = omega arith; before = o.entries; breaks = λ l. absurd (omega arith) }) in
      rw ((filled_tells u).of o.filled, (ranges_tell parts).of o.ranges, e, le-ltb parts.f parts.f (omega arith))

  pub check_only : (r : Result Parts Refusal) → Says u r → check_of u ≡ r
  check_only (Ok p) s =
      subst (λ (q : Parts). SoundUnit u q → check_of u ≡ Ok q) (sym s.parts) passed s
    where
      passed : SoundUnit u parts → check_of u ≡ Ok parts
      passed s =
          in_order (record { filled = s.filled; ranges = s.ranges; entries = s.code.entries }) ∙ statements_pass u parts s.code.statements
  check_only (Err refusal.NotFilled) s = unfilled s
  check_only (Err refusal.BadRange) s = refused_range s.0 s.1
  check_only (Err (refusal.BadField i)) s = refused_field i s.0 s.1 s.2
  check_only (Err (refusal.BadExpression i)) s = in_order s.0 ∙ statements_use u parts i s.1
  check_only (Err (refusal.BadStatement i)) s = in_order s.0 ∙ statements_shape u parts i s.1

  -- ---- the same for callers

  says_of : (r : Result Parts Refusal) → check_of u ≡ r → Says u r
  says_of r e = subst (λ (x : Result Parts Refusal). Says u x) e check_says

module _ (u : List ℕ) (p : Parts) where
  pub passed_sound : check_of u ≡ Ok p → SoundUnit u p
  passed_sound e = says_of u (Ok p) e

  pub sound_passed : SoundUnit u p → check_of u ≡ Ok p
  sound_passed s = check_only u (Ok p) s

  pub passed_parts : check_of u ≡ Ok p → p ≡ parts_of u
  passed_parts e = (passed_sound e).parts

  pub passed_fills : check_of u ≡ Ok p → Fills u p
  passed_fills e = rw (passed_parts e) (passed_sound e).filled.fills

-- v is the answer of the check
module _ (u : List ℕ) (v : Result Parts Refusal) (is : v ≡ check_of u) (p : Parts) (e : v ≡ Ok p) where
  pub passed_by : check_of u ≡ Ok p
  passed_by = sym is ∙ e

  pub fills_by : Fills u p
  fills_by = passed_fills u p passed_by

-- ---- a byte belongs to one decimal field

pub one_field : (c : Code) → SoundCode c → (f g b : ℕ) → f < c.fields → g < c.fields → decimalb c f ≡ true → decimalb c g ≡ true
    → offset_of c f ≤ b → b < end_of c f → offset_of c g ≤ b → b < end_of c g → f ≡ g
one_field c s f g b hf hg tf tg w x y z = by (ltb f g) (ltb g f) refl refl
  where
    by : (t v : Bool) → ltb f g ≡ t → ltb g f ≡ v → f ≡ g
    by true v q r = absurd (((s.entries g hg).after f (ltb-true f g q) (decimal_not c f tf) (decimal_not c g tg)).apart b w x y z)
    by false true q r = absurd (((s.entries f hf).after g (ltb-true g f r) (decimal_not c g tg) (decimal_not c f tf)).apart b y z w x)
    by false false q r = omega (arith, ltb-false f g q, ltb-false g f r)
