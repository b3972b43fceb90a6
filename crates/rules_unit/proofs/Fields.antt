-- The field entries: good_fields counts those that fit, from the first on. The floor of an entry is the end of the last alpha or decimal entry
-- before it, so holding an entry against the floor is holding it against each of those. Assumes nothing.
use Prim.Native.Nat.{ℕ, zero, suc, ◌+◌, ◌<◌, ◌≤◌}
use native.Mathlib.Omega.{arith}
use native.Mathlib.Nat.{mul-le-mul}
use mathlib.Core.Path.{◌≡◌, refl, sym, ◌∙◌, subst}
use mathlib.Core.Bool.{Bool, true, false, cond, false≢true, true≢false}
use mathlib.Core.Logic.{◌⊎◌, inl, inr}
use lib.Dec.{ltb, eqb}
use borrow.Author.Tests.{ltb-true, ltb-false, eqb-true, eqb-false}
use Rattle.rules_unit.specs.declared.Kind.{Kind}
use Rattle.rules_unit.specs.declared.Kind.TheVariants as kind
use Rattle.rules_unit.specs.Codes.{Code, is_bad, is_decimal, is_record, decimalb, recordb, offset_of, size_of, count_of, end_of}
use Rattle.rules_unit.specs.Checks.{choiceb, entryb, floor_after, good_fields}
use Rattle.rules_unit.specs.Sound.{EntrySound, EntryFits}
use Rattle.rules_unit.proofs.Tells.{Tells, tells_le, tells_eq, tells_true, tells_as, tells_and, tells_not, tells_which, tells_fails, one_more}

decimal_kind : (k : Kind) → is_decimal k ≡ true → is_record k ≡ false
decimal_kind kind.Alpha e = refl
decimal_kind kind.Decimal e = refl
decimal_kind kind.Record e = absurd (false≢true e)
decimal_kind kind.Bad e = refl

-- the two choices
choice_tells : (z : ℕ) → Tells (choiceb z) ((z ≡ 0) ⊎ (z ≡ 0x80))
unfolding choiceb
choice_tells z = tells_as to of (tells_which (eqb z 0) tells_true (tells_eq z 0x80))
  where
    to : (eqb z 0 ≡ true → Unit {0}) × (eqb z 0 ≡ false → z ≡ 0x80) → (z ≡ 0) ⊎ (z ≡ 0x80)
    to r = by (eqb z 0) refl
      where
        by : (t : Bool) → eqb z 0 ≡ t → (z ≡ 0) ⊎ (z ≡ 0x80)
        by true e = inl (eqb-true z 0 e)
        by false e = inr (r.1 e)

    of : (z ≡ 0) ⊎ (z ≡ 0x80) → (eqb z 0 ≡ true → Unit {0}) × (eqb z 0 ≡ false → z ≡ 0x80)
    of (inl e) = (λ _. tt, λ n. absurd (eqb-false z 0 n e))
    of (inr e) = (λ _. tt, λ _. e)

module _ (c : Code) where
  pub decimal_not : (i : ℕ) → decimalb c i ≡ true → recordb c i ≡ false
  decimal_not i t = decimal_kind (c.field i).kind t

  -- ---- one entry

  entry_tells : (i floor : ℕ) → Tells (entryb c i floor) (EntrySound c i × (recordb c i ≡ false → floor ≤ offset_of c i))
  unfolding entryb
  entry_tells i floor =
      tells_as
      (λ r. (
        record {
          known = r.0;
          choice = r.1.0;
          some = r.1.1.0;
          many = r.1.1.1.0;
          inside = r.1.1.1.1.0;
          once = r.1.1.1.1.1.0;
          short = λ t. (r.1.1.1.1.1.1 (decimal_not i t)).1.0 t;
        },
        λ t. (r.1.1.1.1.1.1 t).0,
      ))
      (λ r. (r.0.known, (r.0.choice, (r.0.some, (r.0.many, (r.0.inside, (r.0.once, λ t. (r.1 t, (r.0.short, λ w. tt)))))))))
      (tells_and (tells_not (is_bad (c.field i).kind))
      (tells_and (choice_tells (c.field i).zero)
      (tells_and (tells_le 1 (size_of c i))
      (tells_and (tells_le 1 (count_of c i))
      (tells_and (tells_le (end_of c i) c.size)
      (tells_which (recordb c i) (tells_eq (count_of c i) 1)
      (tells_and (tells_le floor (offset_of c i)) (tells_which (decimalb c i) (tells_le (size_of c i) c.dialect.limit) tells_true))))))))

  -- an entry has at least one byte
  pub some_byte : (i : ℕ) → EntrySound c i → offset_of c i < end_of c i
  some_byte i e = omega (arith, mul-le-mul {n₁ = 1} {m₁ = 1} e.many e.some)

  -- ---- the floor

  -- no alpha or decimal entry before i ends above the floor, and one ends there, if it is not 0
  record Floor (i floor : ℕ) : Type 0 where
    above : (j : ℕ) → j < i → recordb c j ≡ false → end_of c j ≤ floor
    some : 0 < floor → (j : ℕ) × ((j < i) × ((recordb c j ≡ false) × (floor ≡ end_of c j)))

  floor_start : Floor 0 0
  floor_start = record { above = λ j h. absurd (omega arith); some = λ h. absurd (omega arith) }

  -- entry i fits after those before it exactly where it stands at or above the floor
  fits_to : (i floor : ℕ) → Floor i floor → ((j : ℕ) → j < i → EntryFits c j) → EntrySound c i → (recordb c i ≡ false → floor ≤ offset_of c i) → EntryFits c i
  fits_to i floor w before own up =
      record {
        own = own;
        after = λ j h t v.
            let a = w.above j h t in
            let b = up v in
            let f = some_byte j (before j h).own in
            record { rising = omega arith; apart = λ x p q r s. omega arith };
      }

  fits_of : (i floor : ℕ) → Floor i floor → EntryFits c i → recordb c i ≡ false → floor ≤ offset_of c i
  fits_of i floor w e t = by (ltb (offset_of c i) floor) refl
    where
      by : (b : Bool) → ltb (offset_of c i) floor ≡ b → floor ≤ offset_of c i
      by false q = ltb-false (offset_of c i) floor q
      by true q =
          let l = ltb-true (offset_of c i) floor q in
          let s = w.some (omega arith) in
          let o = e.after s.0 s.1.0 s.1.1.0 t in
          let f = some_byte i e.own in
          absurd (o.apart (offset_of c i) (omega (arith, o.rising)) (omega (arith, s.1.1.1)) (omega arith) f)

  floor_next : (i floor : ℕ) → Floor i floor → (recordb c i ≡ false → floor ≤ offset_of c i) → EntrySound c i → Floor (i + 1) (floor_after c i floor)
  floor_next i floor w up own = by (recordb c i) refl
    where
      last : (j : ℕ) → j < i + 1 → ltb j i ≡ false → j ≡ i
      last j h q = omega (arith, ltb-false j i q)

      by : (b : Bool) → recordb c i ≡ b → Floor (i + 1) (cond b floor (end_of c i))
      by true t =
          record {
            above = λ j h v. stays j h v (ltb j i) refl;
            some = λ h. let s = w.some h in (s.0, (omega (arith, s.1.0), s.1.1));
          }
        where
          stays : (j : ℕ) → j < i + 1 → recordb c j ≡ false → (b : Bool) → ltb j i ≡ b → end_of c j ≤ floor
          stays j h v true q = w.above j (ltb-true j i q) v
          stays j h v false q = absurd (true≢false (sym t ∙ subst (λ (x : ℕ). recordb c x ≡ false) (last j h q) v))
      by false t =
          record {
            above = λ j h v. rises j h v (ltb j i) refl;
            some = λ h. (i, (omega arith, (t, refl)));
          }
        where
          rises : (j : ℕ) → j < i + 1 → recordb c j ≡ false → (b : Bool) → ltb j i ≡ b → end_of c j ≤ end_of c i
          rises j h v true q = omega (arith, w.above j (ltb-true j i q) v, up t, some_byte i own)
          rises j h v false q = subst (λ (x : ℕ). end_of c j ≤ end_of c x) (last j h q) (omega arith)

  -- ---- all entries

  -- g is the first of n entries that does not fit, or n
  pub record Upto (n g : ℕ) : Type 0 where
    pub low : g ≤ n
    pub before : (j : ℕ) → j < g → EntryFits c j
    pub breaks : g < n → EntryFits c g → ⊥

  good_upto : (n k i floor : ℕ) → i + k ≡ n → Floor i floor → ((j : ℕ) → j < i → EntryFits c j) → Upto n (good_fields c k i floor)
  unfolding good_fields
  good_upto n zero i floor e w before = record { low = omega arith; before = before; breaks = λ h. absurd (omega arith) }
  good_upto n (suc k) i floor e w before =
      by (entryb c i floor) refl (good_upto n k (i + 1) (floor_after c i floor) (omega arith))
    where
      by : (b : Bool) → entryb c i floor ≡ b
          → (Floor (i + 1) (floor_after c i floor) → ((j : ℕ) → j < i + 1 → EntryFits c j) → Upto n (good_fields c k (i + 1) (floor_after c i floor)))
          → Upto n (cond b (good_fields c k (i + 1) (floor_after c i floor)) i)
      by true q rest =
          let r = (entry_tells i floor).to q in
          rest (floor_next i floor w r.1 r.0) (one_more (EntryFits c) i before (fits_to i floor w before r.0 r.1))
      by false q rest =
          record {
            low = omega arith;
            before = before;
            breaks = λ h f. tells_fails (entry_tells i floor) q (f.own, fits_of i floor w f);
          }

  pub fields_upto : (n : ℕ) → Upto n (good_fields c n 0 0)
  fields_upto n = good_upto n n 0 0 (omega arith) floor_start (λ j h. absurd (omega arith))

  -- there is one such entry
  pub upto_only : (n g h : ℕ) → Upto n g → Upto n h → g ≡ h
  upto_only n g h p q = by (ltb g h) (ltb h g) refl refl
    where
      by : (x y : Bool) → ltb g h ≡ x → ltb h g ≡ y → g ≡ h
      by true y e f = let l = ltb-true g h e in absurd (p.breaks (omega (arith, q.low)) (q.before g l))
      by false true e f = let l = ltb-true h g f in absurd (q.breaks (omega (arith, p.low)) (p.before h l))
      by false false e f = omega (arith, ltb-false g h e, ltb-false h g f)
