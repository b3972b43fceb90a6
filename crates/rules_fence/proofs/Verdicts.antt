-- The fence check's answers (document 01, "Fence rules"): each is given exactly when what it says is so. A yes to a sound unit whose statements
-- all keep the rules, a no with the first statement that breaks one, and a refusal that is the check's own.
-- Assumes nothing.
use Rattle.std.specs.Prelude.{Result, Err, Ok}
use Prim.Native.Nat.{ℕ, zero, suc, ◌+◌, ◌<◌}
use native.Mathlib.Omega.{arith}
use mathlib.Core.Path.{◌≡◌, refl, sym, ap, ◌∙◌, subst}
use mathlib.Core.Bool.{Bool, true, false, cond, false≢true}
use mathlib.Core.Logic.{◌↔◌}
use mathlib.Core.List.{List}
use lib.Dec.{ltb}
use borrow.Author.Tests.{ltb-true, ltb-false, lt-ltb}
use Rattle.rules_unit.specs.declared.Parts.{Parts}
use Rattle.rules_unit.specs.declared.Refusal.{Refusal}
use Rattle.rules_unit.specs.Codes.{Code}
use Rattle.rules_unit.specs.Decode.{parts_of, code_of}
use Rattle.rules_unit.specs.Checks.{check_of}
use Rattle.rules_unit.specs.Sound.{SoundCode, SoundUnit}
use Rattle.rules_unit.specs.Answers.{Says}
use Rattle.rules_unit.proofs.Sound.{passed_sound, sound_passed, passed_parts, check_says, check_only}
use Rattle.rules_unit.proofs.Tells.{one_more}
use Rattle.rules_fence.specs.declared.Breach.{Breach}
use Rattle.rules_fence.specs.declared.Breach.TheVariants as breach
use Rattle.rules_fence.specs.declared.Verdict.{Verdict}
use Rattle.rules_fence.specs.declared.Verdict.TheVariants as verdict
use Rattle.rules_fence.specs.Fence.{StatementFenced, Fenced, Breaks}
use Rattle.rules_fence.specs.Breaches.{keepsb, breach_of, verdict_from, fence_by, fence_of, breach_in}
use Rattle.rules_fence.specs.Reasons.{StatementBreaks}
use Rattle.rules_fence.specs.Answers.{FenceSays}
use Rattle.rules_fence.proofs.Kept.{none_kept}
use Rattle.rules_fence.proofs.Tests.{statement_tells}
use Rattle.rules_fence.proofs.First.{statement_breaks, statement_named}

-- ---- the statements

module _ (c : Code) (s : SoundCode c) where
  -- What an answer says of a decoded unit.
  abbrev Means : Verdict → Type 0
  Means (verdict.Refused r) = ⊥
  Means verdict.Yes = Fenced c
  Means (verdict.No i) = Breaks c i

  from_means : (k i : ℕ) → i + k ≡ c.statements → ((j : ℕ) → j < i → StatementFenced c (c.statement j)) → Means (verdict_from c k i)
  unfolding verdict_from
  from_means zero i q h = record { all = λ j l. h j (omega arith) }
  from_means (suc k) i q h = by (keepsb (breach_of c i)) refl (from_means k (i + 1) (omega arith))
    where
      by : (t : Bool) → keepsb (breach_of c i) ≡ t → (((j : ℕ) → j < i + 1 → StatementFenced c (c.statement j)) → Means (verdict_from c k (i + 1)))
          → Means (cond t (verdict_from c k (i + 1)) (verdict.No i))
      by true e more = more (one_more (λ j. StatementFenced c (c.statement j)) i h ((statement_tells c s i (omega arith)).to e))
      by false e more =
          record { low = omega arith; breaks = λ r. false≢true (sym e ∙ (statement_tells c s i (omega arith)).of r); before = h }

  -- A statement has no breach exactly when it keeps the rules.
  pub keeps_exactly : (i : ℕ) → i < c.statements → (breach_of c i ≡ breach.None) ↔ StatementFenced c (c.statement i)
  keeps_exactly i h = (λ e. (statement_tells c s i h).to (ap keepsb e), λ r. none_kept (breach_of c i) ((statement_tells c s i h).of r))

  -- A statement has a breach exactly when that rule is the one that it breaks first.
  pub reason_exactly : (i : ℕ) → i < c.statements → (b : Breach) → (b ≡ breach.None → ⊥) → (breach_of c i ≡ b) ↔ StatementBreaks c (c.statement i) b
  reason_exactly i h b z = (λ e. subst (StatementBreaks c (c.statement i)) e (statement_breaks c s i h (λ q. z (sym e ∙ q))), statement_named c s i h b z)

  same_first : (i j : ℕ) → Breaks c i → Breaks c j → i ≡ j
  same_first i j a b = by (ltb i j) (ltb j i) refl refl
    where
      by : (x y : Bool) → ltb i j ≡ x → ltb j i ≡ y → i ≡ j
      by true y e f = absurd (a.breaks (b.before i (ltb-true i j e)))
      by false true e f = absurd (b.breaks (a.before j (ltb-true j i f)))
      by false false e f = omega (arith, ltb-false i j e, ltb-false j i f)

-- ---- the unit

module _ (u : List ℕ) where
  says_means : (t : SoundUnit u (parts_of u)) (v : Verdict) → Means (code_of u (parts_of u)) t.code v → FenceSays u v
  says_means t (verdict.Refused r) m = absurd m
  says_means t verdict.Yes m = (t, m)
  says_means t (verdict.No i) m = (t, m)

  pub fence_says : FenceSays u (fence_of u)
  unfolding fence_of
  fence_says = by (check_of u) refl
    where
      passed : SoundUnit u (parts_of u) → FenceSays u (verdict_from (code_of u (parts_of u)) (parts_of u).n 0)
      passed t =
          says_means t (verdict_from (code_of u (parts_of u)) (parts_of u).n 0)
          (from_means (code_of u (parts_of u)) t.code (parts_of u).n 0 (omega arith) (λ j h. absurd (omega arith)))

      by : (x : Result Parts Refusal) → check_of u ≡ x → FenceSays u (fence_by u x)
      by (Ok p) e =
          let q = passed_parts u p e in
          subst (λ (p : Parts). FenceSays u (verdict_from (code_of u p) p.n 0)) (sym q) (passed (subst (SoundUnit u) q (passed_sound u p e)))
      by (Err r) e = subst (Says u) e (check_says u)

  not_both : (r : Refusal) → SoundUnit u (parts_of u) → Says u (Err r) → ⊥
  not_both r t h = let q = sound_passed u (parts_of u) t in let e = check_only u (Err r) h in let z : ◌≡◌ {A = ℕ} 0 1 = cc in omega arith

  one_answer : (v w : Verdict) → FenceSays u v → FenceSays u w → v ≡ w
  one_answer (verdict.Refused r) (verdict.Refused x) a b =
      let e = check_only u (Err r) a in let f = check_only u (Err x) b in let q : r ≡ x = cc in ap verdict.Refused q
  one_answer (verdict.Refused r) verdict.Yes a b = absurd (not_both r b.0 a)
  one_answer (verdict.Refused r) (verdict.No j) a b = absurd (not_both r b.0 a)
  one_answer verdict.Yes (verdict.Refused x) a b = absurd (not_both x a.0 b)
  one_answer verdict.Yes verdict.Yes a b = refl
  one_answer verdict.Yes (verdict.No j) a b = absurd (b.1.breaks (a.1.all j b.1.low))
  one_answer (verdict.No i) (verdict.Refused x) a b = absurd (not_both x a.0 b)
  one_answer (verdict.No i) verdict.Yes a b = absurd (a.1.breaks (b.1.all i a.1.low))
  one_answer (verdict.No i) (verdict.No j) a b = ap verdict.No (same_first (code_of u (parts_of u)) a.0.code i j a.1 b.1)

  -- Each answer is given exactly when what it says is so.
  pub fence_exactly : (v : Verdict) → (fence_of u ≡ v) ↔ FenceSays u v
  fence_exactly v = (λ e. subst (FenceSays u) e fence_says, λ h. one_answer (fence_of u) v fence_says h)

  -- ---- the breach of a statement

  pub breach_in_lem : (p : Parts) (i : ℕ) → check_of u ≡ Ok p → i < p.n → breach_in u i ≡ breach_of (code_of u p) i
  unfolding breach_in
  breach_in_lem p i e h = rw (e, lt-ltb i p.n h)

  -- The statement that a no names has a breach.
  pub breach_named : (i : ℕ) → fence_of u ≡ verdict.No i → breach_in u i ≡ breach.None → ⊥
  breach_named i e q =
      let t = (fence_exactly (verdict.No i)).0 e in
      let z = breach_in_lem (parts_of u) i (sound_passed u (parts_of u) t.0) t.1.low in
      t.1.breaks ((keeps_exactly (code_of u (parts_of u)) t.0.code i t.1.low).0 (sym z ∙ q))
