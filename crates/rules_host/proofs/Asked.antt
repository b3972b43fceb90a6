-- What a host in C is told of a unit and of a data buffer, and demand 3 where both are asked.
--   yes_told        0 is told for a yes alone
--   valid_told      0 is told where all decimals are valid, and then alone
--   invalid_told_lem    where 22 is told, the answer has the first element that is not valid, and where it starts
--   host_safe       demand 3 of what a call leaves
-- Assumes nothing.
use Prim.Native.Nat.{ℕ, ◌+◌, ◌-◌, ◌≤◌}
use native.Mathlib.Omega.{arith}
use mathlib.Core.Path.{◌≡◌, refl, sym, ap, ◌∙◌, subst}
use mathlib.Core.List.{List, [], ◌∷◌}
use lib.ListN.{length, get_or}
use borrow.Author.Tests.{lt-ltb}
use Rattle.rules_unit.specs.declared.Refusal.{Refusal}
use Rattle.rules_unit.specs.declared.Refusal.TheVariants as refusal
use Rattle.rules_unit.specs.Codes.{element_at}
use Rattle.rules_unit.specs.Decode.{parts_of, code_of}
use Rattle.rules_unit.specs.Checks.{refusal_number}
use Rattle.rules_unit.proofs.Sound.{sound_passed}
use Rattle.rules_run.specs.Stops.{stop_number}
use Rattle.rules_run.specs.States.{Sound}
use Rattle.rules_run.specs.Runs.{Ran, run_of}
use Rattle.rules_fence.specs.declared.Verdict.{Verdict}
use Rattle.rules_fence.specs.declared.Verdict.TheVariants as verdict
use Rattle.rules_fence.specs.declared.Validity.{Validity}
use Rattle.rules_fence.specs.declared.Validity.TheVariants as validity
use Rattle.rules_fence.specs.Breaches.{fence_of}
use Rattle.rules_fence.specs.Safety.{Safe, ErrorsSafe}
use Rattle.rules_fence.specs.Validity.{validity_of, FirstInvalid}
use Rattle.rules_fence.proofs.Demand.{call_safe, call_errors}
use Rattle.rules_fence.proofs.Validities.{validity_exactly}
use Rattle.rules_host.specs.Laid.{laid}
use Rattle.rules_host.specs.Numbers.{state_of}
use Rattle.rules_host.specs.Calls.{Told, fence_told, entry_of, start_in, invalid_told, Handed, handed_of}

-- The numbers of a refusal are 1 to 5.
refused_some : (r : Refusal) → (1 ≤ refusal_number r) × (refusal_number r ≤ 5)
refused_some refusal.NotFilled = (omega arith, omega arith)
refused_some refusal.BadRange = (omega arith, omega arith)
refused_some (refusal.BadField i) = (omega arith, omega arith)
refused_some (refusal.BadExpression i) = (omega arith, omega arith)
refused_some (refusal.BadStatement i) = (omega arith, omega arith)

module _ (u : List ℕ) where
  pub yes_told : (v : Verdict) (a : List ℕ) → (fence_told u v a).value ≡ 0 → v ≡ verdict.Yes
  yes_told (verdict.Refused r) a e = absurd (omega arith)
  yes_told verdict.Yes a e = refl
  yes_told (verdict.No i) a e = absurd (omega arith)

  pub valid_told : (v : Validity) (a : List ℕ) → (invalid_told u v a).value ≡ 0 → v ≡ validity.AllValid
  valid_told (validity.Refused r) a e = absurd (omega (arith, (refused_some r).0))
  valid_told validity.WrongSize a e = absurd (omega arith)
  valid_told validity.AllValid a e = refl
  valid_told (validity.Invalid f k) a e = absurd (omega arith)

-- ---- where an element starts

module _ (u d : List ℕ) where
  starts_at : (f k : ℕ) → validity_of u d ≡ validity.Invalid f (k + 1) → start_in (entry_of u f) (k + 1) ≡ element_at (code_of u (parts_of u)) f k
  unfolding entry_of
  starts_at f k e =
      let r = (validity_exactly u d (validity.Invalid f (k + 1))).0 e in
      let z : k + 1 - 1 ≡ k = omega arith in
      rw (sound_passed u (parts_of u) r.0, lt-ltb f (parts_of u).f r.4.here.low, z)

  -- The four numbers that are laid, where they fit.
  four : (x y z w : ℕ) (a : List ℕ) → 4 ≤ length a → let l = laid (x ∷ y ∷ z ∷ w ∷ []) a in (get_or l 1 0 ≡ y) × (get_or l 2 0 ≡ z) × (get_or l 3 0 ≡ w)
  unfolding laid
  four x y z w [] h = absurd (omega arith)
  four x y z w (p ∷ []) h = absurd (omega arith)
  four x y z w (p ∷ (q ∷ [])) h = absurd (omega arith)
  four x y z w (p ∷ (q ∷ (r ∷ []))) h = absurd (omega arith)
  four x y z w (p ∷ (q ∷ (r ∷ (s ∷ a)))) h = (refl, refl, refl)

  pub invalid_told_lem : (a : List ℕ) (n : ℕ) (m : List ℕ) → ◌≡◌ {A = Told} (record { value = n; answer = m }) (invalid_told u (validity_of u d) a) → n ≡ 22 → 4 ≤ length a
      → (k : ℕ) × (get_or m 2 0 ≡ k + 1) × FirstInvalid (code_of u (parts_of u)) d (get_or m 1 0) k × (get_or m 3 0 ≡ element_at (code_of u (parts_of u)) (get_or m 1 0) k)
  invalid_told_lem a n m post e h = by (validity_of u d) refl (ap (λ (x : Told). x.value) post) (ap (λ (x : Told). x.answer) post)
    where
      by : (v : Validity) → validity_of u d ≡ v → n ≡ (invalid_told u v a).value → m ≡ (invalid_told u v a).answer
          → (k : ℕ) × (get_or m 2 0 ≡ k + 1) × FirstInvalid (code_of u (parts_of u)) d (get_or m 1 0) k × (get_or m 3 0 ≡ element_at (code_of u (parts_of u)) (get_or m 1 0) k)
      by (validity.Refused r) q x y = absurd (omega (arith, (refused_some r).1))
      by validity.WrongSize q x y = absurd (omega arith)
      by validity.AllValid q x y = absurd (omega arith)
      by (validity.Invalid f g) q x y =
          let r = (validity_exactly u d (validity.Invalid f g)).0 q in
          let l = four 22 f g (start_in (entry_of u f) g) a h in
          let is_f : get_or m 1 0 ≡ f = ap (λ (z : List ℕ). get_or z 1 0) y ∙ l.0 in
          let start : start_in (entry_of u f) g ≡ element_at (code_of u (parts_of u)) f r.2 =
          ap (start_in (entry_of u f)) r.3 ∙ starts_at f r.2 (q ∙ ap (validity.Invalid f) r.3) in (
            r.2,
            ap (λ (z : List ℕ). get_or z 2 0) y ∙ l.1 ∙ r.3,
            subst (λ (z : ℕ). FirstInvalid (code_of u (parts_of u)) d z r.2) (sym is_f) r.4,
            ap (λ (z : List ℕ). get_or z 3 0) y ∙ l.2 ∙ start ∙ ap (λ (z : ℕ). element_at (code_of u (parts_of u)) z r.2) (sym is_f),
          )

-- ---- demand 3

pub host_safe : (u d w : List ℕ) (m : ℕ) (a : List ℕ) (h : Handed) → h ≡ handed_of u d w m a → fence_of u ≡ verdict.Yes → validity_of u d ≡ validity.AllValid
    → Sound (code_of u (parts_of u)) (state_of w)
    → (ran : Ran)
    × (h.stop ≡ stop_number ran.outcome.stop)
    × (h.bytes ≡ ran.bytes)
    × (h.answer ≡ laid (stop_number ran.outcome.stop ∷ ran.outcome.place ∷ ran.outcome.count ∷ []) a)
    × Safe (code_of u (parts_of u)) d ran
    × ErrorsSafe (code_of u (parts_of u)) m (state_of w) d
unfolding handed_of
host_safe u d w m a h post y v sound =
    let r = (validity_exactly u d validity.AllValid).0 v in (
      run_of u d (state_of w) m,
      ap (λ (x : Handed). x.stop) post,
      ap (λ (x : Handed). x.bytes) post,
      ap (λ (x : Handed). x.answer) post,
      call_safe u y d r.1 r.2 (state_of w) sound m,
      call_errors u y d r.1 r.2 (state_of w) sound m,
    )
