-- The front of the list of breaking references (document 01, "Fence rules").
--   first_rule_lem     the rule of the first reference of a statement is the one that the statement breaks first; none_left, there is none exactly where it breaks none;
--                  some_left, where it breaks one, the first reference stands in that statement
--   yes_none       the list of a sound unit is empty exactly for a yes
--   no_first       the first reference stands in the statement that a no names; no_rule, and breaks the rule that this one breaks first
--   none_exactly   there is none exactly for a yes and for a refusal
--   rising         the statements rise
-- Assumes nothing.
use Rattle.std.specs.Prelude.{Result, Err, Ok, None, Option, Some}
use Prim.Native.Nat.{ℕ, zero, suc, ◌+◌, ◌≤◌}
use native.Mathlib.Omega.{arith}
use mathlib.Core.Path.{◌≡◌, refl, sym, ap, ◌∙◌, subst}
use mathlib.Core.Bool.{Bool, true, false, cond, false≢true, true≢false}
use mathlib.Core.List.{List, [], ◌∷◌, ◌++◌}
use mathlib.Core.Logic.{◌↔◌, ◌⊎◌, inl, inr}
use lib.Dec.{ltb}
use lib.ListN.{length}
use Rattle.rules_unit.specs.declared.Form.{Form}
use Rattle.rules_unit.specs.declared.Item.{Item}
use Rattle.rules_unit.specs.declared.Item.TheVariants as item
use Rattle.rules_unit.specs.declared.Use.{Use}
use Rattle.rules_unit.specs.declared.Parts.{Parts}
use Rattle.rules_unit.specs.declared.Refusal.{Refusal}
use Rattle.rules_unit.specs.Codes.{Code}
use Rattle.rules_unit.specs.Decode.{width_of, parts_of, code_of}
use Rattle.rules_unit.specs.Table.{uses_of}
use Rattle.rules_unit.specs.Checks.{check_of}
use Rattle.rules_unit.specs.Sound.{SoundUnit}
use Rattle.rules_unit.proofs.Sound.{sound_passed}
use Rattle.rules_fence.specs.declared.Breach.{Breach}
use Rattle.rules_fence.specs.declared.Breach.TheVariants as breach
use Rattle.rules_fence.specs.declared.Broken.{Broken}
use Rattle.rules_fence.specs.declared.Verdict.{Verdict}
use Rattle.rules_fence.specs.declared.Verdict.TheVariants as verdict
use Rattle.rules_fence.specs.declared.Seen.{Seen}
use Rattle.rules_fence.specs.declared.Seen.TheVariants as seen
use Rattle.rules_fence.specs.Bounds.{seen_after}
use Rattle.rules_fence.specs.Fence.{destb}
use Rattle.rules_fence.specs.Breaches.{keepsb, first_of, reference_breach, item_breach, breach_from, use_breach, uses_breach, breach_of, verdict_from, fence_of, breach_by, breach_in}
use Rattle.rules_fence.specs.Listed.{broken_by, reference_broken, item_broken, broken_from, use_broken, uses_broken, broken_of, statements_broken, breaches_by, breaches_of, broken_in_by, broken_in}
use Rattle.rules_fence.specs.Stands.{first_rule, Rising}
use Rattle.rules_fence.proofs.Kept.{none_kept}
use Rattle.rules_fence.proofs.Verdicts.{fence_exactly, breach_in_lem}

pub some_none : (b : Broken) (bs : List Broken) → b ∷ bs ≡ [] → ⊥
some_none b bs e = omega (arith, ap length e)

pub same_head : (b x : Broken) (bs xs : List Broken) → b ∷ bs ≡ x ∷ xs → b ≡ x
same_head b x bs xs e = cc

-- ---- the rule of the first

-- The first of xs breaks the rule r, and there is none where that is no rule.
record Tells (xs : List Broken) (r : Breach) : Type 0 where
  rule : first_rule xs ≡ r
  none : keepsb r ≡ true → xs ≡ []

tells_none : Tells [] breach.None
tells_none = record { rule = refl; none = λ e. refl }

tells_more : (xs ys : List Broken) (r q : Breach) → Tells xs r → Tells ys q → Tells (xs ++ ys) (first_of r q)
tells_more [] ys r q a b = subst (λ (x : Breach). Tells ys (first_of x q)) a.rule b
tells_more (x ∷ xs) ys r q a b = by (keepsb r) refl
  where
    by : (t : Bool) → keepsb r ≡ t → Tells ((x ∷ xs) ++ ys) (cond t q r)
    by true e = absurd (some_none x xs (a.none e))
    by false e = record { rule = a.rule; none = λ w. absurd (false≢true (sym e ∙ w)) }

module _ (c : Code) (i : ℕ) where
  reference_tells : (dest : Bool) (s : Seen) (at : ℕ) (h : Form) (f : ℕ) → Tells (reference_broken c i dest s at h f) (reference_breach c dest h f s)
  reference_tells dest s at h f = by (keepsb (reference_breach c dest h f s)) refl
    where
      by : (t : Bool) → keepsb (reference_breach c dest h f s) ≡ t → Tells (cond t [] (broken_by c i dest s at h f ∷ [])) (reference_breach c dest h f s)
      by true e = record { rule = sym (none_kept (reference_breach c dest h f s) e); none = λ w. refl }
      by false e = record { rule = refl; none = λ w. absurd (false≢true (sym e ∙ w)) }

  item_tells : (dest : Bool) (s : Seen) (at : ℕ) (x : Item) (xs : List Item) → Tells (item_broken c i dest s at x xs) (item_breach c dest s x xs)
  item_tells dest s at (item.Number p l) xs = tells_none
  item_tells dest s at (item.Reference h f) xs = reference_tells (destb dest xs) s at h f
  item_tells dest s at (item.Text p l) xs = tells_none
  item_tells dest s at (item.Operator o) xs = tells_none
  item_tells dest s at item.End xs = tells_none
  item_tells dest s at item.Bad xs = tells_none

  from_tells : (dest : Bool) (s : Seen) (at : ℕ) (is : List Item) → Tells (broken_from c i dest s at is) (breach_from c dest s is)
  unfolding broken_from breach_from
  from_tells dest s at [] = tells_none
  from_tells dest s at (x ∷ xs) =
      tells_more (item_broken c i dest s at x xs) (broken_from c i dest (seen_after c s x) (at + width_of x) xs) (item_breach c dest s x xs)
      (breach_from c dest (seen_after c s x) xs) (item_tells dest s at x xs) (from_tells dest (seen_after c s x) (at + width_of x) xs)

  use_tells : (x : Option Use) → Tells (use_broken c i x) (use_breach c x)
  use_tells None = tells_none
  use_tells (Some u) = from_tells u.written seen.Nothing u.at (c.items u.at)

  uses_tell : (us : List (Option Use)) → Tells (uses_broken c i us) (uses_breach c us)
  unfolding uses_broken uses_breach
  uses_tell [] = tells_none
  uses_tell (x ∷ xs) = tells_more (use_broken c i x) (uses_broken c i xs) (use_breach c x) (uses_breach c xs) (use_tells x) (uses_tell xs)

  statement_tells : Tells (broken_of c i) (breach_of c i)
  unfolding broken_of breach_of
  statement_tells = uses_tell (uses_of c (c.statement i))

-- ---- the statement of each

abbrev Of : ℕ → List Broken → Type 0
Of i [] = Unit {0}
Of i (b ∷ bs) = (b.statement ≡ i) × Of i bs

of_more : (i : ℕ) (xs ys : List Broken) → Of i xs → Of i ys → Of i (xs ++ ys)
of_more i [] ys h k = k
of_more i (x ∷ xs) ys h k = (h.0, of_more i xs ys h.1 k)

module _ (c : Code) (i : ℕ) where
  reference_of : (dest : Bool) (s : Seen) (at : ℕ) (h : Form) (f : ℕ) → Of i (reference_broken c i dest s at h f)
  reference_of dest s at h f = by (keepsb (reference_breach c dest h f s))
    where
      by : (t : Bool) → Of i (cond t [] (broken_by c i dest s at h f ∷ []))
      by true = tt
      by false = (refl, tt)

  item_of : (dest : Bool) (s : Seen) (at : ℕ) (x : Item) (xs : List Item) → Of i (item_broken c i dest s at x xs)
  item_of dest s at (item.Number p l) xs = tt
  item_of dest s at (item.Reference h f) xs = reference_of (destb dest xs) s at h f
  item_of dest s at (item.Text p l) xs = tt
  item_of dest s at (item.Operator o) xs = tt
  item_of dest s at item.End xs = tt
  item_of dest s at item.Bad xs = tt

  from_of : (dest : Bool) (s : Seen) (at : ℕ) (is : List Item) → Of i (broken_from c i dest s at is)
  unfolding broken_from
  from_of dest s at [] = tt
  from_of dest s at (x ∷ xs) =
      of_more i (item_broken c i dest s at x xs) (broken_from c i dest (seen_after c s x) (at + width_of x) xs) (item_of dest s at x xs)
      (from_of dest (seen_after c s x) (at + width_of x) xs)

  use_of_i : (x : Option Use) → Of i (use_broken c i x)
  use_of_i None = tt
  use_of_i (Some u) = from_of u.written seen.Nothing u.at (c.items u.at)

  uses_of_i : (us : List (Option Use)) → Of i (uses_broken c i us)
  unfolding uses_broken
  uses_of_i [] = tt
  uses_of_i (x ∷ xs) = of_more i (use_broken c i x) (uses_broken c i xs) (use_of_i x) (uses_of_i xs)

  statement_of : Of i (broken_of c i)
  unfolding broken_of
  statement_of = uses_of_i (uses_of c (c.statement i))

-- ---- the statements rise

rising_less : (j k : ℕ) (bs : List Broken) → j ≤ k → Rising k bs → Rising j bs
rising_less j k [] l h = tt
rising_less j k (b ∷ bs) l h = (omega (arith, h.0), h.1)

rising_more : (i j : ℕ) (xs ys : List Broken) → j ≤ i → Of i xs → Rising (i + 1) ys → Rising j (xs ++ ys)
rising_more i j [] ys l h r = rising_less j (i + 1) ys (omega arith) r
rising_more i j (x ∷ xs) ys l h r = (omega (arith, h.0), rising_more i x.statement xs ys (omega (arith, h.0)) h.1 r)

rising_from : (c : Code) (k i : ℕ) → Rising i (statements_broken c k i)
unfolding statements_broken
rising_from c zero i = tt
rising_from c (suc k) i = rising_more i i (broken_of c i) (statements_broken c k (i + 1)) (omega arith) (statement_of c i) (rising_from c k (i + 1))

pub rising : (u : List ℕ) → Rising 0 (breaches_of u)
unfolding breaches_of
rising u = by (check_of u)
  where
    by : (x : Result Parts Refusal) → Rising 0 (breaches_by u x)
    by (Ok p) = rising_from (code_of u p) p.n 0
    by (Err r) = tt

-- ---- the fence check and the list

module _ (c : Code) where
  -- What the list is for an answer of the check.
  abbrev Lists : Verdict → List Broken → Type 0
  Lists (verdict.Refused r) bs = ⊥
  Lists verdict.Yes bs = bs ≡ []
  Lists (verdict.No i) bs = (b : Broken) × (rest : List Broken) × (bs ≡ b ∷ rest) × (b.statement ≡ i) × (b.rule ≡ breach_of c i)

  no_lists : (i : ℕ) (xs ys : List Broken) → Tells xs (breach_of c i) → Of i xs → keepsb (breach_of c i) ≡ false → Lists (verdict.No i) (xs ++ ys)
  no_lists i [] ys t o e = absurd (true≢false (ap keepsb t.rule ∙ e))
  no_lists i (x ∷ xs) ys t o e = (x, xs ++ ys, refl, o.0, t.rule)

  from_lists : (k i : ℕ) → Lists (verdict_from c k i) (statements_broken c k i)
  unfolding verdict_from statements_broken
  from_lists zero i = refl
  from_lists (suc k) i = by (keepsb (breach_of c i)) refl (from_lists k (i + 1))
    where
      by : (t : Bool) → keepsb (breach_of c i) ≡ t → Lists (verdict_from c k (i + 1)) (statements_broken c k (i + 1))
          → Lists (cond t (verdict_from c k (i + 1)) (verdict.No i)) (broken_of c i ++ statements_broken c k (i + 1))
      by true e more = rw ((statement_tells c i).none e) more
      by false e more = no_lists i (broken_of c i) (statements_broken c k (i + 1)) (statement_tells c i) (statement_of c i) e

module _ (u : List ℕ) where
  unit_lists : (p : Parts) → check_of u ≡ Ok p → Lists (code_of u p) (fence_of u) (breaches_of u)
  unfolding fence_of breaches_of
  unit_lists p e = rw e (from_lists (code_of u p) p.n 0)

  refused_none : (r : Refusal) → check_of u ≡ Err r → breaches_of u ≡ []
  unfolding breaches_of
  refused_none r e = rw e

  refused_fence : (r : Refusal) → check_of u ≡ Err r → fence_of u ≡ verdict.Refused r
  unfolding fence_of
  refused_fence r e = rw e

  -- Of a sound unit, where the check answers v.
  lists_for : SoundUnit u (parts_of u) → (v : Verdict) → fence_of u ≡ v → Lists (code_of u (parts_of u)) v (breaches_of u)
  lists_for t v e = subst (λ (x : Verdict). Lists (code_of u (parts_of u)) x (breaches_of u)) e (unit_lists (parts_of u) (sound_passed u (parts_of u) t))

  pub yes_none : (fence_of u ≡ verdict.Yes) ↔ SoundUnit u (parts_of u) × (breaches_of u ≡ [])
  yes_none = (λ e. let t = ((fence_exactly u verdict.Yes).0 e).0 in (t, lists_for t verdict.Yes e), λ r. by r.1 (fence_of u) refl (lists_for r.0))
    where
      by : breaches_of u ≡ [] → (v : Verdict) → fence_of u ≡ v → ((v : Verdict) → fence_of u ≡ v → Lists (code_of u (parts_of u)) v (breaches_of u)) → fence_of u ≡ verdict.Yes
      by q (verdict.Refused r) e l = absurd (l (verdict.Refused r) e)
      by q verdict.Yes e l = e
      by q (verdict.No i) e l = let n = l (verdict.No i) e in absurd (some_none n.0 n.1 (sym n.2 ∙ q))

  pub no_first : (i : ℕ) → (fence_of u ≡ verdict.No i) ↔ ((b : Broken) × (bs : List Broken) × (breaches_of u ≡ b ∷ bs) × (b.statement ≡ i))
  no_first i = (
    λ e. let n = lists_for ((fence_exactly u (verdict.No i)).0 e).0 (verdict.No i) e in (n.0, n.1, n.2, n.3),
    λ r. back (check_of u) refl r.0 r.1 r.2 r.3,
  )
    where
      passed : (p : Parts) (v : Verdict) → fence_of u ≡ v → Lists (code_of u p) v (breaches_of u) → (b : Broken) (bs : List Broken) → breaches_of u ≡ b ∷ bs → b.statement ≡ i → fence_of u ≡ verdict.No i
      passed p (verdict.Refused r) e l b bs q w = absurd l
      passed p verdict.Yes e l b bs q w = absurd (some_none b bs (sym q ∙ l))
      passed p (verdict.No j) e l b bs q w =
          let same = same_head l.0 b l.1 bs (sym l.2 ∙ q) in
          let z : j ≡ i = sym l.3 ∙ ap (λ (x : Broken). x.statement) same ∙ w in
          e ∙ ap verdict.No z

      back : (x : Result Parts Refusal) → check_of u ≡ x → (b : Broken) (bs : List Broken) → breaches_of u ≡ b ∷ bs → b.statement ≡ i → fence_of u ≡ verdict.No i
      back (Ok p) e b bs q w = passed p (fence_of u) refl (unit_lists p e) b bs q w
      back (Err r) e b bs q w = absurd (some_none b bs (sym q ∙ refused_none r e))

  pub no_rule : (i : ℕ) → fence_of u ≡ verdict.No i → first_rule (breaches_of u) ≡ breach_in u i
  no_rule i e =
      let t = (fence_exactly u (verdict.No i)).0 e in
      let n = lists_for t.0 (verdict.No i) e in
      ap first_rule n.2 ∙ n.4 ∙ sym (breach_in_lem u (parts_of u) i (sound_passed u (parts_of u) t.0) t.1.low)

  -- There is none exactly for a yes and for a refusal.
  pub none_exactly : (breaches_of u ≡ []) ↔ (fence_of u ≡ verdict.Yes) ⊎ ((r : Refusal) × (fence_of u ≡ verdict.Refused r))
  none_exactly = (λ q. to q (fence_of u) refl, of)
    where
      to : breaches_of u ≡ [] → (v : Verdict) → fence_of u ≡ v → (fence_of u ≡ verdict.Yes) ⊎ ((r : Refusal) × (fence_of u ≡ verdict.Refused r))
      to q (verdict.Refused r) e = inr (r, e)
      to q verdict.Yes e = inl e
      to q (verdict.No i) e = let n = (no_first i).0 e in absurd (some_none n.0 n.1 (sym n.2 ∙ q))

      refused : (r : Refusal) → fence_of u ≡ verdict.Refused r → (x : Result Parts Refusal) → check_of u ≡ x → breaches_of u ≡ []
      refused r e (Ok p) q = absurd (subst (λ (v : Verdict). Lists (code_of u p) v (breaches_of u)) e (unit_lists p q))
      refused r e (Err x) q = refused_none x q

      of : (fence_of u ≡ verdict.Yes) ⊎ ((r : Refusal) × (fence_of u ≡ verdict.Refused r)) → breaches_of u ≡ []
      of (inl e) = (yes_none.0 e).1
      of (inr (r, e)) = refused r e (check_of u) refl

  -- ---- one statement

  in_tells : (i : ℕ) → Tells (broken_in u i) (breach_in u i)
  unfolding broken_in breach_in
  in_tells i = by (check_of u)
    where
      low : (p : Parts) (t : Bool) → Tells (cond t (broken_of (code_of u p) i) []) (cond t (breach_of (code_of u p) i) breach.None)
      low p true = statement_tells (code_of u p) i
      low p false = tells_none

      by : (x : Result Parts Refusal) → Tells (broken_in_by u i x) (breach_by u i x)
      by (Ok p) = low p (ltb i p.n)
      by (Err r) = tells_none

  pub first_rule_lem : (i : ℕ) → first_rule (broken_in u i) ≡ breach_in u i
  first_rule_lem i = (in_tells i).rule

  pub none_left : (i : ℕ) → (broken_in u i ≡ []) ↔ (breach_in u i ≡ breach.None)
  none_left i = (λ e. sym (first_rule_lem i) ∙ ap first_rule e, λ e. (in_tells i).none (ap keepsb e))

  in_of : (i : ℕ) → Of i (broken_in u i)
  unfolding broken_in
  in_of i = by (check_of u)
    where
      low : (p : Parts) (t : Bool) → Of i (cond t (broken_of (code_of u p) i) [])
      low p true = statement_of (code_of u p) i
      low p false = tt

      by : (x : Result Parts Refusal) → Of i (broken_in_by u i x)
      by (Ok p) = low p (ltb i p.n)
      by (Err r) = tt

  pub some_left : (i : ℕ) → (breach_in u i ≡ breach.None → ⊥) → (b : Broken) × (bs : List Broken) × (broken_in u i ≡ b ∷ bs) × (b.statement ≡ i)
  some_left i n = by (broken_in u i) refl (in_of i)
    where
      by : (xs : List Broken) → broken_in u i ≡ xs → Of i xs → (b : Broken) × (bs : List Broken) × (broken_in u i ≡ b ∷ bs) × (b.statement ≡ i)
      by [] e o = absurd (n ((none_left i).0 e))
      by (x ∷ xs) e o = (x, xs, e, o.0)
