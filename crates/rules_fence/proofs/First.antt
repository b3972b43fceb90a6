-- The breach of a statement (document 01, "Fence rules"): it is named exactly when the first of its references that breaks a rule breaks that one.
-- Assumes nothing.
use Rattle.std.specs.Prelude.{None, Option, Some}
use Prim.Native.Nat.{ℕ, zero, suc, ◌<◌}
use native.Mathlib.Omega.{arith}
use mathlib.Core.Path.{◌≡◌, refl, ap, ◌∙◌, subst}
use mathlib.Core.Bool.{Bool, true, false, cond, false≢true, true≢false}
use mathlib.Core.List.{List, [], ◌∷◌, ◌++◌, append_assoc}
use lib.ListN.{length, get_or}
use borrow.Author.Tests.{ltb-true}
use Rattle.rules_unit.specs.declared.Item.{Item}
use Rattle.rules_unit.specs.declared.Item.TheVariants as item
use Rattle.rules_unit.specs.declared.Use.{Use}
use Rattle.rules_unit.specs.Codes.{Code}
use Rattle.rules_unit.specs.Expressions.{Known, itemb, useb}
use Rattle.rules_unit.specs.Table.{uses_of}
use Rattle.rules_unit.specs.Sound.{SoundCode}
use Rattle.rules_unit.proofs.Statements.{uses_good}
use Rattle.rules_run.specs.declared.Span.{Span}
use Rattle.rules_fence.specs.declared.Breach.{Breach}
use Rattle.rules_fence.specs.declared.Breach.TheVariants as breach
use Rattle.rules_fence.specs.declared.Seen.{Seen}
use Rattle.rules_fence.specs.declared.Seen.TheVariants as seen
use Rattle.rules_fence.specs.Bounds.{seen_after, seen_in, fixed_span}
use Rattle.rules_fence.specs.Fence.{SpanKept, destb, UseFenced}
use Rattle.rules_fence.specs.Breaches.{keepsb, first_of, item_breach, breach_from, use_breach, uses_breach, breach_of}
use Rattle.rules_fence.specs.Reasons.{ExprBreaks, UseBreaks, UsesBreak, StatementBreaks}
use Rattle.rules_fence.proofs.Bounded.{seen_along}
use Rattle.rules_fence.proofs.Exact.{ItemFenced, AllFenced, expr_to, expr_of}
use Rattle.rules_fence.proofs.Sorts.{known_of}
use Rattle.rules_fence.proofs.Tests.{item_tells, use_tells}
use Rattle.rules_fence.proofs.Reasons.{reference_breaks, reference_named}

-- ---- breaches

some_breach : (b : Breach) → (b ≡ breach.None → ⊥) → keepsb b ≡ false
some_breach breach.None z = absurd (z refl)
some_breach breach.BoundNotLiteral z = refl
some_breach breach.BoundsWrong z = refl
some_breach breach.LeavesField z = refl
some_breach breach.OverElements z = refl
some_breach breach.StopsMidElement z = refl
some_breach breach.OnDecimal z = refl

-- The first of two breaches, where the one before is none, and where it is some.
first_none : (b rest : Breach) → keepsb b ≡ true → first_of b rest ≡ rest
first_none b rest e = rw e

first_some : (x rest b : Breach) → x ≡ b → keepsb b ≡ false → first_of x rest ≡ b
first_some x rest b e k = rw (e, k)

-- Of an expression that is read no item is a destination.
pub read_dest : (is : List Item) → destb false is ≡ false
read_dest [] = refl
read_dest (i ∷ is) = refl

module _ (c : Code) (s : SoundCode c) where
  -- ---- what stands before a reference is read

  read_kept : (dest : Bool) (f : ℕ) (span : Option Span) → SpanKept c dest f span → SpanKept c false f span
  read_kept dest f (Some s) r =
      record {
        from = r.from;
        to = r.to;
        element =
            λ t. let e = r.element t in
            (e.0, record { low = e.1.low; from = e.1.from; to = e.1.to; ends = λ z. absurd (false≢true z) });
        apart = λ t z. absurd (false≢true z);
      }
  read_kept dest f None r = r

  inner_dest : (dest : Bool) (before : List Item) (i : Item) (after : List Item) → destb dest (before ++ (i ∷ after)) ≡ false
  inner_dest dest [] i after = refl
  inner_dest dest (j ∷ before) i after = refl

  item_read : (dest : Bool) (b : Seen) (i : Item) (is rest : List Item) → ItemFenced c dest b i is → ItemFenced c false b i rest
  item_read dest b (item.Number p l) is rest r = tt
  item_read dest b (item.Reference h f) is rest r = rw (read_dest rest) (read_kept (destb dest is) f (fixed_span c h f b) r)
  item_read dest b (item.Text p l) is rest r = tt
  item_read dest b (item.Operator o) is rest r = tt
  item_read dest b item.End is rest r = tt
  item_read dest b item.Bad is rest r = tt

  item_inner : (dest : Bool) (b : Seen) (j : Item) (is before : List Item) (i : Item) (after : List Item) → ItemFenced c false b j is → ItemFenced c dest b j (before ++ (i ∷ after))
  item_inner dest b (item.Number p l) is before i after r = tt
  item_inner dest b (item.Reference h f) is before i after r = rw (inner_dest dest before i after) (read_kept (destb false is) f (fixed_span c h f b) r)
  item_inner dest b (item.Text p l) is before i after r = tt
  item_inner dest b (item.Operator o) is before i after r = tt
  item_inner dest b item.End is before i after r = tt
  item_inner dest b item.Bad is before i after r = tt

  one_further : (b : Seen) (done : List Item) (i : Item) → AllFenced c false b done → ItemFenced c false (seen_in c b done) i [] → AllFenced c false b (done ++ (i ∷ []))
  unfolding seen_in
  one_further b [] i h r = (r, tt)
  one_further b (j ∷ done) i h r = (item_read false b j done (done ++ (i ∷ [])) h.0, one_further (seen_after c b j) done i h.1 r)

  further : (done : List Item) (i : Item) → seen_in c seen.Nothing (done ++ (i ∷ [])) ≡ seen_after c (seen_in c seen.Nothing done) i
  unfolding seen_in
  further done i = seen_along c seen.Nothing done (i ∷ [])

  -- ---- expressions

  module _ (dest : Bool) where
    item_breaks : (done : List Item) (i : Item) (is : List Item) → AllFenced c false seen.Nothing done → itemb c i ≡ true
        → let b = item_breach c dest (seen_in c seen.Nothing done) i is in keepsb b ≡ false → ExprBreaks c dest (done ++ (i ∷ is)) b
    item_breaks done (item.Number p l) is h k e = absurd (true≢false e)
    item_breaks done (item.Reference w f) is h k e =
        record {
          before = done;
          after = is;
          h = w;
          f = f;
          items = refl;
          earlier = expr_of c false done h;
          here = reference_breaks c s (destb dest is) f (ltb-true f c.fields k) w done e;
        }
    item_breaks done (item.Text p l) is h k e = absurd (true≢false e)
    item_breaks done (item.Operator o) is h k e = absurd (true≢false e)
    item_breaks done item.End is h k e = absurd (true≢false e)
    item_breaks done item.Bad is h k e = absurd (true≢false e)

    -- the items is, behind the items done
    from_breaks : (done is : List Item) → AllFenced c false seen.Nothing done → Known c is
        → let b = breach_from c dest (seen_in c seen.Nothing done) is in keepsb b ≡ false → ExprBreaks c dest (done ++ is) b
    unfolding breach_from
    from_breaks done [] h k e = absurd (true≢false e)
    from_breaks done (i ∷ is) h k e =
        by (keepsb (item_breach c dest (seen_in c seen.Nothing done) i is)) refl (λ w. from_breaks (done ++ (i ∷ [])) is w k.1) e
      where
        by : (t : Bool) → keepsb (item_breach c dest (seen_in c seen.Nothing done) i is) ≡ t
            → (AllFenced c false seen.Nothing (done ++ (i ∷ [])) → let b = breach_from c dest (seen_in c seen.Nothing (done ++ (i ∷ []))) is in keepsb b ≡ false → ExprBreaks c dest ((done ++ (i ∷ [])) ++ is) b)
            → let b = cond t (breach_from c dest (seen_after c (seen_in c seen.Nothing done) i) is) (item_breach c dest (seen_in c seen.Nothing done) i is) in keepsb b ≡ false → ExprBreaks c dest (done ++ (i ∷ is)) b
        by true p more e =
            let r = (item_tells c s dest (seen_in c seen.Nothing done) i is k.0).to p in
            let all = one_further seen.Nothing done i h (item_read dest (seen_in c seen.Nothing done) i is [] r) in
            (rw (further done i, append_assoc done (i ∷ []) is) at (more all)) e
        by false p more e = item_breaks done i is h k.0 e

    skip : (b : Seen) (before : List Item) (i : Item) (after : List Item) → AllFenced c false b before → Known c (before ++ (i ∷ after))
        → breach_from c dest b (before ++ (i ∷ after)) ≡ breach_from c dest (seen_in c b before) (i ∷ after)
    unfolding breach_from seen_in
    skip b [] i after h k = refl
    skip b (j ∷ before) i after h k =
        first_none (item_breach c dest b j (before ++ (i ∷ after))) (breach_from c dest (seen_after c b j) (before ++ (i ∷ after)))
        ((item_tells c s dest b j (before ++ (i ∷ after)) k.0).of (item_inner dest b j before before i after h.0))
        ∙ skip (seen_after c b j) before i after h.1 k.1

    pub known_at : (before : List Item) (i : Item) (after : List Item) → Known c (before ++ (i ∷ after)) → itemb c i ≡ true
    known_at [] i after k = k.0
    known_at (j ∷ before) i after k = known_at before i after k.1

    expr_named : (is : List Item) (b : Breach) → Known c is → keepsb b ≡ false → ExprBreaks c dest is b → breach_from c dest seen.Nothing is ≡ b
    unfolding breach_from
    expr_named is b k z r =
        let known = subst (Known c) r.items k in
        let w = item.Reference r.h r.f in
        ap (breach_from c dest seen.Nothing) r.items
        ∙ skip seen.Nothing r.before w r.after (expr_to c false r.before r.earlier) known
        ∙ first_some (item_breach c dest (seen_in c seen.Nothing r.before) w r.after) (breach_from c dest (seen_after c (seen_in c seen.Nothing r.before) w) r.after) b
        (reference_named c s (destb dest r.after) r.f (ltb-true r.f c.fields (known_at r.before w r.after known)) r.h r.before b r.here) z

  -- ---- statements

  use_breaks : (x : Option Use) → useb c x ≡ true → keepsb (use_breach c x) ≡ false → UseBreaks c x (use_breach c x)
  unfolding seen_in
  use_breaks None e z = absurd (true≢false z)
  use_breaks (Some u) e z = from_breaks u.written [] (c.items u.at) tt (known_of c u.want u.at e) z

  use_named : (x : Option Use) (b : Breach) → useb c x ≡ true → keepsb b ≡ false → UseBreaks c x b → use_breach c x ≡ b
  use_named None b e z r = absurd r
  use_named (Some u) b e z r = expr_named u.written (c.items u.at) b (known_of c u.want u.at e) z r

  abbrev Good : List (Option Use) → Type 0
  Good us = (k : ℕ) → k < length us → useb c (get_or us k None) ≡ true

  uses_break : (us : List (Option Use)) → Good us → keepsb (uses_breach c us) ≡ false → UsesBreak c us (uses_breach c us)
  unfolding uses_breach
  uses_break [] e z = absurd (true≢false z)
  uses_break (x ∷ xs) e z = by (keepsb (use_breach c x)) refl (uses_break xs (λ k h. e (suc k) (omega arith))) z
    where
      by : (t : Bool) → keepsb (use_breach c x) ≡ t → (keepsb (uses_breach c xs) ≡ false → UsesBreak c xs (uses_breach c xs))
          → let b = cond t (uses_breach c xs) (use_breach c x) in keepsb b ≡ false → UsesBreak c (x ∷ xs) b
      by true p more z = let r = more z in record { k = suc r.k; low = omega (arith, r.low); earlier = before r.earlier; here = r.here }
        where
          before : {k : ℕ} → ((j : ℕ) → j < k → UseFenced c (get_or xs j None)) → (j : ℕ) → j < suc k → UseFenced c (get_or (x ∷ xs) j None)
          before f zero l = (use_tells c s x (e 0 (omega arith))).to p
          before f (suc j) l = f j (omega arith)
      by false p more z = record { k = 0; low = omega arith; earlier = λ j l. absurd (omega arith); here = use_breaks x (e 0 (omega arith)) z }

  uses_named : (us : List (Option Use)) (b : Breach) → Good us → keepsb b ≡ false → (k : ℕ) → k < length us → ((j : ℕ) → j < k → UseFenced c (get_or us j None))
      → UseBreaks c (get_or us k None) b → uses_breach c us ≡ b
  unfolding uses_breach
  uses_named [] b e z k l f r = absurd (omega arith)
  uses_named (x ∷ xs) b e z zero l f r = first_some (use_breach c x) (uses_breach c xs) b (use_named x b (e 0 (omega arith)) z r) z
  uses_named (x ∷ xs) b e z (suc k) l f r =
      first_none (use_breach c x) (uses_breach c xs) ((use_tells c s x (e 0 (omega arith))).of (f 0 (omega arith)))
      ∙ uses_named xs b (λ j h. e (suc j) (omega arith)) z k (omega arith) (λ j h. f (suc j) (omega arith)) r

  module _ (i : ℕ) (l : i < c.statements) where
    pub statement_breaks : (breach_of c i ≡ breach.None → ⊥) → StatementBreaks c (c.statement i) (breach_of c i)
    unfolding breach_of
    statement_breaks z = uses_break (uses_of c (c.statement i)) (uses_good c i (s.statements i l).uses) (some_breach (breach_of c i) z)

    pub statement_named : (b : Breach) → (b ≡ breach.None → ⊥) → StatementBreaks c (c.statement i) b → breach_of c i ≡ b
    unfolding breach_of
    statement_named b z r = uses_named (uses_of c (c.statement i)) b (uses_good c i (s.statements i l).uses) (some_breach b z) r.k r.low r.earlier r.here
