-- Expressions (document 01, "The coded unit"): the test of a use tells that its expression is well formed, and of the sort that is wanted.
--   Chain is n k     the tests that the items is pass, where n values are held after an item of the sort k
--   text_tells       textb tells TextSound
--   use_tells        useb tells UseSound
-- Assumes nothing.
use Rattle.std.specs.Prelude.{None, Option, Some}
use Prim.Native.Nat.{ℕ, zero, suc, ◌+◌, ◌-◌, ◌<◌, ◌≤◌}
use native.Mathlib.Omega.{arith}
use mathlib.Core.Path.{◌≡◌, refl, sym, ap, ◌∙◌, subst}
use mathlib.Core.Bool.{Bool, true, false, cond, false≢true, true≢false}
use mathlib.Core.List.{List, [], ◌∷◌, ◌++◌, append_assoc, append-nil}
use mathlib.Core.Logic.{◌⊎◌, inl, inr}
use lib.Dec.{leb, eqb}
use lib.ListN.{length, get_or, take, drop, length-append}
use Rattle.rules.specs.Values.{is_from}
use Rattle.rules_unit.specs.declared.Item.{Item}
use Rattle.rules_unit.specs.declared.Item.TheVariants as item
use Rattle.rules_unit.specs.declared.Sort.{Sort}
use Rattle.rules_unit.specs.declared.Sort.TheVariants as sort
use Rattle.rules_unit.specs.declared.Want.{Want}
use Rattle.rules_unit.specs.declared.Want.TheVariants as want
use Rattle.rules_unit.specs.declared.Use.{Use}
use Rattle.rules_unit.specs.Codes.{Code, decimalb}
use Rattle.rules_unit.specs.Expressions.{digitsb, takes, numberb, textb, itemb, place_sort, sort_of, goes_on, sort_from, sort_at, suits, useb}
use Rattle.rules_unit.specs.WellFormed.{AllDigits, NumberSound, TextSound, ItemSound, taken, held, IsNumber, Wanted, WellFormed, UseSound}
use Rattle.rules_unit.proofs.Sorts.{wrong_suits}
use Rattle.rules_unit.proofs.Tells.{Tells, tells_lt, tells_le, tells_eq, tells_true, tells_false, tells_as, tells_and}

-- ---- items

-- a test that is its own statement
pub tells_self : (t : Bool) → Tells t (t ≡ true)
tells_self t = record { to = λ e. e; of = λ e. e }

digits_tell : (s : List ℕ) → Tells (digitsb s) (AllDigits s)
unfolding digitsb
digits_tell [] = record { to = λ e. record { each = λ k h. absurd (omega arith) }; of = λ f. refl }
digits_tell (b ∷ bs) = tells_as to of (tells_and (tells_self (is_from 48 b)) (digits_tell bs))
  where
    each : (is_from 48 b ≡ true) × AllDigits bs → (k : ℕ) → k < length (b ∷ bs) → is_from 48 (get_or (b ∷ bs) k 0) ≡ true
    each r zero h = r.0
    each r (suc k) h = r.1.each k (omega arith)

    to : (is_from 48 b ≡ true) × AllDigits bs → AllDigits (b ∷ bs)
    to r = record { each = each r }

    of : AllDigits (b ∷ bs) → (is_from 48 b ≡ true) × AllDigits bs
    of d = (d.each zero (omega arith), record { each = λ k h. d.each (suc k) (omega arith) })

module _ (c : Code) where
  number_tells : (place len : ℕ) → Tells (numberb c place len) (NumberSound c place len)
  unfolding numberb
  number_tells place len =
      tells_as (λ r. record { some = r.0; short = r.1.0; inside = r.1.1.0; digits = r.1.1.1 }) (λ r. (r.some, (r.short, (r.inside, r.digits))))
      (tells_and (tells_le 1 len) (tells_and (tells_le len c.dialect.limit) (tells_and (tells_le (place + len) (length c.literals)) (digits_tell (take len (drop place c.literals))))))

  pub text_tells : (place len : ℕ) → Tells (textb c place len) (TextSound c place len)
  unfolding textb
  text_tells place len =
      tells_as (λ r. record { some = r.0; inside = r.1 }) (λ r. (r.some, r.inside)) (tells_and (tells_le 1 len) (tells_le (place + len) (length c.literals)))

  item_tells : (i : Item) → Tells (itemb c i) (ItemSound c i)
  item_tells (item.Number place len) = number_tells place len
  item_tells (item.Reference h field) = tells_lt field c.fields
  item_tells (item.Text place len) = text_tells place len
  item_tells (item.Operator o) = tells_true
  item_tells item.End = tells_false
  item_tells item.Bad = tells_false

  -- ---- the sort of an item

  nothing : (P : Type 0) → (P → ⊥) → Tells false P
  nothing P n = record { to = λ e. absurd (false≢true e); of = λ x. absurd (n x) }

  something : (P : Type 0) → P → Tells true P
  something P x = record { to = λ e. x; of = λ y. refl }

  neither : {P Q : Type 0} → (P → ⊥) → (Q → ⊥) → P ⊎ Q → ⊥
  neither f g (inl x) = f x
  neither f g (inr y) = g y

  no : ⊥ → ⊥
  no x = x

  -- What may stand before another item.
  goes_tells : (i : Item) → Tells (goes_on (sort_of c i)) (IsNumber c i)
  goes_tells (item.Number place len) = something _ (inl tt)
  goes_tells (item.Reference h field) = by (decimalb c field)
    where
      by : (t : Bool) → Tells (goes_on (place_sort t)) (⊥ ⊎ (t ≡ true))
      by true = something _ (inr refl)
      by false = nothing _ (neither no false≢true)
  goes_tells (item.Text place len) = nothing _ (neither no no)
  goes_tells (item.Operator o) = something _ (inl tt)
  goes_tells item.End = nothing _ (neither no no)
  goes_tells item.Bad = nothing _ (neither no no)

  -- What a use wants of the last item.
  wanted_tells : (w : Want) (i : Item) → Tells (suits w (sort_of c i)) (Wanted c w i)
  wanted_tells want.Place (item.Number place len) = nothing _ (neither no no)
  wanted_tells want.Place (item.Reference h field) = by (decimalb c field)
    where
      by : (t : Bool) → Tells (suits want.Place (place_sort t)) ((t ≡ true) ⊎ (t ≡ false))
      by true = something _ (inl refl)
      by false = something _ (inr refl)
  wanted_tells want.Place (item.Text place len) = nothing _ (neither no no)
  wanted_tells want.Place (item.Operator o) = nothing _ (neither no no)
  wanted_tells want.Place item.End = nothing _ (neither no no)
  wanted_tells want.Place item.Bad = nothing _ (neither no no)
  wanted_tells want.DecimalPlace (item.Number place len) = tells_false
  wanted_tells want.DecimalPlace (item.Reference h field) = by (decimalb c field)
    where
      by : (t : Bool) → Tells (suits want.DecimalPlace (place_sort t)) (t ≡ true)
      by true = something _ refl
      by false = nothing _ false≢true
  wanted_tells want.DecimalPlace (item.Text place len) = tells_false
  wanted_tells want.DecimalPlace (item.Operator o) = tells_false
  wanted_tells want.DecimalPlace item.End = tells_false
  wanted_tells want.DecimalPlace item.Bad = tells_false
  wanted_tells want.AlphaPlace (item.Number place len) = tells_false
  wanted_tells want.AlphaPlace (item.Reference h field) = by (decimalb c field)
    where
      by : (t : Bool) → Tells (suits want.AlphaPlace (place_sort t)) (t ≡ false)
      by true = nothing _ true≢false
      by false = something _ refl
  wanted_tells want.AlphaPlace (item.Text place len) = tells_false
  wanted_tells want.AlphaPlace (item.Operator o) = tells_false
  wanted_tells want.AlphaPlace item.End = tells_false
  wanted_tells want.AlphaPlace item.Bad = tells_false
  wanted_tells want.Source (item.Number place len) = something _ (inl (inl tt))
  wanted_tells want.Source (item.Reference h field) = by (decimalb c field)
    where
      by : (t : Bool) → Tells (suits want.Source (place_sort t)) ((⊥ ⊎ (t ≡ true)) ⊎ (⊥ ⊎ (t ≡ false)))
      by true = something _ (inl (inr refl))
      by false = something _ (inr (inr refl))
  wanted_tells want.Source (item.Text place len) = something _ (inr (inl tt))
  wanted_tells want.Source (item.Operator o) = something _ (inl (inl tt))
  wanted_tells want.Source item.End = nothing _ (neither (neither no no) (neither no no))
  wanted_tells want.Source item.Bad = nothing _ (neither (neither no no) (neither no no))
  wanted_tells want.Number (item.Number place len) = something _ (inl tt)
  wanted_tells want.Number (item.Reference h field) = by (decimalb c field)
    where
      by : (t : Bool) → Tells (suits want.Number (place_sort t)) (⊥ ⊎ (t ≡ true))
      by true = something _ (inr refl)
      by false = nothing _ (neither no false≢true)
  wanted_tells want.Number (item.Text place len) = nothing _ (neither no no)
  wanted_tells want.Number (item.Operator o) = something _ (inl tt)
  wanted_tells want.Number item.End = nothing _ (neither no no)
  wanted_tells want.Number item.Bad = nothing _ (neither no no)
  wanted_tells want.AlphaSource (item.Number place len) = nothing _ (neither no no)
  wanted_tells want.AlphaSource (item.Reference h field) = by (decimalb c field)
    where
      by : (t : Bool) → Tells (suits want.AlphaSource (place_sort t)) (⊥ ⊎ (t ≡ false))
      by true = nothing _ (neither no true≢false)
      by false = something _ (inr refl)
  wanted_tells want.AlphaSource (item.Text place len) = something _ (inl tt)
  wanted_tells want.AlphaSource (item.Operator o) = nothing _ (neither no no)
  wanted_tells want.AlphaSource item.End = nothing _ (neither no no)
  wanted_tells want.AlphaSource item.Bad = nothing _ (neither no no)

  -- ---- the test, item by item

  abbrev Chain : List Item → ℕ → Sort → Type 0
  Chain [] n k = n ≡ 1
  Chain (i ∷ is) n k =
      (goes_on k ≡ true) × ((itemb c i ≡ true) × ((takes i ≤ n) × ((n - takes i + 1 ≤ 16) × Chain is (n - takes i + 1) (sort_of c i))))

  -- The sort after the items is, which stand behind an item of the sort k.
  abbrev sort_after : Sort → List Item → Sort
  sort_after k [] = k
  sort_after k (i ∷ is) = sort_after (sort_of c i) is

  module _ (w : Want) where
    -- A test, then the rest.
    if_tells : (t : Bool) (a : Sort) {P Q : Type 0} → Tells t P → Tells (suits w a) Q → Tells (suits w (cond t a sort.Wrong)) (P × Q)
    if_tells t a {P} {Q} p q = subst (λ (x : Bool). Tells x (P × Q)) (by t) (tells_and p q)
      where
        by : (t : Bool) → cond t (suits w a) false ≡ suits w (cond t a sort.Wrong)
        by true = refl
        by false = sym (wrong_suits w)

    chain_tells : (is : List Item) (n : ℕ) (k : Sort) → Tells (suits w (sort_from c is n k)) (Chain is n k × (suits w (sort_after k is) ≡ true))
    unfolding sort_from
    chain_tells [] n k = if_tells (eqb n 1) k (tells_eq n 1) (tells_self (suits w k))
    chain_tells (i ∷ is) n k =
        tells_as (λ r. ((r.0, (r.1.0, (r.1.1.0, (r.1.1.1.0, r.1.1.1.1.0)))), r.1.1.1.1.1))
        (λ r. (r.0.0, (r.0.1.0, (r.0.1.1.0, (r.0.1.1.1.0, (r.0.1.1.1.1, r.1))))))
        (if_tells (goes_on k) _ (tells_self (goes_on k))
        (if_tells (itemb c i) _ (tells_self (itemb c i))
        (if_tells (leb (takes i) n) _ (tells_le (takes i) n)
        (if_tells (leb (n - takes i + 1) 16) _ (tells_le (n - takes i + 1) 16)
        (chain_tells is (n - takes i + 1) (sort_of c i))))))

  -- ---- what is held on the way

  record Along (before rest : List Item) (n : ℕ) (k : Sort) : Type 0 where
    now : ℕ
    same : now + taken before ≡ n + length before
    few : now ≤ 16
    chain : Chain rest now (sort_after k before)

  along : (before rest : List Item) (n : ℕ) (k : Sort) → n ≤ 16 → Chain (before ++ rest) n k → Along before rest n k
  unfolding taken
  along [] rest n k l h = record { now = n; same = omega arith; few = l; chain = h }
  along (i ∷ before) rest n k l h =
      let x = along before rest (n - takes i + 1) (sort_of c i) h.1.1.1.0 h.1.1.1.1 in
      record { now = x.now; same = omega (arith, x.same, h.1.1.0); few = x.few; chain = x.chain }

  taken_append : (a b : List Item) → taken (a ++ b) ≡ taken a + taken b
  unfolding taken
  taken_append [] b = omega arith
  taken_append (i ∷ a) b = omega (arith, taken_append a b)

  taken_one : (a : List Item) (i : Item) → taken (a ++ (i ∷ [])) ≡ taken a + takes i
  unfolding taken
  taken_one a i = omega (arith, taken_append a (i ∷ []))

  after_last : (k : Sort) (front : List Item) (last : Item) → sort_after k (front ++ (last ∷ [])) ≡ sort_of c last
  after_last k [] last = refl
  after_last k (i ∷ front) last = after_last (sort_of c i) front last

  record Split (is : List Item) : Type 0 where
    front : List Item
    last : Item
    ends : is ≡ front ++ (last ∷ [])

  split : (i : Item) (is : List Item) → Split (i ∷ is)
  split i [] = record { front = []; last = i; ends = refl }
  split i (j ∷ is) = let x = split j is in record { front = i ∷ x.front; last = x.last; ends = ap (λ (l : List Item). i ∷ l) x.ends }

  module _ (w : Want) (is : List Item) where
    formed_to : Chain is 0 sort.Number → suits w (sort_after sort.Number is) ≡ true → WellFormed c w is
    formed_to h q =
        record {
          own = λ before after i e. (item_tells i).to (at before (i ∷ after) e).chain.1.0;
          there = λ before after i e. let x = at before (i ∷ after) e in omega (arith, x.same, x.chain.1.1.0);
          few = λ before after e. let x = at before after e in omega (arith, x.same, x.few);
          one = let x = at is [] (sym (append-nil is)) in omega (arith, x.same, x.chain);
          inner = λ before after i j e. (goes_tells i).to (at before (i ∷ (j ∷ after)) e).chain.1.1.1.1.0;
          front = cut.front;
          last = cut.last;
          ends = cut.ends;
          wanted = (wanted_tells w cut.last).to (ap (suits w) (sym (after_last sort.Number cut.front cut.last) ∙ ap (sort_after sort.Number) (sym cut.ends)) ∙ q);
        }
      where
        at : (before rest : List Item) → is ≡ before ++ rest → Along before rest 0 sort.Number
        at before rest e = along before rest 0 sort.Number (omega arith) (subst (λ (l : List Item). Chain l 0 sort.Number) e h)

        cut : Split is
        cut = by is h
          where
            by : (l : List Item) → Chain l 0 sort.Number → Split l
            by [] z = absurd (omega (arith, z))
            by (i ∷ l) z = split i l

    module _ (f : WellFormed c w is) where
      -- What stands before the items rest, which are not all.
      abbrev Before : List Item → Sort → Type 0
      Before [] k = Unit {0}
      Before (j ∷ rest) k = goes_on k ≡ true

      chain_of : (before rest : List Item) (n : ℕ) (k : Sort) → is ≡ before ++ rest → n + taken before ≡ length before → Before rest k → Chain rest n k
      chain_of before [] n k e m g =
          let l : is ≡ before = e ∙ append-nil before in
          let o : held before ≡ 1 = subst (λ (x : List Item). held x ≡ 1) l f.one in
          omega arith
      chain_of before (i ∷ rest) n k e m g =
          let there = f.there before rest i e in
          let e' : is ≡ (before ++ (i ∷ [])) ++ rest = e ∙ sym (append_assoc before (i ∷ []) rest) in
          let few = f.few (before ++ (i ∷ [])) rest e' in
          let t = taken_one before i in
          let l = length-append before (i ∷ []) in (
            g,
            (
              (item_tells i).of (f.own before rest i e),
              (omega (arith, there, m), (omega (arith, there, m, few, t, l), chain_of (before ++ (i ∷ [])) rest (n - takes i + 1) (sort_of c i) e' (omega (arith, there, m, t, l)) (on rest e))),
            ),
          )
        where
          on : (rest : List Item) → is ≡ before ++ (i ∷ rest) → Before rest (sort_of c i)
          on [] e = tt
          on (j ∷ rest) e = (goes_tells i).of (f.inner before rest i j e)

      formed_of : Chain is 0 sort.Number × (suits w (sort_after sort.Number is) ≡ true)
      unfolding taken
      formed_of = (
        chain_of [] is 0 sort.Number refl refl (start is),
        ap (λ (l : List Item). suits w (sort_after sort.Number l)) f.ends ∙ ap (suits w) (after_last sort.Number f.front f.last) ∙ (wanted_tells w f.last).of f.wanted,
      )
        where
          start : (l : List Item) → Before l sort.Number
          start [] = tt
          start (i ∷ l) = refl

  pub use_tells : (x : Option Use) → Tells (useb c x) (UseSound c x)
  unfolding sort_at
  use_tells None = tells_true
  use_tells (Some u) =
      tells_as (λ r. formed_to u.want (c.items u.at) r.0 r.1) (λ f. formed_of u.want (c.items u.at) f) (chain_tells u.want (c.items u.at) 0 sort.Number)
