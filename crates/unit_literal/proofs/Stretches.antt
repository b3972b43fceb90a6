-- Laws of the alpha literal, as its code meets them; and that it lies inside the unit. Assumes nothing.
use Rattle.std.specs.Prelude.{Result, Err, Ok, None}
use Prim.Native.Nat.{ℕ, ◌+◌, ◌-◌, ◌<◌, ◌≤◌}
use native.Mathlib.Omega.{arith}
use native.Mathlib.Nat.{add-sub_cancel_left}
use mathlib.Core.Path.{◌≡◌, refl, sym, ap, ap₂, ◌∙◌, subst}
use mathlib.Core.Bool.{Bool, true, false, cond, false≢true, true≢false}
use mathlib.Core.List.{List, [], ◌∷◌}
use lib.Dec.{ltb, eqb}
use lib.ListN.{length, get_or, take, drop, length-take, length-drop}
use borrow.Author.Tests.{lt-ltb, le-ltb, ltb-true, eq-eqb, ne_eqb}
use Rattle.rules_unit.specs.declared.Parts.{Parts}
use Rattle.rules_unit.specs.declared.Item.{Item}
use Rattle.rules_unit.specs.declared.Item.TheVariants as item
use Rattle.rules_unit.specs.declared.Sort.TheVariants as sort
use Rattle.rules_unit.specs.declared.Want.TheVariants as want
use Rattle.rules_unit.specs.declared.Statement.{Statement}
use Rattle.rules_unit.specs.declared.Verb.{Verb}
use Rattle.rules_unit.specs.declared.Refusal.{Refusal}
use Rattle.rules_unit.specs.declared.Stretch.{Stretch}
use Rattle.rules_unit.specs.Codes.{Code}
use Rattle.rules_unit.specs.Decode.{expressions_at, literals_at, item_at, width_of, follow, items_at, code_of}
use Rattle.rules_unit.specs.Expressions.{textb, sort_from, sort_at, suits, useb}
use Rattle.rules_unit.specs.Table.{row_of, use_of, uses_of}
use Rattle.rules_unit.specs.Checks.{check_of}
use Rattle.rules_unit.specs.Literals.{nowhere, lone_text, stretch_by, stretch_in, stretch_of, literal_of}
use Rattle.rules_unit.proofs.Items.{is_end, items_as}
use Rattle.rules_unit.proofs.Table.{verb_set}
use Rattle.rules_unit.proofs.WellFormed.{text_tells}
use Rattle.rules_unit.proofs.Sound.{passed_sound, passed_fills}
use Rattle.rules_unit.proofs.Statements.{uses_good}

-- ---- an expression, of which the code has read the item i

abbrev is_text : Item → Bool
is_text (item.Number place len) = false
is_text (item.Reference h field) = false
is_text (item.Text place len) = true
is_text (item.Operator o) = false
is_text item.End = false
is_text item.Bad = false

no_text : (from : ℕ) (j : Item) (more : List Item) → is_text j ≡ false → nowhere ≡ lone_text from (follow j more)
no_text from (item.Number place len) more e = refl
no_text from (item.Reference h field) more e = refl
no_text from (item.Text place len) more e = absurd (true≢false e)
no_text from (item.Operator o) more e = refl
no_text from item.End more e = refl
no_text from item.Bad more e = refl

no_end : (from place len : ℕ) (j : Item) (more : List Item) → is_end j ≡ false → nowhere ≡ lone_text from (item.Text place len ∷ follow j more)
no_end from place len (item.Number p l) more e = refl
no_end from place len (item.Reference h field) more e = refl
no_end from place len (item.Text p l) more e = refl
no_end from place len (item.Operator o) more e = refl
no_end from place len item.End more e = absurd (true≢false e)
no_end from place len item.Bad more e = refl

module _ (s : List ℕ) (at from : ℕ) (i j : Item) (read : i ≡ item_at s at) (is : i ≡ j) where
  -- the expression starts with that item
  starts : items_at s at ≡ follow j (items_at s (at + width_of j))
  starts = items_as s at j (sym is ∙ read)

  module _ (z : Stretch) where
    pub lone_other : is_text j ≡ false → z ≡ nowhere → z ≡ lone_text from (items_at s at)
    lone_other t e = e ∙ no_text from j _ t ∙ ap (lone_text from) (sym starts)

    pub lone_first : (place len : ℕ) → j ≡ item.Text place len → z ≡ lone_text from (item.Text place len ∷ items_at s (at + 5)) → z ≡ lone_text from (items_at s at)
    lone_first place len t e = e ∙ ap (λ (x : Item). lone_text from (follow x (items_at s (at + width_of x)))) (sym t) ∙ ap (lone_text from) (sym starts)

    pub last_other : (place len : ℕ) → is_end j ≡ false → z ≡ nowhere → z ≡ lone_text from (item.Text place len ∷ items_at s at)
    last_other place len t e = e ∙ no_end from place len j _ t ∙ ap (λ (x : List Item). lone_text from (item.Text place len ∷ x)) (sym starts)

pub last_end : (s : List ℕ) (at from place len : ℕ) (i : Item) (a n : ℕ) → i ≡ item_at s at → i ≡ item.End → a ≡ place → n ≡ len
    → record { at = from + a; len = n } ≡ lone_text from (item.Text place len ∷ items_at s at)
last_end s at from place len i a n read is e f =
    rw (e, f) (ap (λ (x : List Item). lone_text from (item.Text place len ∷ x)) (sym (starts s at from i item.End read is)))

pub ruleset lone_laws = (lone_other, lone_first)

pub ruleset last_laws = (last_other, last_end)

-- ---- a statement, and the unit

module _ (u : List ℕ) (p : Parts) (z : Stretch) where
  pub by_none : (s : Statement) → (s.code ≡ 1 → ⊥) → z ≡ nowhere → z ≡ stretch_by (code_of u p) (literals_at p) s
  by_none s h w = rw (ne_eqb s.code 1 h) w

  pub by_set : (s : Statement) → s.code ≡ 1 → z ≡ lone_text (literals_at p) ((code_of u p).items s.b) → z ≡ stretch_by (code_of u p) (literals_at p) s
  by_set s h w = rw (eq-eqb s.code 1 h) w

  module _ (i n : ℕ) (e : n ≡ p.n) where
    pub in_past : n ≤ i → z ≡ nowhere → z ≡ stretch_in u i (Ok p)
    in_past h w = rw (le-ltb i p.n (omega arith)) w

    pub in_by : (s : Statement) → i < n → s ≡ (code_of u p).statement i → z ≡ stretch_by (code_of u p) (literals_at p) s → z ≡ stretch_in u i (Ok p)
    in_by s h f w = rw (lt-ltb i p.n (omega arith), ← f) w

module _ (u : List ℕ) (v : Result Parts Refusal) (asked : v ≡ check_of u) where
  module _ (i : ℕ) (z : Stretch) where
    pub stretch_passed : (p : Parts) → v ≡ Ok p → z ≡ stretch_in u i (Ok p) → z ≡ stretch_of u i
    unfolding stretch_of
    stretch_passed p e w = rw (← asked, e) w

    pub stretch_refused : (r : Refusal) → v ≡ Err r → z ≡ nowhere → z ≡ stretch_of u i
    unfolding stretch_of
    stretch_refused r e w = rw (← asked, e) w

-- ---- the literal lies inside the unit

module _ (c : Code) (from n : ℕ) (fits : from + length c.literals ≤ n) where
  inside_items : (is : List Item) → suits want.Source (sort_from c is 0 sort.Number) ≡ true → (lone_text from is).at + (lone_text from is).len ≤ n
  unfolding sort_from
  inside_items [] e = omega arith
  inside_items (item.Number place len ∷ is) e = omega arith
  inside_items (item.Reference h field ∷ is) e = omega arith
  inside_items (item.Text place len ∷ []) e = by (textb c place len) refl e
    where
      by : (t : Bool) → textb c place len ≡ t → suits want.Source (cond t sort.Text sort.Wrong) ≡ true → from + place + len ≤ n
      by true q w = omega (arith, ((text_tells c place len).to q).inside)
      by false q w = absurd (false≢true w)
  inside_items (item.Text place len ∷ (i ∷ is)) e = omega arith
  inside_items (item.Operator o ∷ is) e = omega arith
  inside_items (item.End ∷ is) e = omega arith
  inside_items (item.Bad ∷ is) e = omega arith

  inside_by : (s : Statement) → ((k : ℕ) → k < length (uses_of c s) → useb c (get_or (uses_of c s) k None) ≡ true)
      → (stretch_by c from s).at + (stretch_by c from s).len ≤ n
  unfolding sort_at
  inside_by s f = by (eqb s.code 1) refl
    where
      by : (t : Bool) → eqb s.code 1 ≡ t → (cond t (lone_text from (c.items s.b)) nowhere).at + (cond t (lone_text from (c.items s.b)) nowhere).len ≤ n
      by true q =
          inside_items (c.items s.b) (subst (λ (v : Verb). useb c (use_of (row_of v).b s.b) ≡ true) (verb_set s.code q) (f 1 (omega arith)))
      by false q = omega arith

inside_in : (u : List ℕ) (i : ℕ) (r : Result Parts Refusal) → check_of u ≡ r → (stretch_in u i r).at + (stretch_in u i r).len ≤ length u
inside_in u i (Err r) e = omega arith
inside_in u i (Ok p) e = by (ltb i p.n) refl
  where
    literals : literals_at p + length (code_of u p).literals ≤ length u
    literals = simp (length-take, length-drop) (omega (arith, (passed_fills u p e).whole))

    by : (t : Bool) → ltb i p.n ≡ t
        → (cond t (stretch_by (code_of u p) (literals_at p) ((code_of u p).statement i)) nowhere).at
        + (cond t (stretch_by (code_of u p) (literals_at p) ((code_of u p).statement i)) nowhere).len ≤ length u
    by true q = inside_by (code_of u p) (literals_at p) (length u) literals ((code_of u p).statement i) (uses_good (code_of u p) i ((passed_sound u p e).code.statements i (ltb-true i p.n q)).uses)
    by false q = omega arith

-- where the code has found the stretch s
module _ (u : List ℕ) (i : ℕ) (s : Stretch) (found : s ≡ stretch_of u i) where
  pub stretch_inside : s.at + s.len ≤ length u
  unfolding stretch_of
  stretch_inside = rw found (inside_in u i (check_of u) refl)

  pub literal_part : take (s.at + s.len - s.at) (drop s.at u) ≡ literal_of u i
  literal_part = rw (← found, add-sub_cancel_left s.at s.len)
