-- Which item stands at an offset, by its code: what the code's one look at the byte tells of the rules' item.
-- Assumes nothing.
use mathlib.Core.Path.{◌≡◌, refl, sym, ap, ◌∙◌}
use mathlib.Core.Bool.{Bool, true, false, cond}
use mathlib.Core.List.{List}
use Prim.Native.Nat.{ℕ, zero, suc, ◌+◌, ◌-◌, ◌≤◌, ◌<◌}
use native.Mathlib.Omega.{arith}
use lib.Dec.{eqb}
use lib.ListN.{length, get_or}
use borrow.Author.Tests.{lt-ltb, le-ltb, ne_eqb}
use Rattle.rules_unit.specs.declared.Form.{Form}
use Rattle.rules_unit.specs.declared.Form.TheVariants as form
use Rattle.rules_unit.specs.declared.Op.{Op}
use Rattle.rules_unit.specs.declared.Item.{Item}
use Rattle.rules_unit.specs.declared.Item.TheVariants as item
use Rattle.rules_unit.specs.Decode.{word_at, reference_at, number_at, text_at, item_by, item_at}
use Rattle.run_evaluate.specs.Steps.{form_of}

module _ (s : List ℕ) (i : ℕ) (there : i < length s) where
  pub code_item : item_at s i ≡ item_by s i (get_or s i 0)
  unfolding item_at
  code_item = rw (lt-ltb i (length s) there)

  pub code_end : get_or s i 0 ≡ 0 → item_at s i ≡ item.End
  unfolding item_by
  code_end e = code_item ∙ rw e

  pub code_number : get_or s i 0 ≡ 1 → item_at s i ≡ number_at s i
  unfolding item_by
  code_number e = code_item ∙ rw e

  pub code_field : get_or s i 0 ≡ 2 → item_at s i ≡ reference_at s i form.First
  unfolding item_by
  code_field e = code_item ∙ rw e

  pub code_text : get_or s i 0 ≡ 6 → item_at s i ≡ text_at s i
  unfolding item_by
  code_text e = code_item ∙ rw e

-- A code from 3 to 5 is that of a reference with bounds.
pub code_bounds : (s : List ℕ) (i code : ℕ) → 2 < code → code < 6 → item_by s i code ≡ reference_at s i (form_of code)
unfolding item_by
code_bounds s i zero l h = absurd (omega arith)
code_bounds s i (suc zero) l h = absurd (omega arith)
code_bounds s i (suc (suc zero)) l h = absurd (omega arith)
code_bounds s i (suc (suc (suc zero))) l h = refl
code_bounds s i (suc (suc (suc (suc zero)))) l h = refl
code_bounds s i (suc (suc (suc (suc (suc zero))))) l h = refl
code_bounds s i (suc (suc (suc (suc (suc (suc code)))))) l h = absurd (omega arith)

pub bounds_item : (s : List ℕ) (i code : ℕ) (h : Form) → item_at s i ≡ item_by s i code → 2 < code → code < 6 → h ≡ form_of code → item_at s i ≡ reference_at s i h
bounds_item s i code h e l k q = e ∙ code_bounds s i code l k ∙ ap (reference_at s i) (sym q)

-- ---- a code above 6 is that of an operator, or none

abbrev upperb : Item → Bool
upperb (item.Number place len) = false
upperb (item.Reference h f) = false
upperb (item.Text place len) = false
upperb (item.Operator o) = true
upperb item.End = false
upperb item.Bad = true

record Upper (i : Item) : Type 0 where
  upper : upperb i ≡ true

either : (t : Bool) (i j : Item) → Upper i → Upper j → Upper (cond t i j)
either true i j x y = x
either false i j x y = y

otherwise : (t : Bool) (i j : Item) → t ≡ false → Upper j → Upper (cond t i j)
otherwise t i j e y = rw e y

operator : (o : Op) → Upper (item.Operator o)
operator o = record { upper = refl }

bad : Upper item.Bad
bad = record { upper = refl }

upper_code : (s : List ℕ) (i code : ℕ) → 6 < code → Upper (item_by s i code)
unfolding item_by
upper_code s i code h =
    otherwise (eqb code 0) item.End _ (ne_eqb code 0 (λ e. omega arith))
    (otherwise (eqb code 1) (number_at s i) _ (ne_eqb code 1 (λ e. omega arith))
    (otherwise (eqb code 2) (reference_at s i form.First) _ (ne_eqb code 2 (λ e. omega arith))
    (otherwise (eqb code 3) (reference_at s i form.Subscript) _ (ne_eqb code 3 (λ e. omega arith))
    (otherwise (eqb code 4) (reference_at s i form.StartEnd) _ (ne_eqb code 4 (λ e. omega arith))
    (otherwise (eqb code 5) (reference_at s i form.PosLength) _ (ne_eqb code 5 (λ e. omega arith))
    (otherwise (eqb code 6) (text_at s i) _ (ne_eqb code 6 (λ e. omega arith))
    (search (either, operator, bad) depth 40)))))))

-- what the code's `if let Item::Operator` leaves: the item is no operator
not_operator : (it : Item) → ((x : Op) → it ≡ item.Operator x → ⊥) → upperb it ≡ true → it ≡ item.Bad
not_operator (item.Number place len) o e = let z : ◌≡◌ {A = ℕ} 0 1 = cc in absurd (omega arith)
not_operator (item.Reference h f) o e = let z : ◌≡◌ {A = ℕ} 0 1 = cc in absurd (omega arith)
not_operator (item.Text place len) o e = let z : ◌≡◌ {A = ℕ} 0 1 = cc in absurd (omega arith)
not_operator (item.Operator p) o e = absurd (o p refl)
not_operator item.End o e = let z : ◌≡◌ {A = ℕ} 0 1 = cc in absurd (omega arith)
not_operator item.Bad o e = refl

pub code_none : (s : List ℕ) (i code : ℕ) (it : Item) → item_at s i ≡ item_by s i code → it ≡ item_by s i code → 6 ≤ code → (code ≡ 6 → ⊥)
    → ((x : Op) → it ≡ item.Operator x → ⊥) → item_at s i ≡ item.Bad
code_none s i code it e f h k o = e ∙ sym f ∙ not_operator it o (ap upperb f ∙ (upper_code s i code (omega arith)).upper)

-- ---- an item that the end of the expressions cuts, and one that they hold

module _ (s : List ℕ) (i : ℕ) where
  module _ (e : item_at s i ≡ number_at s i) where
    pub number_cut : length s - i ≤ 3 → item_at s i ≡ item.Bad
    unfolding number_at
    number_cut h = e ∙ rw (le-ltb 3 (length s - i) h)

    pub number_whole : 3 < length s - i → item.Number (word_at s (i + 1)) (get_or s (i + 3) 0) ≡ item_at s i
    unfolding number_at
    number_whole h = sym (e ∙ rw (lt-ltb 3 (length s - i) h))

  module _ (h : Form) (e : item_at s i ≡ reference_at s i h) where
    pub reference_cut : length s - i ≤ 2 → item_at s i ≡ item.Bad
    unfolding reference_at
    reference_cut k = e ∙ rw (le-ltb 2 (length s - i) k)

    pub reference_whole : 2 < length s - i → item.Reference h (word_at s (i + 1)) ≡ item_at s i
    unfolding reference_at
    reference_whole k = sym (e ∙ rw (lt-ltb 2 (length s - i) k))

  module _ (e : item_at s i ≡ text_at s i) where
    pub text_cut : length s - i ≤ 4 → item_at s i ≡ item.Bad
    unfolding text_at
    text_cut h = e ∙ rw (le-ltb 4 (length s - i) h)

    pub text_whole : 4 < length s - i → item.Text (word_at s (i + 1)) (word_at s (i + 3)) ≡ item_at s i
    unfolding text_at
    text_whole h = sym (e ∙ rw (lt-ltb 4 (length s - i) h))
