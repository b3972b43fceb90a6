-- What the check, the parts, a field, valid data, the fence and the literal tell, one law for each way out of the code: m is what the answer a has become.
-- Assumes nothing.
use Rattle.std.specs.Prelude.{Result, Err, Ok, Option, None, Some}
use Prim.Native.Nat.{ℕ, ◌+◌, ◌-◌, ◌*◌}
use mathlib.Core.Path.{◌≡◌, sym, ◌∙◌}
use mathlib.Core.List.{List, [], ◌∷◌}
use Rattle.rules_unit.specs.declared.Parts.{Parts}
use Rattle.rules_unit.specs.declared.Field.{Field}
use Rattle.rules_unit.specs.declared.Rule.{Rule}
use Rattle.rules_unit.specs.declared.Refusal.{Refusal}
use Rattle.rules_unit.specs.declared.Stretch.{Stretch}
use Rattle.rules_unit.specs.Checks.{refusal_number, refusal_place, check_of}
use Rattle.rules_unit.specs.Codes.{rule_of}
use Rattle.rules_unit.specs.Literals.{stretch_of}
use Rattle.rules_fence.specs.declared.Verdict.{Verdict}
use Rattle.rules_fence.specs.declared.Verdict.TheVariants as verdict
use Rattle.rules_fence.specs.declared.Validity.{Validity}
use Rattle.rules_fence.specs.declared.Validity.TheVariants as validity
use Rattle.rules_fence.specs.Breaches.{breach_number, fence_of, breach_in}
use Rattle.rules_fence.specs.Validity.{validity_of}
use Rattle.rules_host.specs.Laid.{laid}
use Rattle.rules_host.specs.Calls.{Told, told, check_told, fence_told, literal_told, entry_of, parts_told, kind_number, strict_number, field_told, start_in, invalid_told}

abbrev tells : ℕ → List ℕ → Told
tells n m = record { value = n; answer = m }

module _ (u a m : List ℕ) where
  -- What `check` answered.
  module _ (v : Result Parts Refusal) (is : v ≡ check_of u) where
    pub check_passed : (p : Parts) → v ≡ Ok p → m ≡ laid (0 ∷ (0 ∷ (p.d ∷ []))) a → tells 0 m ≡ check_told (check_of u) a
    check_passed p e f = let g : check_of u ≡ Ok p = sym is ∙ e in rw (g, f)

    pub check_refused : (r : Refusal) (n k : ℕ) → v ≡ Err r → n ≡ refusal_number r → k ≡ refusal_place r → m ≡ laid (n ∷ (k ∷ (0 ∷ []))) a
        → tells n m ≡ check_told (check_of u) a
    check_refused r n k e h i f = let g : check_of u ≡ Err r = sym is ∙ e in rw (g, f, h, i)

    pub parts_passed : (p : Parts) → v ≡ Ok p → m ≡ laid (p.d ∷ (p.f ∷ (p.e ∷ (p.p ∷ (p.n ∷ (p.dialect.limit ∷ [])))))) a → tells 0 m ≡ parts_told (check_of u) a
    parts_passed p e f = let g : check_of u ≡ Ok p = sym is ∙ e in rw (g, f)

    pub parts_refused : (r : Refusal) (n : ℕ) → v ≡ Err r → n ≡ refusal_number r → m ≡ laid (0 ∷ (0 ∷ (0 ∷ (0 ∷ (0 ∷ (0 ∷ [])))))) a → tells n m ≡ parts_told (check_of u) a
    parts_refused r n e h f = let g : check_of u ≡ Err r = sym is ∙ e in rw (g, f, h)

  -- What `field` answered.
  module _ (i : ℕ) (v : Option Field) (is : v ≡ entry_of u i) where
    pub field_none : v ≡ None → m ≡ laid (0 ∷ (0 ∷ (0 ∷ (0 ∷ (0 ∷ []))))) a → tells 0 m ≡ field_told (entry_of u i) a
    field_none e f = let g : entry_of u i ≡ None = sym is ∙ e in rw (g, f)

    pub field_some : (x : Field) (r : Told) → v ≡ Some x → r ≡ field_told (Some x) a → r ≡ field_told (entry_of u i) a
    field_some x r e f = let g : entry_of u i ≡ Some x = sym is ∙ e in rw g f

  -- What `invalid` answered.
  module _ (d : List ℕ) (v : Validity) (is : v ≡ validity_of u d) where
    pub invalid_refused : (r : Refusal) (n : ℕ) → v ≡ validity.Refused r → n ≡ refusal_number r → m ≡ laid (n ∷ (0 ∷ (0 ∷ (0 ∷ [])))) a → tells n m ≡ invalid_told u (validity_of u d) a
    invalid_refused r n e h f = let g : validity_of u d ≡ validity.Refused r = sym is ∙ e in rw (g, f, h)

    pub invalid_size : v ≡ validity.WrongSize → m ≡ laid (6 ∷ (0 ∷ (0 ∷ (0 ∷ [])))) a → tells 6 m ≡ invalid_told u (validity_of u d) a
    invalid_size e f = let g : validity_of u d ≡ validity.WrongSize = sym is ∙ e in rw (g, f)

    pub invalid_none : v ≡ validity.AllValid → m ≡ laid (0 ∷ (0 ∷ (0 ∷ (0 ∷ [])))) a → tells 0 m ≡ invalid_told u (validity_of u d) a
    invalid_none e f = let g : validity_of u d ≡ validity.AllValid = sym is ∙ e in rw (g, f)

    pub invalid_some : (f k at : ℕ) (x : Option Field) → v ≡ validity.Invalid f k → x ≡ entry_of u f → at ≡ start_in x k → m ≡ laid (22 ∷ (f ∷ (k ∷ (at ∷ [])))) a
        → tells 22 m ≡ invalid_told u (validity_of u d) a
    invalid_some f k at x e ex ea q = let g : validity_of u d ≡ validity.Invalid f k = sym is ∙ e in rw (g, q, ea, ex)

  -- What `fence` answered.
  module _ (v : Verdict) (is : v ≡ fence_of u) where
    pub fence_yes : v ≡ verdict.Yes → m ≡ laid (0 ∷ (0 ∷ [])) a → tells 0 m ≡ fence_told u (fence_of u) a
    fence_yes e f = let g : fence_of u ≡ verdict.Yes = sym is ∙ e in rw (g, f)

    pub fence_no : (i n : ℕ) → v ≡ verdict.No i → n ≡ breach_number (breach_in u i) → m ≡ laid (i ∷ (n ∷ [])) a → tells 1 m ≡ fence_told u (fence_of u) a
    fence_no i n e h f = let g : fence_of u ≡ verdict.No i = sym is ∙ e in rw (g, f, h)

    pub fence_refused : (r : Refusal) (n k : ℕ) → v ≡ verdict.Refused r → n ≡ refusal_number r → k ≡ refusal_place r → m ≡ laid (n ∷ (k ∷ [])) a
        → tells 2 m ≡ fence_told u (fence_of u) a
    fence_refused r n k e h i f = let g : fence_of u ≡ verdict.Refused r = sym is ∙ e in rw (g, f, h, i)

  -- What `stretch` answered.
  pub literal_told_lem : (i : ℕ) (s : Stretch) → s ≡ stretch_of u i → m ≡ laid (s.at ∷ (s.len ∷ [])) a → tells s.len m ≡ literal_told (stretch_of u i) a
  literal_told_lem i s e f = rw (← e, f)

-- The numbers of an entry, as the code has asked for them: k is its kind's, t its rule, and n that rule's.
pub entry_told : (x : Field) (k n : ℕ) (t : Rule) (a m : List ℕ) → k ≡ kind_number x.kind → t ≡ rule_of x → n ≡ strict_number t
    → m ≡ laid (k ∷ (x.offset ∷ (x.size ∷ (x.count ∷ (n ∷ []))))) a
    → tells 1 m ≡ told 1 (kind_number x.kind ∷ (x.offset ∷ (x.size ∷ (x.count ∷ (strict_number (rule_of x) ∷ []))))) a
entry_told x k n t a m ek et en f = rw (f, en, et, ek)

pub start_none : (x : Option Field) (k : ℕ) → x ≡ None → 0 ≡ start_in x k
start_none x k e = rw e

pub start_of : (x : Option Field) (k j : ℕ) (f : Field) → x ≡ Some f → j ≡ k - 1 → f.offset + j * f.size ≡ start_in x k
start_of x k j f e ej = rw (e, ej)

pub ruleset tells_check = (check_passed, check_refused)

pub ruleset tells_parts = (parts_passed, parts_refused)

pub ruleset tells_field = (field_none, field_some)

pub ruleset tells_invalid = (invalid_refused, invalid_size, invalid_none, invalid_some)

pub ruleset tells_fence = (fence_yes, fence_no, fence_refused)
