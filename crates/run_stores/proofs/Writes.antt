-- What a store asks for and what it makes of the data, one law for each kind of store.
-- Assumes nothing.
use Prim.Native.Nat.{ℕ, ◌+◌, ◌^◌, ◌≤◌}
use mathlib.Core.Path.{◌≡◌, ◌∙◌, ap, subst}
use mathlib.Core.Bool.{Bool}
use mathlib.Core.List.{List}
use lib.IntN.{ℤ}
use lib.ListN.{length, take, drop}
use mir.Syntax.{w64}
use mir.Val.{to_z, of_z}
use Rattle.rules.specs.Values.{Val}
use Rattle.rules.specs.Moves.{written, shown, fitted}
use Rattle.rules.specs.Masks.{formatted}
use Rattle.rules.proofs.Signed.{back, val_fits, again}
use Rattle.rules_unit.specs.declared.Parts.{Parts}
use Rattle.rules_unit.specs.Codes.{Code}
use Rattle.rules_unit.specs.Decode.{code_of}
use Rattle.rules_run.specs.declared.Write.{Write}
use Rattle.rules_run.specs.declared.Write.TheVariants as write
use Rattle.rules_run.specs.Turns.{stored, cased, cleared, applied, Room}

-- ---- what a store asks for: w is the store

module _ (c : Code) (size : ℕ) (w : Write) (room : Room c size w) where
  pub number_room : (a n : ℕ) (v : ℤ) → w ≡ write.Number a n v → a + n ≤ size
  number_room a n v e = (subst (Room c size) e room).0

  pub number_short : (a n : ℕ) (v : ℤ) → w ≡ write.Number a n v → n ≤ 18
  number_short a n v e = (subst (Room c size) e room).1

  pub number_value : (a n : ℕ) (v : ℤ) → w ≡ write.Number a n v → Val (10 ^ 18) (to_z w64 (of_z w64 v))
  number_value a n v e = again (subst (Room c size) e room).2

  pub show_room : (a n : ℕ) (v : ℤ) → w ≡ write.Show a n v → a + n ≤ size
  show_room a n v e = (subst (Room c size) e room).0

  pub show_value : (a n : ℕ) (v : ℤ) → w ≡ write.Show a n v → Val (10 ^ 18) (to_z w64 (of_z w64 v))
  show_value a n v e = again (subst (Room c size) e room).1

  pub move_room : (a n from k : ℕ) → w ≡ write.Move a n from k → a + n ≤ size
  move_room a n from k e = (subst (Room c size) e room).0

  pub move_source : (a n from k : ℕ) → w ≡ write.Move a n from k → from + k ≤ size
  move_source a n from k e = (subst (Room c size) e room).1

  pub literal_room : (a n place k : ℕ) → w ≡ write.Literal a n place k → a + n ≤ size
  literal_room a n place k e = (subst (Room c size) e room).0

  pub clear_room : (a n : ℕ) (decimal : Bool) → w ≡ write.Clear a n decimal → a + n ≤ size
  clear_room a n decimal e = subst (Room c size) e room

  pub case_room : (a n : ℕ) (up : Bool) → w ≡ write.Case a n up → a + n ≤ size
  case_room a n up e = subst (Room c size) e room

  pub edit_room : (a n from k : ℕ) (v : ℤ) → w ≡ write.Edit a n from k v → a + n ≤ size
  edit_room a n from k v e = (subst (Room c size) e room).0

  pub edit_value : (a n from k : ℕ) (v : ℤ) → w ≡ write.Edit a n from k v → Val (10 ^ 18) (to_z w64 (of_z w64 v))
  edit_value a n from k v e = again (subst (Room c size) e room).1

  pub edit_mask : (a n from k : ℕ) (v : ℤ) → w ≡ write.Edit a n from k v → from + k ≤ size
  edit_mask a n from k v e = (subst (Room c size) e room).2

  pub edit_literal_room : (a n place k : ℕ) (v : ℤ) → w ≡ write.EditLiteral a n place k v → a + n ≤ size
  edit_literal_room a n place k v e = (subst (Room c size) e room).0

  pub edit_literal_value : (a n place k : ℕ) (v : ℤ) → w ≡ write.EditLiteral a n place k v → Val (10 ^ 18) (to_z w64 (of_z w64 v))
  edit_literal_value a n place k v e = again (subst (Room c size) e room).1

pub literal_source : (u : List ℕ) (p : Parts) (size : ℕ) (w : Write) (a n place k : ℕ) → Room (code_of u p) size w → w ≡ write.Literal a n place k
    → place + k ≤ length (code_of u p).literals
literal_source u p size w a n place k room e = (subst (Room (code_of u p) size) e room).1

pub edit_literal_mask : (u : List ℕ) (p : Parts) (size : ℕ) (w : Write) (a n place k : ℕ) (v : ℤ) → Room (code_of u p) size w → w ≡ write.EditLiteral a n place k v
    → place + k ≤ length (code_of u p).literals
edit_literal_mask u p size w a n place k v room e = (subst (Room (code_of u p) size) e room).2

-- ---- what it makes of the data: ys is what the callee made

module _ (c : Code) (d : List ℕ) (w : Write) (room : Room c (length d) w) where
  pub applied_nothing : w ≡ write.Nothing → d ≡ applied c d w
  unfolding applied
  applied_nothing e = rw e

  pub applied_number : (ys : List ℕ) (a n : ℕ) (v : ℤ) → w ≡ write.Number a n v → ys ≡ stored d a (written c.dialect.sign n (to_z w64 (of_z w64 v))) → ys ≡ applied c d w
  unfolding applied
  applied_number ys a n v e q =
      let r = subst (Room c (length d)) e room in
      rw e (q ∙ ap (λ (z : ℤ). stored d a (written c.dialect.sign n z)) (back (val_fits r.2)))

  pub applied_show : (ys : List ℕ) (a n : ℕ) (v : ℤ) → w ≡ write.Show a n v → ys ≡ stored d a (shown n (to_z w64 (of_z w64 v))) → ys ≡ applied c d w
  unfolding applied
  applied_show ys a n v e q =
      let r = subst (Room c (length d)) e room in
      rw e (q ∙ ap (λ (z : ℤ). stored d a (shown n z)) (back (val_fits r.1)))

  pub applied_move : (ys : List ℕ) (a n from k : ℕ) → w ≡ write.Move a n from k → ys ≡ stored d a (fitted n (take k (drop from d))) → ys ≡ applied c d w
  unfolding applied
  applied_move ys a n from k e q = rw e q

  pub applied_literal : (ys : List ℕ) (a n place k : ℕ) → w ≡ write.Literal a n place k → ys ≡ stored d a (fitted n (take k (drop place c.literals))) → ys ≡ applied c d w
  unfolding applied
  applied_literal ys a n place k e q = rw e q

  pub applied_clear : (ys : List ℕ) (a n : ℕ) (decimal : Bool) → w ≡ write.Clear a n decimal → ys ≡ stored d a (cleared decimal n) → ys ≡ applied c d w
  unfolding applied
  applied_clear ys a n decimal e q = rw e q

  pub applied_case : (ys : List ℕ) (a n : ℕ) (up : Bool) → w ≡ write.Case a n up → ys ≡ stored d a (cased up (take n (drop a d))) → ys ≡ applied c d w
  unfolding applied
  applied_case ys a n up e q = rw e q

  pub applied_edit : (ys : List ℕ) (a n from k : ℕ) (v : ℤ) → w ≡ write.Edit a n from k v → ys ≡ stored d a (formatted n (take k (drop from d)) (to_z w64 (of_z w64 v)))
      → ys ≡ applied c d w
  unfolding applied
  applied_edit ys a n from k v e q =
      let r = subst (Room c (length d)) e room in
      rw e (q ∙ ap (λ (z : ℤ). stored d a (formatted n (take k (drop from d)) z)) (back (val_fits r.1)))

  pub applied_edit_literal : (ys : List ℕ) (a n place k : ℕ) (v : ℤ) → w ≡ write.EditLiteral a n place k v
      → ys ≡ stored d a (formatted n (take k (drop place c.literals)) (to_z w64 (of_z w64 v))) → ys ≡ applied c d w
  unfolding applied
  applied_edit_literal ys a n place k v e q =
      let r = subst (Room c (length d)) e room in
      rw e (q ∙ ap (λ (z : ℤ). stored d a (formatted n (take k (drop place c.literals)) z)) (back (val_fits r.1)))

pub ruleset stores_made = (applied_nothing, applied_number, applied_show, applied_move, applied_literal, applied_clear, applied_case, applied_edit, applied_edit_literal)
