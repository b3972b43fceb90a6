-- What a store touches (document 01, "Moves and arithmetic"): its own span and nothing else. A statement that ends in an error stores nothing.
--   start_of w, len_of w     the span of a store; Nothing has no byte
--   Touches w p            the byte p lies in it
--   new_of c d w            the characters that it puts there
-- Assumes nothing.
use Rattle.std.specs.Prelude.{Result, Ok, Err}
use Prim.Native.Nat.{ℕ, ◌+◌, ◌<◌, ◌≤◌}
use native.Mathlib.Omega.{arith}
use mathlib.Core.Path.{◌≡◌, refl, sym, ap, ◌∙◌}
use mathlib.Core.Bool.{Bool, true, false}
use mathlib.Core.List.{List, []}
use lib.Dec.{ltb}
use lib.ListN.{length, take, drop, get_or, length-drop}
use lib.Seq.{length-take-le}
use borrow.Author.Tests.{ltb-true, ltb-false}
use Rattle.rules.specs.Moves.{written, shown, fitted}
use Rattle.rules.specs.Masks.{formatted}
use Rattle.rules.proofs.Decimals.{length_written, length_shown, length_fitted, length_upcased, length_locased, length_blanks, length_zeros}
use Rattle.rules.proofs.Masks.{length_formatted}
use Rattle.rules.specs.declared.Fault.{Fault}
use Rattle.rules_unit.specs.Codes.{Code}
use Rattle.rules_run.specs.declared.Look.{Look}
use Rattle.rules_run.specs.declared.Turn.{Turn}
use Rattle.rules_run.specs.declared.Write.{Write}
use Rattle.rules_run.specs.declared.Write.TheVariants as write
use Rattle.rules_run.specs.Turns.{stored, cased, cleared, applied, Room, turn_of}
use Rattle.rules_run.specs.Runs.{data_by}
use Rattle.rules_run.proofs.Room.{TurnRoom}
use Rattle.rules_run.proofs.Stored.{stored_low, stored_high, stored_length, stored_none}

-- ---- the span of a store

abbrev pub start_of : Write → ℕ
start_of write.Nothing = 0
start_of (write.Number a n v) = a
start_of (write.Show a n v) = a
start_of (write.Move a n from k) = a
start_of (write.Literal a n place k) = a
start_of (write.Clear a n decimal) = a
start_of (write.Case a n up) = a
start_of (write.Edit a n from k v) = a
start_of (write.EditLiteral a n place k v) = a

abbrev pub len_of : Write → ℕ
len_of write.Nothing = 0
len_of (write.Number a n v) = n
len_of (write.Show a n v) = n
len_of (write.Move a n from k) = n
len_of (write.Literal a n place k) = n
len_of (write.Clear a n decimal) = n
len_of (write.Case a n up) = n
len_of (write.Edit a n from k v) = n
len_of (write.EditLiteral a n place k v) = n

pub record Touches (w : Write) (p : ℕ) : Type 0 where
  pub from : start_of w ≤ p
  pub to : p < start_of w + len_of w

-- ---- every store is one text at one place

abbrev pub new_of : Code → List ℕ → Write → List ℕ
new_of c d write.Nothing = []
new_of c d (write.Number a n v) = written c.dialect.sign n v
new_of c d (write.Show a n v) = shown n v
new_of c d (write.Move a n from k) = fitted n (take k (drop from d))
new_of c d (write.Literal a n place k) = fitted n (take k (drop place c.literals))
new_of c d (write.Clear a n decimal) = cleared decimal n
new_of c d (write.Case a n up) = cased up (take n (drop a d))
new_of c d (write.Edit a n from k v) = formatted n (take k (drop from d)) v
new_of c d (write.EditLiteral a n place k v) = formatted n (take k (drop place c.literals)) v

pub applied_stored : (c : Code) (d : List ℕ) (w : Write) → applied c d w ≡ stored d (start_of w) (new_of c d w)
unfolding applied
applied_stored c d write.Nothing = sym (stored_none d 0)
applied_stored c d (write.Number a n v) = refl
applied_stored c d (write.Show a n v) = refl
applied_stored c d (write.Move a n from k) = refl
applied_stored c d (write.Literal a n place k) = refl
applied_stored c d (write.Clear a n decimal) = refl
applied_stored c d (write.Case a n up) = refl
applied_stored c d (write.Edit a n from k v) = refl
applied_stored c d (write.EditLiteral a n place k v) = refl

length_cleared : (decimal : Bool) (n : ℕ) → length (cleared decimal n) ≡ n
length_cleared true n = length_zeros n
length_cleared false n = length_blanks n

length_cased : (up : Bool) (s : List ℕ) → length (cased up s) ≡ length s
length_cased true s = length_upcased s
length_cased false s = length_locased s

module _ (c : Code) (d : List ℕ) where
  pub length_new : (w : Write) → Room c (length d) w → length (new_of c d w) ≡ len_of w
  length_new write.Nothing r = refl
  length_new (write.Number a n v) r = length_written c.dialect.sign n v
  length_new (write.Show a n v) r = length_shown n v
  length_new (write.Move a n from k) r = length_fitted n (take k (drop from d))
  length_new (write.Literal a n place k) r = length_fitted n (take k (drop place c.literals))
  length_new (write.Clear a n decimal) r = length_cleared decimal n
  length_new (write.Case a n up) r = length_cased up (take n (drop a d)) ∙ length-take-le n (drop a d) (omega (arith, length-drop a d))
  length_new (write.Edit a n from k v) r = length_formatted n (take k (drop from d)) v
  length_new (write.EditLiteral a n place k v) r = length_formatted n (take k (drop place c.literals)) v

  pub room_fits : (w : Write) → Room c (length d) w → start_of w + len_of w ≤ length d
  room_fits write.Nothing r = omega arith
  room_fits (write.Number a n v) r = r.0
  room_fits (write.Show a n v) r = r.0
  room_fits (write.Move a n from k) r = r.0
  room_fits (write.Literal a n place k) r = r.0
  room_fits (write.Clear a n decimal) r = r
  room_fits (write.Case a n up) r = r
  room_fits (write.Edit a n from k v) r = r.0
  room_fits (write.EditLiteral a n place k v) r = r.0

  module _ (w : Write) (r : Room c (length d) w) where
    pub applied_length : length (applied c d w) ≡ length d
    applied_length = rw (applied_stored c d w) (stored_length d (start_of w) (new_of c d w) (omega (arith, room_fits w r, length_new w r)))

    pub applied_outside : (p : ℕ) → (Touches w p → ⊥) → get_or (applied c d w) p 0 ≡ get_or d p 0
    applied_outside p o = rw (applied_stored c d w) (by (ltb p (start_of w)) refl (ltb p (start_of w + len_of w)) refl)
      where
        by : (t : Bool) → ltb p (start_of w) ≡ t → (u : Bool) → ltb p (start_of w + len_of w) ≡ u → get_or (stored d (start_of w) (new_of c d w)) p 0 ≡ get_or d p 0
        by true e u f = stored_low d (start_of w) (new_of c d w) p (omega (arith, room_fits w r)) (ltb-true p (start_of w) e)
        by false e true f = absurd (o (record { from = ltb-false p (start_of w) e; to = ltb-true p (start_of w + len_of w) f }))
        by false e false f =
            stored_high d (start_of w) (new_of c d w) p (omega (arith, room_fits w r)) (omega (arith, ltb-false p (start_of w + len_of w) f, length_new w r))

-- ---- a turn

module _ (c : Code) (d : List ℕ) where
  pub turn_length : (t : Result Turn Fault) → TurnRoom c (length d) t → length (data_by c d t) ≡ length d
  turn_length (Ok t) r = applied_length c d t.write r
  turn_length (Err e) r = refl

-- "A statement that ends in a run error has changed nothing."
pub error_stores_nothing : (c : Code) (l : Look) (i : ℕ) (d : List ℕ) (e : Fault) → turn_of c l i d ≡ Err e → data_by c d (turn_of c l i d) ≡ d
error_stores_nothing c l i d e q = ap (data_by c d) q
