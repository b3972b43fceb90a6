-- A law of statements: one that is read from a tail of the unit is the one that stands as far on in the unit.
-- Assumes nothing.
use Rattle.std.specs.Prelude.{◌≡◌, ℕ, ◌+◌, List, drop}
use mathlib.Core.Path.{refl}
use Rattle.std.proofs.lemmas.List.{get_or-drop}
use native.Mathlib.Nat.{add_assoc}
use Rattle.rules_unit.specs.Decode.{statement_at}

pub statement_behind : (k at : ℕ) (u : List ℕ) → statement_at (drop k u) at ≡ statement_at u (k + at)
unfolding statement_at
statement_behind k at u =
    rw (get_or-drop k u at 0, get_or-drop k u (at + 1) 0, get_or-drop k u (at + 2) 0, get_or-drop k u (at + 2 + 1) 0, get_or-drop k u (at + 4) 0, get_or-drop k u (at + 4 + 1) 0, get_or-drop k u (at + 6) 0, get_or-drop k u (at + 6 + 1) 0)
    (rw (add_assoc k at 1, add_assoc k at 2, add_assoc k at 4, add_assoc k at 6, add_assoc k (at + 2) 1, add_assoc k (at + 4) 1, add_assoc k (at + 6) 1) refl)
