-- New bytes in the data: where they stand, that all others stay, and how two stores that touch make one.
-- Assumes nothing.
use Prim.Native.Nat.{ℕ, ◌+◌, ◌-◌, ◌<◌, ◌≤◌}
use native.Mathlib.Nat.{add-zero}
use native.Mathlib.Omega.{arith}
use mathlib.Core.Path.{◌≡◌, refl, sym, ap, ◌∙◌}
use mathlib.Core.List.{List, [], ◌++◌, append_assoc}
use lib.ListN.{length, take, drop, get_or, length-append, length-drop, take-append-drop, get_or-append}
use lib.Seq.{length-take-le, get_or-append-add, get_or-take, get_or-drop, take_at, drop_at, take-take, drop-drop, take-append-le}
use borrow.Rule.Slice.PartMut.{put_mid}
use Rattle.rules_run.specs.Turns.{stored}

module _ (d : List ℕ) (a : ℕ) (new : List ℕ) where
  -- behind a front of a bytes
  behind : (ys : List ℕ) (n : ℕ) → a ≤ length d → get_or (take a d ++ ys) (a + n) 0 ≡ get_or ys n 0
  behind ys n h = ap (λ (k : ℕ). get_or (take a d ++ ys) (k + n) 0) (sym (length-take-le a d h)) ∙ get_or-append-add (take a d) ys n 0

  pub stored_low : (i : ℕ) → a ≤ length d → i < a → get_or (stored d a new) i 0 ≡ get_or d i 0
  unfolding stored
  stored_low i h l =
      get_or-append (take a d) (new ++ drop (a + length new) d) 0 i (omega (arith, length-take-le a d h)) ∙ get_or-take a d i 0 l

  pub stored_mid : (j : ℕ) → a ≤ length d → j < length new → get_or (stored d a new) (a + j) 0 ≡ get_or new j 0
  unfolding stored
  stored_mid j h l = behind (new ++ drop (a + length new) d) j h ∙ get_or-append new (drop (a + length new) d) 0 j l

  pub stored_high : (i : ℕ) → a ≤ length d → a + length new ≤ i → get_or (stored d a new) i 0 ≡ get_or d i 0
  unfolding stored
  stored_high i h l =
      let m = i - (a + length new) in
      let e : i ≡ a + (length new + m) = omega arith in
      let e' : a + length new + m ≡ i = omega arith in
      ap (λ (k : ℕ). get_or (take a d ++ (new ++ drop (a + length new) d)) k 0) e
      ∙ behind (new ++ drop (a + length new) d) (length new + m) h
      ∙ get_or-append-add new (drop (a + length new) d) m 0
      ∙ get_or-drop (a + length new) d m 0
      ∙ ap (λ (k : ℕ). get_or d k 0) e'

  pub stored_length : a + length new ≤ length d → length (stored d a new) ≡ length d
  unfolding stored
  stored_length h =
      length-append (take a d) (new ++ drop (a + length new) d)
      ∙ omega (arith, length-take-le a d (omega arith), length-append new (drop (a + length new) d), length-drop (a + length new) d)

-- what is stored stands there
pub stored_back : (d : List ℕ) (a : ℕ) (new : List ℕ) → a ≤ length d → take (length new) (drop a (stored d a new)) ≡ new
unfolding stored
stored_back d a new h =
    let rest : List ℕ = drop (a + length new) d in
    ap (take (length new)) (drop_at (take a d) (new ++ rest) a (length-take-le a d h)) ∙ take_at new rest (length new) refl

-- nothing stored: the data stays
pub stored_none : (d : List ℕ) (a : ℕ) → stored d a [] ≡ d
unfolding stored
stored_none d a = rw (add-zero a) (take-append-drop a d)

-- a text, then another behind it: both are stored as one
pub stored_append : (d : List ℕ) (a : ℕ) (x y : List ℕ) → a + length x ≤ length d
    → stored (stored d a x) (a + length x) y ≡ stored d a (x ++ y)
unfolding stored
stored_append d a x y h =
    let t : length (take a d) ≡ a = length-take-le a d (omega arith) in
    let p : List ℕ = take a d ++ x in
    let l : length p ≡ a + length x = length-append (take a d) x ∙ ap (λ (k : ℕ). k + length x) t in
    let r : List ℕ = drop (a + length x) d in
    let j : take a d ++ (x ++ r) ≡ p ++ r = sym (append_assoc (take a d) x r) in
    let front : take (a + length x) (take a d ++ (x ++ r)) ≡ p = rw j (take_at p r (a + length x) l) in
    let back : drop (a + length x) (take a d ++ (x ++ r)) ≡ r = rw j (drop_at p r (a + length x) l) in
    let m : a + length x + length y ≡ a + length (x ++ y) = omega (arith, length-append x y) in
    rw (← drop-drop (length y) (a + length x) (take a d ++ (x ++ r)), front, back, drop-drop (length y) (a + length x) d, m) (simp append_assoc)

-- a text, then another in front of it
pub stored_prepend : (d : List ℕ) (a : ℕ) (x y : List ℕ) → a + length x ≤ length d
    → stored (stored d (a + length x) y) a x ≡ stored d a (x ++ y)
unfolding stored
stored_prepend d a x y h =
    let f : List ℕ = take (a + length x) d in
    let r : List ℕ = y ++ drop (a + length x + length y) d in
    let l : length f ≡ a + length x = length-take-le (a + length x) d h in
    let front : take a (f ++ r) ≡ take a d = take-append-le a f r (omega arith) ∙ take-take a (a + length x) d (omega arith) in
    let rest : drop (a + length x) (f ++ r) ≡ r = drop_at f r (a + length x) l in
    let m : a + length x + length y ≡ a + length (x ++ y) = omega (arith, length-append x y) in
    rw (front, rest, m) (simp append_assoc)

-- a part that was lent and has come back as ys, as many bytes as it had
pub stored_part : (d : List ℕ) (a e : ℕ) (ys : List ℕ) → a ≤ e → length ys ≡ e - a → put_mid a (e - a) d ys ≡ stored d a ys
unfolding stored
stored_part d a e ys h l = rw (l, drop-drop (e - a) a d)
