-- Literals in the unit. The code reads a literal as a part of the unit, the rules as a part of the literals.
--   literals_length                the literals have P bytes
--   literal_end, literal_is        a literal, as the part of the unit that the code reads
--   number_empty, number_long, number_past, number_there    the rule of a number literal, test by test
-- Assumes nothing.
use mathlib.Core.Path.{◌≡◌, refl, sym, ap, ◌∙◌}
use mathlib.Core.Bool.{false}
use mathlib.Core.List.{List, [], ◌∷◌}
use Prim.Native.Nat.{ℕ, zero, suc, ◌+◌, ◌-◌, ◌≤◌, ◌<◌}
use native.Mathlib.Nat.{add-sub_cancel_left}
use native.Mathlib.Omega.{arith}
use lib.ListN.{length, take, drop, length-drop}
use lib.Seq.{drop-drop, take-take, length-take-le}
use borrow.Author.Tests.{le-leb, lt-leb}
use Rattle.rules_unit.specs.declared.Parts.{Parts}
use Rattle.rules_unit.specs.Decode.{Fills, literals_at, code_of}
use Rattle.rules_unit.specs.Expressions.{digitsb, numberb}

part : (f n m : ℕ) (l : List ℕ) → f + n ≤ m → take n (drop f (take m l)) ≡ take n (drop f l)
part zero n m l h = take-take n m l (omega arith)
part (suc f) n zero l h = absurd (omega arith)
part (suc f) n (suc m) [] h = refl
part (suc f) n (suc m) (x ∷ l) h = part f n m l (omega arith)

module _ (u : List ℕ) (p : Parts) (fills : Fills u p) where
  pub literals_length : length (code_of u p).literals ≡ p.p
  literals_length = length-take-le p.p (drop (literals_at p) u) (simp length-drop (omega (arith, fills.whole)))

  -- the n bytes from f on of the literals are those of the unit that stand as far after where the literals start
  literal_part : (f n : ℕ) → f + n ≤ p.p → take n (drop f (code_of u p).literals) ≡ take n (drop (literals_at p + f) u)
  literal_part f n h = part f n p.p (drop (literals_at p) u) h ∙ ap (take n) (drop-drop f (literals_at p) u)

  -- the count characters of the literals at place, as a part of the unit: x, y and z are the code's own copies
  module _ (place count x y z : ℕ) (ex : x ≡ literals_at p) (ey : y ≡ place) (ez : z ≡ count) (inside : place + count ≤ length (code_of u p).literals) where
    pub literal_end : x + y + z ≤ length u
    literal_end = omega (arith, ex, ey, ez, inside, literals_length, fills.whole)

    pub literal_is : take (x + y + z - (x + y)) (drop (x + y) u) ≡ take count (drop place (code_of u p).literals)
    literal_is =
        rw (add-sub_cancel_left (x + y) z, ex, ey, ez) (sym (literal_part place count (omega (arith, inside, literals_length))))

-- ---- number literals

-- f, n and m are the code's own copies of the place, the length and P
module _ (u : List ℕ) (p : Parts) (place len : ℕ) where
  pub number_empty : len < 1 → false ≡ numberb (code_of u p) place len
  unfolding numberb
  number_empty h = sym (rw (lt-leb 1 len h))

  pub number_long : p.dialect.limit < len → false ≡ numberb (code_of u p) place len
  unfolding numberb
  number_long h = sym (rw (le-leb 1 len (omega arith), lt-leb len p.dialect.limit h))

  module _ (fills : Fills u p) (some : 1 ≤ len) (f n m : ℕ) (ef : f ≡ place) (en : n ≡ len) (em : m ≡ p.p) where
    pub number_past : len ≤ p.dialect.limit → m < f + n → false ≡ numberb (code_of u p) place len
    unfolding numberb
    number_past g h =
        sym (rw (le-leb 1 len some, le-leb len p.dialect.limit g, lt-leb (place + len) (length (code_of u p).literals) (omega (arith, literals_length u p fills))))

    -- inside the literals it is good where its characters are digits
    pub number_there : len ≤ p.dialect.limit → f + n ≤ m → digitsb (take len (drop place (code_of u p).literals)) ≡ numberb (code_of u p) place len
    unfolding numberb
    number_there g h =
        rw (le-leb 1 len some, le-leb len p.dialect.limit g, le-leb (place + len) (length (code_of u p).literals) (omega (arith, literals_length u p fills)))
