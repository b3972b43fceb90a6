-- What holds of every edit mask and every number (request 1 of document 02; source document 000, 3.2.5). Manual has the worked examples.
--
--   has_the_masks_length, fills_the_place    the number by a mask has the mask's length; moved, that of its place
--   significance_holds, digits_show          significance, once begun, holds; from there on every digit place shows its digit
--   one_money_sign                           at most one money sign is shown
--   by_the_digits_left, none_left            the result depends on the number only through the digits left and the sign; where none is left, not on that
--   marks_stay                               a mark always shows as it is
--   corners_hold                             masks where a rule is easily taken for another, computed
-- Assumes nothing.
use Rattle.std.specs.Prelude.{◌≡◌, refl, Bool, true, false, List, [], ◌∷◌, ℕ, ◌+◌, ◌<◌, ◌≤◌, ℤ, pos, length, get_or}
use Rattle.std.proofs.Common.{sym, ◌∙◌}
use Rattle.rules.specs.declared.Class.TheVariants as class
use Rattle.rules.specs.Values.{is_neg}
use Rattle.rules.specs.Masks.{tallied, tally_of, digits_left, negativeb, picture_of, first_sight, class_of, digit_of, sighted_by, sighted, sight_at, moneyb, spot_from, spot_of, character_of, edit_from, edited, formatted}
use Rattle.rules.proofs.Masks as masks
use Rattle.promises.specs.Rows.{text, Row, ◌is◌, AllHold, bytes, minus}

pub has_the_masks_length : (m : List ℕ) (v : ℤ) → length (edited m v) ≡ length m
has_the_masks_length = masks.length_edited

pub fills_the_place : (n : ℕ) (m : List ℕ) (v : ℤ) → length (formatted n m v) ≡ n
fills_the_place = masks.length_formatted

module _ (m : List ℕ) (v : ℤ) where
  pub significance_holds : (i j : ℕ) → i ≤ j → (sight_at m v i).significant ≡ true → (sight_at m v j).significant ≡ true
  significance_holds = masks.holds_on m v

  pub digits_show : (i j : ℕ) → i ≤ j → j < length m → (sight_at m v i).significant ≡ true → class_of (picture_of m v) (sight_at m v j) (get_or m j 0) ≡ class.Place
      → get_or (edited m v) j 0 ≡ 48 + digit_of (picture_of m v) (sight_at m v j)
  digits_show = masks.digit_shows m v

  pub one_money_sign : (i j : ℕ) → i < length m → j < length m → get_or (edited m v) i 0 ≡ 36 → get_or (edited m v) j 0 ≡ 36 → i ≡ j
  one_money_sign = masks.money_once m v

  pub marks_stay : (i : ℕ) → i < length m → class_of (picture_of m v) (sight_at m v i) (get_or m i 0) ≡ class.Mark → get_or (edited m v) i 0 ≡ get_or m i 0
  marks_stay = masks.mark_stays m v

pub by_the_digits_left : (m : List ℕ) (u v : ℤ) → digits_left m u ≡ digits_left m v → is_neg u ≡ is_neg v → edited m u ≡ edited m v
by_the_digits_left m u v e f = masks.edited_by m u v e (rw (e, f) refl)

pub none_left : (m : List ℕ) (u v : ℤ) → digits_left m u ≡ 0 → digits_left m v ≡ 0 → edited m u ≡ edited m v
none_left m u v e f = masks.edited_by m u v (e ∙ sym f) (rw (e, f) (by (is_neg u) (is_neg v)))
  where
    by : (s t : Bool) → negativeb s 0 ≡ negativeb t 0
    by true true = refl
    by true false = refl
    by false true = refl
    by false false = refl

abbrev pub corners : List Row
corners =
    -- the sign at both ends, marks between, commas and a point behind `*`: the minus goes by the digits left
    text (formatted 8 (bytes "-*-,*.*-") (minus 100000)) is text (bytes " *-**** ")
    -- left of a money sign X, `.` and the first comma are marks, and zeros behind the last one are shown from the X on
    ∷ text (formatted 18 (bytes ",$.,$X-$x,$$,Z*.X-") (pos 0)) is text (bytes ", .  X- x   $ *.0 ")
    -- no place, so never blank and never negative
    ∷ text (formatted 4 (bytes ".x,-") (minus 100)) is text (bytes ".x, ")
    ∷ text (formatted 1 (bytes ",") (pos 0)) is text (bytes " ")
    ∷ text (formatted 1 (bytes "-") (pos 0)) is text (bytes " ")
    -- blank: an X left of a money sign is no place, and any byte is a mark
    ∷ text (formatted 4 (45 ∷ 88 ∷ 233 ∷ 36 ∷ []) (pos 0)) is text (32 ∷ 88 ∷ 233 ∷ 32 ∷ [])
    -- the money sign stands on a place or a comma, and never on a mark
    ∷ text (formatted 3 (bytes "$X$") (pos 5)) is text (bytes "$X5")
    ∷ text (formatted 3 (bytes "$,$") (pos 5)) is text (bytes " $5")
    -- marks left of a money sign, whatever letters they are; and no minus for an amount that has none
    ∷ text (formatted 4 (bytes "Z*$-") (pos 15)) is text (bytes "Z*5 ")
    -- where all is blank a point is none, and takes the fill of the place before it, which is no longer the `*`
    ∷ text (formatted 4 (bytes "*Z..") (pos 0)) is text (bytes "*   ")
    ∷ []

pub corners_hold : AllHold corners
unfolding formatted edited edit_from character_of spot_of spot_from moneyb sighted sighted_by digit_of class_of first_sight picture_of tally_of tallied
corners_hold = refl
