-- Edit masks (source document 000, 3.2.5 and Table 3-1): a number formatted by a mask.
--   tally_of m                   its money signs; its digit places; whether one of these is an X
--   digits_left m v              the digits that it leaves of the number v
--   picture_of m v               what holds of the whole mask
--   class_of p w c               what the character c is, where w stands around it
--   digit_of p w                 the digit of a digit place
--   sighted p w c               what stands around the character after c; sight_at m v i, around that at i
--   spot_of p w m                where the money sign is shown: the characters from there on; 0 where it is not
--   character_of p spot w c      the character that is shown for c: the one rule
--   edited m v                  the number v by the mask m
--   formatted n m v             the same in n characters
--   plan_of n m v                what is read of a mask before n characters are edited where they stand
--   finished g s                s edited where it stands, by the plan g
--   rightmost n m               the mask before that, in n characters
-- 32 is a space, 36 '$', 42 '*', 44 ',', 45 '-', 46 '.', 48 '0', 88 'X', 90 'Z'.
-- Assumes nothing.
use Rattle.std.specs.Prelude.{Bool, true, false, cond, not, List, [], ◌∷◌, ◌++◌, ℕ, ◌+◌, ◌-◌, ◌/◌, ◌%◌, ◌^◌, ltb, leb, eqb, ℤ, nat_abs, length, take, drop}
use Rattle.rules.specs.declared.Class.{Class}
use Rattle.rules.specs.declared.Class.TheVariants as class
use Rattle.rules.specs.declared.Tally.{Tally}
use Rattle.rules.specs.declared.Picture.{Picture}
use Rattle.rules.specs.declared.Sight.{Sight}
use Rattle.rules.specs.declared.Plan.{Plan}
use Rattle.rules.specs.Tests.{◌and◌}
use Rattle.rules.specs.Values.{is_neg}
use Rattle.rules.specs.Moves.{blanks}

-- ---- the whole mask, from the right

-- "Each X represents a digit position", so does Z, *, and "Each money sign"; "Non-money characters to the left of the money sign are
-- considered as non-format control characters". Here with so many money signs to its right.
abbrev pub placeb : ℕ → ℕ → Bool
placeb c right = cond (eqb c 36) true (eqb right 0 and cond (eqb c 88) true (cond (eqb c 90) true (eqb c 42)))

-- whether a digit place is an X, here or to the right
abbrev pub plain_by : ℕ → Tally → Bool
plain_by c t = cond (eqb c 88) (cond (eqb t.moneys 0) true t.plain) t.plain

-- one more where it is so
abbrev pub more_by : Bool → ℕ → ℕ
more_by b n = cond b (n + 1) n

-- what a mask holds that has one character more at the left
unfoldable pub tallied : ℕ → Tally → Tally
tallied c t =
    record { moneys = more_by (eqb c 36) t.moneys; places = more_by (placeb c t.moneys) t.places; plain = plain_by c t }

unfoldable pub tally_of : List ℕ → Tally
tally_of [] = record { moneys = 0; places = 0; plain = false }
tally_of (c ∷ cs) = let rest = tally_of cs in tallied c rest

-- "only those digits that are specified by the format_string are moved": as many as it has digit places
abbrev pub last_digits : ℕ → ℕ → ℕ
last_digits m n = m % 10 ^ n

-- "If nexp is zero and the field is zero suppressed"
abbrev pub blankb : Tally → ℕ → Bool
blankb t left = leb 1 t.places and eqb left 0 and not t.plain

-- "If the number is negative, a minus appears, otherwise a space is inserted": judged by the digits left, as for all moves
abbrev pub negativeb : Bool → ℕ → Bool
negativeb neg left = neg and ltb 0 left

-- of a number with the sign given, and the digits left
abbrev pub picture_by : Tally → ℕ → Bool → ℕ → Picture
picture_by t size neg left =
    record { size = size; moneys = t.moneys; digits = left; negative = negativeb neg left; blank = blankb t left }

abbrev pub digits_left : List ℕ → ℤ → ℕ
digits_left m v = last_digits (nat_abs v) (tally_of m).places

unfoldable pub picture_of : List ℕ → ℤ → Picture
picture_of m v = picture_by (tally_of m) (length m) (is_neg v) (digits_left m v)

-- what stands around the first character
abbrev pub sight_by : Tally → ℕ → Sight
sight_by t size = record { left = size; places = t.places; moneys = t.moneys; lead = 32; significant = false }

unfoldable pub first_sight : List ℕ → Sight
first_sight m = sight_by (tally_of m) (length m)

-- ---- one character

-- one less where it is so
abbrev pub less_by : Bool → ℕ → ℕ
less_by b n = cond b (n - 1) n

-- the money signs to the right of the character
abbrev pub moneys_right : Sight → ℕ → ℕ
moneys_right w c = less_by (eqb c 36) w.moneys

-- "When used as the first or last character in a format string"
abbrev pub edgeb : Picture → Sight → Bool
edgeb p w = cond (eqb w.left p.size) true (eqb w.left 1)

-- "except for embedded commas": those with money signs on both sides
abbrev pub commab : Picture → Sight → ℕ → Bool
commab p w right = cond (eqb right 0) true (ltb w.moneys p.moneys)

-- The first row that fits counts. "All non-format control characters are moved to the corresponding position": marks.
abbrev pub class_by : Picture → Sight → ℕ → ℕ → Class
class_by p w c right =
    cond (eqb c 45) (cond (edgeb p w) class.Sign class.Mark)
    (cond (placeb c right) class.Place
    (cond (eqb c 44) (cond (commab p w right) class.Comma class.Mark)
    (cond (eqb c 46) (cond (eqb right 0) class.Point class.Mark)
    class.Mark)))

unfoldable pub class_of : Picture → Sight → ℕ → Class
class_of p w c = class_by p w c (moneys_right w c)

-- The digit of the first of the digit places from here on.
unfoldable pub digit_of : Picture → Sight → ℕ
digit_of p w = p.digits / 10 ^ (w.places - 1) % 10

-- "An X causes a digit in the source to be placed", also a zero; "A Z suppresses a leading zero"
abbrev pub place_begins : Picture → Sight → ℕ → Bool
place_begins p w c = cond (eqb c 88) true (ltb 0 (digit_of p w))

-- Where significance begins. Of a point: "causes zeros to the right of it to become significant", but not where all is suppressed.
abbrev pub begins_by : Picture → Sight → ℕ → Class → Bool
begins_by p w c class.Place = place_begins p w c
begins_by p w c class.Point = not p.blank
begins_by p w c class.Comma = false
begins_by p w c class.Sign = false
begins_by p w c class.Mark = false

-- Significance, once begun, holds to the end.
abbrev pub significant_by : Picture → Sight → ℕ → Class → Bool
significant_by p w c k = cond w.significant true (begins_by p w c k)

abbrev pub holds_digit : Class → Bool
holds_digit class.Place = true
holds_digit class.Point = false
holds_digit class.Comma = false
holds_digit class.Sign = false
holds_digit class.Mark = false

-- the digit place met last
abbrev pub lead_by : Bool → Sight → ℕ → ℕ
lead_by place w c = cond place c w.lead

-- what stands around the character after c, whose class is k
unfoldable pub sighted_by : Picture → Sight → ℕ → Class → Sight
sighted_by p w c k =
    record {
      left = w.left - 1;
      places = less_by (holds_digit k) w.places;
      moneys = moneys_right w c;
      lead = lead_by (holds_digit k) w c;
      significant = significant_by p w c k;
    }

unfoldable pub sighted : Picture → Sight → ℕ → Sight
sighted p w c = sighted_by p w c (class_of p w c)

-- what stands around the character after all these
unfoldable pub skipped : Picture → Sight → List ℕ → Sight
skipped p w [] = w
skipped p w (c ∷ cs) = skipped p (sighted p w c) cs

-- what stands around the character at i
abbrev pub sight_at : List ℕ → ℤ → ℕ → Sight
sight_at m v i = skipped (picture_of m v) (first_sight m) (take i m)

-- ---- the money sign. Here and below n stands around the character after: its lead and its significance are those met up to this one.

-- A place that the money sign may take: "If a money sign precedes a comma and the position corresponding to the money sign is not filled with a
-- significant digit, the comma shall be considered to be a money sign."
abbrev pub can_be_money : Class → Bool
can_be_money class.Place = true
can_be_money class.Point = false
can_be_money class.Comma = true
can_be_money class.Sign = false
can_be_money class.Mark = false

abbrev pub money_by : Sight → Class → Bool
money_by n k = can_be_money k and not n.significant and eqb n.lead 36

unfoldable pub moneyb : Picture → Sight → ℕ → Bool
moneyb p w c = money_by (sighted p w c) (class_of p w c)

-- "leading spaces and a single money sign": the last of these places
unfoldable pub spot_from : Picture → ℕ → Sight → List ℕ → ℕ
spot_from p spot w [] = spot
spot_from p spot w (c ∷ cs) = spot_from p (cond (moneyb p w c) w.left spot) (sighted p w c) cs

-- "all format control characters except asterisk (*) are suppressed": the money sign too
unfoldable pub spot_of : Picture → Sight → List ℕ → ℕ
spot_of p w m = cond p.blank 0 (spot_from p 0 w m)

-- ---- what is shown

-- "It replaces a leading zero with an * symbol"; "leading spaces and a single money sign". A comma or a point takes the fill of the place before it.
abbrev pub fill_by : ℕ → Sight → Sight → ℕ
fill_by spot w n = cond (eqb n.lead 42) 42 (cond (eqb w.left spot) 36 32)

-- x from significance on, the fill before it: a comma is inserted "if there are significant digits to the left"
abbrev pub visible_by : ℕ → Sight → Sight → ℕ → ℕ
visible_by spot w n x = cond n.significant x (fill_by spot w n)

-- Every character of a mask is covered by this one rule.
abbrev pub character_by : Picture → ℕ → Sight → Sight → ℕ → Class → ℕ
character_by p spot w n c class.Place = visible_by spot w n (48 + digit_of p w)
character_by p spot w n c class.Point = visible_by spot w n c
character_by p spot w n c class.Comma = visible_by spot w n c
character_by p spot w n c class.Sign = cond p.negative 45 32
character_by p spot w n c class.Mark = c

unfoldable pub character_of : Picture → ℕ → Sight → ℕ → ℕ
character_of p spot w c = character_by p spot w (sighted p w c) c (class_of p w c)

unfoldable pub edit_from : Picture → ℕ → Sight → List ℕ → List ℕ
edit_from p spot w [] = []
edit_from p spot w (c ∷ cs) = let rest = edit_from p spot (sighted p w c) cs in character_of p spot w c ∷ rest

unfoldable pub edited : List ℕ → ℤ → List ℕ
edited m v = let p = picture_of m v in let w = first_sight m in edit_from p (spot_of p w m) w m

-- "If the formatted data is smaller than the destination, the unused leftmost character positions .. are cleared to spaces. If .. larger .., the leftmost
-- characters .. are truncated."
unfoldable pub formatted : ℕ → List ℕ → ℤ → List ℕ
formatted n m v = blanks (n - length m) ++ drop (length m - n) (edited m v)

-- ---- a mask edited where it stands, at the right end of its destination

unfoldable pub plan_of : ℕ → List ℕ → ℤ → Plan
plan_of n m v =
    let p = picture_of m v in
    let w = first_sight m in
    record { picture = p; spot = spot_of p w m; first = skipped p w (take (length m - n) m) }

unfoldable pub finished : Plan → List ℕ → List ℕ
finished g s =
    let gap = length s - g.picture.size in
    take gap s ++ edit_from g.picture g.spot g.first (drop gap s)

-- n characters whose right end holds the mask's last, with spaces before them
abbrev pub rightmost : ℕ → List ℕ → List ℕ
rightmost n m = blanks (n - length m) ++ drop (length m - n) m
