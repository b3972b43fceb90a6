-- Laws of edit masks (source document 000, 3.2.5).
--   length_edited, length_formatted    how long the answer is
--   edited_by          it depends on the number only through the digits left and their sign
--   digit_own          a digit that is shown is the number's own
--   edit_at_lem            each character is shown by the one rule, in the state that the walk has come to
--   sight_exact        the counters of that state are what is left: characters, money signs and digit places
--   holds_on           significance, once begun, holds to the end; digit_shows: from there on a digit place shows its digit
--   mark_stays         a fixed mark is shown as it is; other_stays: so is what is no control character, wherever it stands
--   money_once         no more than one money sign is shown
--   finished_is        a mask edited where it stands, at the right end of its destination, is the number formatted
--   plan_small         the digits left have places in the table of powers
-- Assumes nothing.
use mathlib.Core.Path.{◌≡◌, refl, sym, ap, ◌∙◌}
use mathlib.Core.Bool.{Bool, true, false, cond, true≢false}
use mathlib.Core.List.{List, [], ◌∷◌, ◌++◌}
use Prim.Native.Nat.{ℕ, zero, suc, ◌+◌, ◌-◌, ◌*◌, ◌/◌, ◌%◌, ◌^◌, ◌<◌, ◌≤◌}
use native.Mathlib.Nat.{lt_of_le_of_lt, mod-le, mod-lt, div-eq_of_lt, mul-add-div_right, add-zero, pow-suc}
use native.Mathlib.Omega.{arith}
use borrow.Author.Tests.{eqb-true}
use lib.Arith.{mod-mul}
use lib.Dec.{eqb, lit<}
use lib.IntN.{ℤ, nat_abs}
use lib.Pow.{pow-add}
use lib.ListN.{length, get_or, take, drop, length-append, length-drop}
use lib.Seq.{take-append_seam, drop-append_seam}
use Rattle.rules.specs.declared.Class.{Class}
use Rattle.rules.specs.declared.Class.TheVariants as class
use Rattle.rules.specs.declared.Picture.{Picture}
use Rattle.rules.specs.declared.Sight.{Sight}
use Rattle.rules.specs.declared.Plan.{Plan}
use Rattle.rules.specs.Values.{Val, is_neg}
use Rattle.rules.specs.Moves.{blanks}
use Rattle.rules.specs.Masks.{placeb, more_by, tallied, tally_of, last_digits, negativeb, digits_left, picture_of, first_sight, sight_at, less_by, moneys_right, edgeb, commab, class_by, class_of, digit_of, holds_digit, sighted_by, sighted, skipped, spot_of, visible_by, character_by, character_of, edit_from, edited, formatted, plan_of, finished, rightmost}
use Rattle.rules.proofs.Signed.{pow_pos10}
use Rattle.rules.proofs.Decimals.{length_blanks}

-- ---- lengths

length_edit : (p : Picture) (spot : ℕ) (w : Sight) (m : List ℕ) → length (edit_from p spot w m) ≡ length m
unfolding edit_from
length_edit p spot w [] = refl
length_edit p spot w (c ∷ cs) = ap suc (length_edit p spot (sighted p w c) cs)

pub length_edited : (m : List ℕ) (v : ℤ) → length (edited m v) ≡ length m
unfolding edited
length_edited m v = length_edit _ _ _ m

pub length_formatted : (n : ℕ) (m : List ℕ) (v : ℤ) → length (formatted n m v) ≡ n
unfolding formatted
length_formatted n m v =
    length-append (blanks (n - length m)) (drop (length m - n) (edited m v))
    ∙ omega (arith, length_blanks (n - length m), length-drop (length m - n) (edited m v), length_edited m v)

-- ---- the number

pub edited_by : (m : List ℕ) (u v : ℤ) → digits_left m u ≡ digits_left m v → negativeb (is_neg u) (digits_left m u) ≡ negativeb (is_neg v) (digits_left m v) → edited m u ≡ edited m v
unfolding edited picture_of
edited_by m u v h k = rw (k, h) refl

-- the digit of a place with q places to its right is the number's own
pub digit_own : (x n q : ℕ) → q < n → last_digits x n / 10 ^ q % 10 ≡ x / 10 ^ q % 10
digit_own x n q h =
    let j : ℕ = n - q - 1 in
    let m : ℕ = 10 ^ (n - q) in
    let c : ℕ = 10 ^ q in
    let y : ℕ = x / c in
    let whole : 10 ^ n ≡ m * c = ap (λ (k : ℕ). 10 ^ k) (omega arith) ∙ pow-add 10 (n - q) q in
    let cut : last_digits x n ≡ y % m * c + x % c = ap (λ (k : ℕ). x % k) whole ∙ mod-mul x {m = m} {c = c} (pow_pos10 (n - q)) (pow_pos10 q) in
    let none : x % c / c ≡ 0 = div-eq_of_lt (mod-lt x (pow_pos10 q)) in
    let front : last_digits x n / c ≡ y % m = ap (λ (k : ℕ). k / c) cut ∙ mul-add-div_right (pow_pos10 q) (y % m) (x % c) ∙ ap (λ (k : ℕ). y % m + k) none ∙ add-zero (y % m) in
    let tens : m ≡ 10 ^ j * 10 = ap (λ (k : ℕ). 10 ^ k) (omega arith) ∙ pow-suc 10 j in
    let last : y % m ≡ y / 10 % 10 ^ j * 10 + y % 10 = ap (λ (k : ℕ). y % k) tens ∙ mod-mul y {m = 10 ^ j} {c = 10} (pow_pos10 j) (lit< tt) in
    ap (λ (k : ℕ). k % 10) (front ∙ last) ∙ omega arith

-- ---- the walk

edit_from_lem : (p : Picture) (spot : ℕ) (w : Sight) (m : List ℕ) (i : ℕ) → i < length m
    → get_or (edit_from p spot w m) i 0 ≡ character_of p spot (skipped p w (take i m)) (get_or m i 0)
unfolding edit_from skipped
edit_from_lem p spot w [] i h = absurd (omega arith)
edit_from_lem p spot w (c ∷ cs) zero h = refl
edit_from_lem p spot w (c ∷ cs) (suc i) h = edit_from_lem p spot (sighted p w c) cs i (omega arith)

pub edit_at_lem : (m : List ℕ) (v : ℤ) (i : ℕ) → i < length m
    → get_or (edited m v) i 0 ≡ character_of (picture_of m v) (spot_of (picture_of m v) (first_sight m) m) (sight_at m v i) (get_or m i 0)
unfolding edited
edit_at_lem m v i h = edit_from_lem (picture_of m v) (spot_of (picture_of m v) (first_sight m) m) (first_sight m) m i h

pub edit_drop : (p : Picture) (spot : ℕ) (w : Sight) (m : List ℕ) (j : ℕ) → drop j (edit_from p spot w m) ≡ edit_from p spot (skipped p w (take j m)) (drop j m)
unfolding edit_from skipped
edit_drop p spot w [] zero = refl
edit_drop p spot w [] (suc j) = refl
edit_drop p spot w (c ∷ cs) zero = refl
edit_drop p spot w (c ∷ cs) (suc j) = edit_drop p spot (sighted p w c) cs j

-- ---- the counters are what is left

pub record Exact (w : Sight) (m : List ℕ) : Type 0 where
  pub left : w.left ≡ length m
  pub moneys : w.moneys ≡ (tally_of m).moneys
  pub places : w.places ≡ (tally_of m).places

less_more : (b : Bool) (n : ℕ) → less_by b (more_by b n) ≡ n
less_more true n = omega arith
less_more false n = refl

minus_place : (b : Bool) → cond b (cond false true (cond false true false)) false ≡ false
minus_place true = refl
minus_place false = refl

place_by_lem : (a e b x y d f : Bool)
    → holds_digit (cond a (cond e class.Sign class.Mark) (cond b class.Place (cond x (cond y class.Comma class.Mark) (cond d (cond f class.Point class.Mark) class.Mark)))) ≡ cond a false b
place_by_lem true true b x y d f = refl
place_by_lem true false b x y d f = refl
place_by_lem false e true x y d f = refl
place_by_lem false e false true true d f = refl
place_by_lem false e false true false d f = refl
place_by_lem false e false false y true true = refl
place_by_lem false e false false y true false = refl
place_by_lem false e false false y false f = refl

minus_no : (c right : ℕ) (b : Bool) → eqb c 45 ≡ b → cond b false (placeb c right) ≡ placeb c right
minus_no c right true h = rw (eqb-true c 45 h) (sym (minus_place (eqb right 0)))
minus_no c right false h = refl

-- a character is a digit place by its class exactly where the tally counts it as one
pub class_place : (p : Picture) (w : Sight) (c right : ℕ) → holds_digit (class_by p w c right) ≡ placeb c right
class_place p w c right =
    place_by_lem (eqb c 45) (edgeb p w) (placeb c right) (eqb c 44) (commab p w right) (eqb c 46) (eqb right 0) ∙ minus_no c right (eqb c 45) refl

exact_next : (p : Picture) (w : Sight) (c : ℕ) (cs : List ℕ) → Exact w (c ∷ cs) → Exact (sighted p w c) cs
unfolding sighted sighted_by class_of tally_of tallied
exact_next p w c cs e =
    let right : less_by (eqb c 36) w.moneys ≡ (tally_of cs).moneys = ap (less_by (eqb c 36)) e.moneys ∙ less_more (eqb c 36) (tally_of cs).moneys in
    let place : holds_digit (class_by p w c (less_by (eqb c 36) w.moneys)) ≡ placeb c (tally_of cs).moneys = class_place p w c (less_by (eqb c 36) w.moneys) ∙ ap (placeb c) right in
    record {
      left = omega (arith, e.left);
      moneys = right;
      places = rw (place, e.places) (less_more (placeb c (tally_of cs).moneys) (tally_of cs).places);
    }

exact_from : (p : Picture) (w : Sight) (m : List ℕ) (i : ℕ) → i ≤ length m → Exact w m → Exact (skipped p w (take i m)) (drop i m)
unfolding skipped
exact_from p w [] zero h e = e
exact_from p w [] (suc i) h e = absurd (omega arith)
exact_from p w (c ∷ cs) zero h e = e
exact_from p w (c ∷ cs) (suc i) h e = exact_from p (sighted p w c) cs i (omega arith) (exact_next p w c cs e)

pub sight_exact : (m : List ℕ) (v : ℤ) (i : ℕ) → i ≤ length m → Exact (sight_at m v i) (drop i m)
unfolding first_sight
sight_exact m v i h = exact_from (picture_of m v) (first_sight m) m i h (record { left = refl; moneys = refl; places = refl })

-- ---- significance

holds_over : (p : Picture) (w : Sight) (m : List ℕ) → w.significant ≡ true → (skipped p w m).significant ≡ true
unfolding skipped sighted sighted_by
holds_over p w [] h = h
holds_over p w (c ∷ cs) h = holds_over p (sighted p w c) cs (rw h refl)

holds_from : (p : Picture) (w : Sight) (m : List ℕ) (i j : ℕ) → i ≤ j → (skipped p w (take i m)).significant ≡ true → (skipped p w (take j m)).significant ≡ true
unfolding skipped
holds_from p w m zero j h e = holds_over p w (take j m) e
holds_from p w m (suc i) zero h e = absurd (omega arith)
holds_from p w [] (suc i) (suc j) h e = e
holds_from p w (c ∷ cs) (suc i) (suc j) h e = holds_from p (sighted p w c) cs i j (omega arith) e

pub holds_on : (m : List ℕ) (v : ℤ) (i j : ℕ) → i ≤ j → (sight_at m v i).significant ≡ true → (sight_at m v j).significant ≡ true
holds_on m v i j h e = holds_from (picture_of m v) (first_sight m) m i j h e

pub digit_shows : (m : List ℕ) (v : ℤ) (i j : ℕ) → i ≤ j → j < length m → (sight_at m v i).significant ≡ true → class_of (picture_of m v) (sight_at m v j) (get_or m j 0) ≡ class.Place
    → get_or (edited m v) j 0 ≡ 48 + digit_of (picture_of m v) (sight_at m v j)
unfolding character_of sighted sighted_by
digit_shows m v i j h k e q = edit_at_lem m v j k ∙ rw (q, holds_on m v i j h e) refl

-- ---- marks, and the money sign

-- the control characters of Table 3-1
abbrev pub controlb : ℕ → Bool
controlb c =
    cond (eqb c 36) true
    (cond (eqb c 88) true
    (cond (eqb c 90) true
    (cond (eqb c 42) true
    (cond (eqb c 45) true
    (cond (eqb c 44) true
    (eqb c 46))))))

no_control : (p : Picture) (w : Sight) (c right : ℕ) → controlb c ≡ false → class_by p w c right ≡ class.Mark
no_control p w c right e = by (eqb c 36) (eqb c 88) (eqb c 90) (eqb c 42) (eqb c 45) (eqb c 44) (eqb c 46) (eqb right 0) (edgeb p w) (commab p w right) e
  where
    by : (money x z star minus comma point none edge waits : Bool)
        → cond money true (cond x true (cond z true (cond star true (cond minus true (cond comma true point))))) ≡ false
        → cond minus (cond edge class.Sign class.Mark)
        (cond (cond money true (cond none (cond x true (cond z true star)) false)) class.Place
        (cond comma (cond waits class.Comma class.Mark) (cond point (cond none class.Point class.Mark) class.Mark)))
        ≡ class.Mark
    by true x z star minus comma point none edge waits q = absurd (true≢false q)
    by false true z star minus comma point none edge waits q = absurd (true≢false q)
    by false false true star minus comma point none edge waits q = absurd (true≢false q)
    by false false false true minus comma point none edge waits q = absurd (true≢false q)
    by false false false false true comma point none edge waits q = absurd (true≢false q)
    by false false false false false true point none edge waits q = absurd (true≢false q)
    by false false false false false false true none edge waits q = absurd (true≢false q)
    by false false false false false false false true edge waits q = refl
    by false false false false false false false false edge waits q = refl

pub mark_stays : (m : List ℕ) (v : ℤ) (i : ℕ) → i < length m → class_of (picture_of m v) (sight_at m v i) (get_or m i 0) ≡ class.Mark → get_or (edited m v) i 0 ≡ get_or m i 0
unfolding character_of
mark_stays m v i h e = edit_at_lem m v i h ∙ rw e refl

-- a character that is no control character is a mark, wherever it stands
pub other_stays : (m : List ℕ) (v : ℤ) (i : ℕ) → i < length m → controlb (get_or m i 0) ≡ false → get_or (edited m v) i 0 ≡ get_or m i 0
unfolding class_of
other_stays m v i h e = let w = sight_at m v i in mark_stays m v i h (no_control (picture_of m v) w (get_or m i 0) (moneys_right w (get_or m i 0)) e)

-- a money sign is shown at the spot, or is x
spot_by : (b l e : Bool) (x : ℕ) → cond b x (cond l 42 (cond e 36 32)) ≡ 36 → (x ≡ 36 → ⊥) → e ≡ true
spot_by true l e x h f = absurd (f h)
spot_by false true e x h f = absurd (omega (arith, h))
spot_by false false true x h f = refl
spot_by false false false x h f = absurd (omega (arith, h))

visible_spot : (spot : ℕ) (w n : Sight) (x : ℕ) → visible_by spot w n x ≡ 36 → (x ≡ 36 → ⊥) → w.left ≡ spot
visible_spot spot w n x h f = eqb-true w.left spot (spot_by n.significant (eqb n.lead 42) (eqb w.left spot) x h f)

-- a point and a comma are what they are called, and a money sign is a digit place
other_by : (a e b x y d f : Bool) (k : Class)
    → cond a (cond e class.Sign class.Mark) (cond b class.Place (cond x (cond y class.Comma class.Mark) (cond d (cond f class.Point class.Mark) class.Mark))) ≡ k
    → (k ≡ class.Point → d ≡ true) × (k ≡ class.Comma → x ≡ true)
other_by true true b x y d f k h = (λ g. cc, λ g. cc)
other_by true false b x y d f k h = (λ g. cc, λ g. cc)
other_by false e true x y d f k h = (λ g. cc, λ g. cc)
other_by false e false true true d f k h = (λ g. cc, λ g. refl)
other_by false e false true false d f k h = (λ g. cc, λ g. refl)
other_by false e false false y true true k h = (λ g. refl, λ g. cc)
other_by false e false false y true false k h = (λ g. refl, λ g. cc)
other_by false e false false y false f k h = (λ g. cc, λ g. cc)

sign_money : (b : Bool) (x : ℕ) → x ≡ cond b 45 32 → x ≡ 36 → ⊥
sign_money true x e h = absurd (omega (arith, e, h))
sign_money false x e h = absurd (omega (arith, e, h))

money_by_lem : (p : Picture) (spot : ℕ) (w n : Sight) (c : ℕ) (k : Class) → (k ≡ class.Point → c ≡ 46) → (k ≡ class.Comma → c ≡ 44) → (c ≡ 36 → k ≡ class.Place)
    → character_by p spot w n c k ≡ 36 → w.left ≡ spot
money_by_lem p spot w n c class.Place a b d h = visible_spot spot w n (48 + digit_of p w) h (λ e. absurd (omega (arith, e)))
money_by_lem p spot w n c class.Point a b d h = visible_spot spot w n c h (λ e. absurd (omega (arith, e, a refl)))
money_by_lem p spot w n c class.Comma a b d h = visible_spot spot w n c h (λ e. absurd (omega (arith, e, b refl)))
money_by_lem p spot w n c class.Sign a b d h = absurd (sign_money p.negative (cond p.negative 45 32) refl h)
money_by_lem p spot w n c class.Mark a b d h = let e : class.Mark ≡ class.Place = d h in cc

-- where a money sign is shown is the spot
pub money_spot : (p : Picture) (spot : ℕ) (w : Sight) (c : ℕ) → character_of p spot w c ≡ 36 → w.left ≡ spot
unfolding character_of class_of
money_spot p spot w c h =
    let right = less_by (eqb c 36) w.moneys in
    let o = other_by (eqb c 45) (edgeb p w) (placeb c right) (eqb c 44) (commab p w right) (eqb c 46) (eqb right 0) (class_of p w c) refl in
    money_by_lem p spot w (sighted p w c) c (class_of p w c) (λ e. eqb-true c 46 (o.0 e)) (λ e. eqb-true c 44 (o.1 e)) (λ e. rw e refl) h

pub money_once : (m : List ℕ) (v : ℤ) (i j : ℕ) → i < length m → j < length m → get_or (edited m v) i 0 ≡ 36 → get_or (edited m v) j 0 ≡ 36 → i ≡ j
money_once m v i j h k e f =
    let p = picture_of m v in
    let spot = spot_of p (first_sight m) m in
    let a : (sight_at m v i).left ≡ spot = money_spot p spot (sight_at m v i) (get_or m i 0) (sym (edit_at_lem m v i h) ∙ e) in
    let b : (sight_at m v j).left ≡ spot = money_spot p spot (sight_at m v j) (get_or m j 0) (sym (edit_at_lem m v j k) ∙ f) in
    omega (arith, a, b, (sight_exact m v i (omega arith)).left, (sight_exact m v j (omega arith)).left, length-drop i m, length-drop j m)

-- ---- editing where the mask stands

pub length_rightmost : (n : ℕ) (m : List ℕ) → length (rightmost n m) ≡ n
length_rightmost n m = length-append (blanks (n - length m)) (drop (length m - n) m) ∙ omega (arith, length_blanks (n - length m), length-drop (length m - n) m)

pub finished_is : (n : ℕ) (m : List ℕ) (v : ℤ) (g : Plan) (s : List ℕ) → g ≡ plan_of n m v → s ≡ rightmost n m → finished g s ≡ formatted n m v
unfolding finished formatted edited plan_of picture_of
finished_is n m v g s e f =
    let x = drop (length m - n) m in
    let front : take (n - length m) (rightmost n m) ≡ blanks (n - length m) = ap (λ (k : ℕ). take k (rightmost n m)) (sym (length_blanks (n - length m))) ∙ take-append_seam (blanks (n - length m)) x in
    let back : drop (n - length m) (rightmost n m) ≡ x = ap (λ (k : ℕ). drop k (rightmost n m)) (sym (length_blanks (n - length m))) ∙ drop-append_seam (blanks (n - length m)) x in
    rw (e, f, length_rightmost n m, front, back) (ap (λ (l : List ℕ). blanks (n - length m) ++ l) (sym (edit_drop (picture_of m v) (spot_of (picture_of m v) (first_sight m) m) (first_sight m) m (length m - n))))

pub plan_small : (n : ℕ) (m : List ℕ) (v : ℤ) (g : Plan) → g ≡ plan_of n m v → Val (10 ^ 18) v → g.picture.digits < 10 ^ 18
unfolding plan_of picture_of
plan_small n m v g e h = rw e (lt_of_le_of_lt (mod-le (nat_abs v) (10 ^ (tally_of m).places)) h.small)
