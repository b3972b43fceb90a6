-- Laws of a mask that is read first and edited later, at the right end of its destination.
-- Assumes nothing.
use mathlib.Core.Path.{◌≡◌, refl, sym, ap, ◌∙◌}
use mathlib.Core.Bool.{Bool, true, false, cond, not}
use mathlib.Core.List.{List, [], ◌∷◌, append-nil}
use Prim.Native.Nat.{ℕ, ◌+◌, ◌-◌, ◌≤◌}
use native.Mathlib.Nat.{sub-zero}
use native.Mathlib.Omega.{arith}
use lib.Dec.{eqb}
use lib.IntN.{ℤ, nat_abs}
use lib.ListN.{length, take, drop, drop_of_length-le, length-drop}
use lib.Seq.{take_all}
use borrow.Rule.Slice.PartMut.{put_mid, Post-is}
use Rattle.rules.specs.declared.Tally.{Tally}
use Rattle.rules.specs.declared.Picture.{Picture}
use Rattle.rules.specs.declared.Sight.{Sight}
use Rattle.rules.specs.declared.Plan.{Plan}
use Rattle.rules.specs.Values.{is_neg}
use Rattle.rules.specs.Masks.{more_by, tallied, tally_of, last_digits, picture_by, picture_of, sight_by, first_sight, class_of, holds_digit, lead_by, sighted_by, sighted, skipped, can_be_money, moneyb, spot_from, spot_of, edit_from, plan_of, finished}
use Rattle.rules.proofs.Walk.{cond_same}

-- ---- the money sign

-- a character that is no money sign makes no place for one
module _ (p : Picture) (w : Sight) (c : ℕ) (l : eqb w.lead 36 ≡ false) (e : eqb c 36 ≡ false) where
  lead_other : (place : Bool) → eqb (lead_by place w c) 36 ≡ false
  lead_other true = e
  lead_other false = l

  lead_on : eqb (sighted p w c).lead 36 ≡ false
  unfolding sighted sighted_by
  lead_on = lead_other (holds_digit (class_of p w c))

  not_money : moneyb p w c ≡ false
  unfolding moneyb
  not_money = rw lead_on (rw (cond_same (not (sighted p w c).significant) false) (cond_same (can_be_money (class_of p w c)) false))

-- a mask without a money sign has no place for one
no_money : (p : Picture) (at : ℕ) (w : Sight) (m : List ℕ) → (tally_of m).moneys ≡ 0 → eqb w.lead 36 ≡ false → spot_from p at w m ≡ at
unfolding spot_from tally_of tallied
no_money p at w [] h l = refl
no_money p at w (c ∷ cs) h l = by (eqb c 36) refl (λ q k. no_money p at (sighted p w c) cs q k)
  where
    by : (b : Bool) → eqb c 36 ≡ b → ((tally_of cs).moneys ≡ 0 → eqb (sighted p w c).lead 36 ≡ false → spot_from p at (sighted p w c) cs ≡ at)
        → spot_from p (cond (moneyb p w c) w.left at) (sighted p w c) cs ≡ at
    by true e on = let n : more_by (eqb c 36) (tally_of cs).moneys ≡ (tally_of cs).moneys + 1 = rw e refl in absurd (omega (arith, h, n))
    by false e on = let n : more_by (eqb c 36) (tally_of cs).moneys ≡ (tally_of cs).moneys = rw e refl in rw (not_money p w c l e) (on (sym n ∙ h) (lead_on p w c l e))

pub spot_blank : (p : Picture) (w : Sight) (m : List ℕ) → p.blank ≡ true → 0 ≡ spot_of p w m
unfolding spot_of
spot_blank p w m b = rw b refl

module _ (p : Picture) (w : Sight) (m : List ℕ) (b : p.blank ≡ false) where
  not_blank : spot_from p 0 w m ≡ spot_of p w m
  unfolding spot_of
  not_blank = sym (ap (λ (x : Bool). cond x 0 (spot_from p 0 w m)) b)

  pub spot_none : p.moneys ≡ (tally_of m).moneys → w.lead ≡ 32 → p.moneys ≡ 0 → 0 ≡ spot_of p w m
  spot_none e l z = let lead : eqb w.lead 36 ≡ false = ap (λ (x : ℕ). eqb x 36) l in sym (no_money p 0 w m (sym e ∙ z) lead) ∙ not_blank

  pub spot_last : (r : ℕ) → r ≡ spot_from p 0 w m → r ≡ spot_of p w m
  spot_last r e = e ∙ not_blank

-- ---- plans

pub plan_made : (n : ℕ) (m : List ℕ) (v : ℤ) (t : Tally) (p : Picture) (w first : Sight) (cut at : ℕ)
    → t ≡ tally_of m → p ≡ picture_by t (length m) (is_neg v) (last_digits (nat_abs v) t.places) → w ≡ sight_by t (length m) → cut ≡ length m - n → at ≡ spot_of p w m → first ≡ skipped p w (take (cut - 0) m)
    → record { picture = p; spot = at; first = first } ≡ plan_of n m v
unfolding plan_of picture_of first_sight
plan_made n m v t p w first cut at a b c d e f =
    let kept : first ≡ skipped p w (take cut m) = f ∙ ap (λ (x : ℕ). skipped p w (take x m)) (sub-zero cut) in
    cc

pub finish_end : (g : Plan) (s ys : List ℕ) (gap : ℕ) → gap ≡ length s - g.picture.size → ys ≡ edit_from g.picture g.spot g.first (take (length s - gap) (drop gap s))
    → put_mid gap (length s - gap) s ys ≡ finished g s
unfolding finished
finish_end g s ys gap e f =
    let some : gap ≤ length s = omega arith in
    let rest : drop (length s - gap) (drop gap s) ≡ [] = Post-is gap (length s) s some ∙ drop_of_length-le s {i = length s} (omega arith) in
    let all : take (length s - gap) (drop gap s) ≡ drop gap s = take_all (length s - gap) (drop gap s) (omega (arith, length-drop gap s)) in
    rw (rest, append-nil ys, f, all, e) refl
