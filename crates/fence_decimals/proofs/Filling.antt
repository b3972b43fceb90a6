-- Filling: the table field by field.
--   Half c g floor ahead    the table where the fields before g are noted, of which the decimal ones end at the floor
-- Assumes nothing.
use Rattle.std.specs.Prelude.{Ok}
use Rattle.std.proofs.lemmas.List.{drop-replicate}
use Prim.Native.Nat.{ℕ, ◌+◌, ◌-◌, ◌<◌, ◌≤◌}
use native.Mathlib.Omega.{arith}
use mathlib.Core.Path.{◌≡◌, sym, ap, ◌∙◌}
use mathlib.Core.List.{List, ◌++◌, append_assoc}
use lib.ListN.{length, take, drop, replicate, length-append, length-replicate, take-append-drop}
use lib.Seq.{length-take-le, take_at, drop_at, drop-drop}
use borrow.Rule.Slice.PartMut.{put_mid, Post-is, mid_len, same_len_mid}
use Rattle.rules_unit.specs.declared.Parts.{Parts}
use Rattle.rules_unit.specs.declared.Field.{Field}
use Rattle.rules_unit.specs.Codes.{Code}
use Rattle.rules_unit.specs.Decode.{code_of}
use Rattle.rules_unit.specs.Checks.{check_of}
use Rattle.rules_unit.specs.Sound.{SoundUnit}
use Rattle.rules_unit.proofs.Statements.{left_suc, left_none, left_all}
use Rattle.rules_unit.proofs.Sound.{passed_sound}
use Rattle.fence_decimals.specs.Ahead.{behind_of, ahead_from, ahead_of}
use Rattle.fence_decimals.proofs.Fields.{Above, above_start, above_next, floor_rises, floor_inside}

pub record Half (c : Code) (g floor : ℕ) (ahead : List ℕ) : Type 0 where
  pub above : Above c g floor
  pub inside : floor ≤ c.size
  pub long : length ahead ≡ 16384
  -- from the floor on nothing is noted
  pub blank : drop floor ahead ≡ replicate (16384 - floor) 65535
  -- what is noted, with what the fields from g on give, is the whole
  pub whole : take floor ahead ++ ahead_from c (c.fields - g) g floor ≡ ahead_of c

module _ (u : List ℕ) (p : Parts) where
  pub half_start : (ahead : List ℕ) → ahead ≡ replicate 16384 65535 → Half (code_of u p) 0 0 ahead
  unfolding ahead_of
  half_start ahead e =
      record {
        above = above_start (code_of u p);
        inside = omega arith;
        long = ap (λ (l : List ℕ). length l) e ∙ length-replicate {A = ℕ} 16384 65535;
        blank = e;
        whole = ap (λ (k : ℕ). ahead_from (code_of u p) k 0 0) (left_all p.f);
      }

  module _ (g floor : ℕ) (ahead : List ℕ) (w : Half (code_of u p) g floor ahead) where
    pub half_end : p.f ≤ g → ahead ≡ ahead_of (code_of u p)
    unfolding ahead_from
    half_end h =
        sym (take-append-drop floor ahead)
        ∙ ap (λ (l : List ℕ). take floor ahead ++ l) w.blank
        ∙ ap (λ (k : ℕ). take floor ahead ++ ahead_from (code_of u p) k g floor) (sym (left_none p.f g h))
        ∙ w.whole

    -- one turn: f is the field g, and next its end where it is decimal
    module _ (ok : check_of u ≡ Ok p) (h : g < p.f) (f : Field) (ef : f ≡ (code_of u p).field g) (next : ℕ) (en : next ≡ behind_of f floor) where
      sound : SoundUnit u p
      sound = passed_sound u p ok

      at_next : next ≡ behind_of ((code_of u p).field g) floor
      at_next = en ∙ ap (λ (x : Field). behind_of x floor) ef

      pub turn_low : floor ≤ next
      turn_low = rw at_next (floor_rises (code_of u p) sound.code g floor h w.above)

      pub turn_inside : next ≤ p.d
      turn_inside = rw at_next (floor_inside (code_of u p) sound.code g floor h w.above w.inside)

      pub turn_high : next ≤ length ahead
      turn_high = omega (arith, turn_inside, sound.ranges.d_most, w.long)

      -- ys is what the part from the floor up to next holds, when it comes back
      module _ (ys : List ℕ) (ey : ys ≡ replicate (length (take (next - floor) (drop floor ahead))) f.offset) where
        filled : ys ≡ replicate (next - floor) ((code_of u p).field g).offset
        filled =
            ey
            ∙ ap (λ (m : ℕ). replicate m f.offset) (mid_len floor next ahead turn_high)
            ∙ ap (λ (x : Field). replicate (next - floor) x.offset) ef

        many : length ys ≡ next - floor
        many = ap (λ (l : List ℕ). length l) filled ∙ length-replicate {A = ℕ} (next - floor) ((code_of u p).field g).offset

        low : floor ≤ length ahead
        low = omega (arith, turn_low, turn_high)

        -- what stands before the part's end
        front : List ℕ
        front = take floor ahead ++ ys

        front_long : length front ≡ next
        unfolding front
        front_long = length-append (take floor ahead) ys ∙ omega (arith, turn_low, length-take-le floor ahead low, many)

        behind : put_mid floor (next - floor) ahead ys ≡ front ++ drop next ahead
        unfolding front
        behind =
            ap (λ (l : List ℕ). take floor ahead ++ (ys ++ l)) (Post-is floor next ahead turn_low)
            ∙ sym (append_assoc (take floor ahead) ys (drop next ahead))

        blank : drop next ahead ≡ replicate (16384 - next) 65535
        blank =
            let j : next ≡ floor + (next - floor) = omega (arith, turn_low) in
            let k : 16384 - floor - (next - floor) ≡ 16384 - next = omega (arith, turn_low) in
            ap (λ (m : ℕ). drop m ahead) j
            ∙ sym (drop-drop (next - floor) floor ahead)
            ∙ ap (λ (l : List ℕ). drop (next - floor) l) w.blank
            ∙ drop-replicate (next - floor) (16384 - floor) 65535
            ∙ ap (λ (m : ℕ). replicate m 65535) k

        noted : front ++ ahead_from (code_of u p) (p.f - (g + 1)) (g + 1) next ≡ ahead_of (code_of u p)
        unfolding front ahead_from
        noted =
            append_assoc (take floor ahead) ys (ahead_from (code_of u p) (p.f - (g + 1)) (g + 1) next)
            ∙ ap (λ (l : List ℕ). take floor ahead ++ (l ++ ahead_from (code_of u p) (p.f - (g + 1)) (g + 1) next)) filled
            ∙ ap (λ (m : ℕ). take floor ahead ++ (replicate (m - floor) ((code_of u p).field g).offset ++ ahead_from (code_of u p) (p.f - (g + 1)) (g + 1) m)) at_next
            ∙ ap (λ (k : ℕ). take floor ahead ++ ahead_from (code_of u p) k g floor) (sym (left_suc p.f g h))
            ∙ w.whole

        pub half_next : Half (code_of u p) (g + 1) next (put_mid floor (next - floor) ahead ys)
        half_next =
            record {
              above = rw at_next (above_next (code_of u p) sound.code g floor h w.above);
              inside = turn_inside;
              long = same_len_mid floor (next - floor) ahead ys (many ∙ sym (mid_len floor next ahead turn_high)) ∙ w.long;
              blank = ap (λ (l : List ℕ). drop next l) behind ∙ drop_at front (drop next ahead) next front_long ∙ blank;
              whole = ap (λ (l : List ℕ). l ++ ahead_from (code_of u p) (p.f - (g + 1)) (g + 1) next) (ap (λ (l : List ℕ). take next l) behind ∙ take_at front (drop next ahead) next front_long) ∙ noted;
            }
