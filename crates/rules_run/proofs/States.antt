-- Sound resume states (document 01, "Stops and their numbers"; requests 4 and 6 of document 02, "FOR loops", "ONERROR and OFFERROR"): the test and the
-- statement with quantifiers say the same, and what a jump, a CALL, a RETURN, a loop, a handler and an error make of a sound state is sound.
-- Assumes nothing.
use Rattle.std.specs.Prelude.{Option, None, Some}
use Prim.Native.Nat.{ℕ, zero, suc, ◌+◌, ◌-◌, ◌<◌, ◌≤◌}
use native.Mathlib.Nat.{add-zero}
use native.Mathlib.Omega.{arith}
use mathlib.Core.Path.{◌≡◌, refl, ap, ◌∙◌}
use mathlib.Core.Bool.{Bool, true, false, cond}
use mathlib.Core.List.{List, [], ◌∷◌}
use lib.Dec.{ltb, eqb}
use lib.IntN.{ℤ, pos, negsuc, nat_abs}
use lib.ListN.{length, get_or, set, length-set, get_or-replicate, get_or-eq_default}
use lib.Seq.{get_or-set_same, get_or-set_other}
use borrow.Author.Tests.{ltb-true, ltb-false, lt-ltb, le-ltb, eqb-true, eqb-false, ne_eqb}
use Rattle.rules.specs.Stops.{Trappable}
use Rattle.rules.proofs.Five.{trapped_to, trapped_of}
use Rattle.rules_unit.specs.Codes.{Code}
use Rattle.rules_unit.proofs.Tells.{Tells, tells_lt, tells_le, tells_eq, tells_as, tells_and, tells_which}
use Rattle.rules_run.specs.declared.Caught.{Caught}
use Rattle.rules_run.specs.declared.Loop.{Loop}
use Rattle.rules_run.specs.declared.Look.{Look}
use Rattle.rules_run.specs.declared.State.{State}
use Rattle.rules_run.specs.States.{returnb, returnsb, no_loop, loopb, emptyb, slotb, slotsb, LoopSound, handlerb, caughtb, HandlerSound, CaughtSound, soundb, Sound, started, gone, called, returned, entered, closed, armed, caught_by, look_of, LookSound}

-- ---- the test and the statement

-- The return number i, with depth calls open.
record ReturnSound (n depth i x : ℕ) : Type 0 where
  used : i < depth → x ≤ n
  unused : depth ≤ i → x ≡ 0

return_tells : (n depth i x : ℕ) → Tells (returnb n depth i x) (ReturnSound n depth i x)
return_tells n depth i x =
    tells_as
    (λ r. record { used = λ h. r.0 (lt-ltb i depth h); unused = λ h. r.1 (le-ltb i depth h) })
    (λ r. (λ e. r.used (ltb-true i depth e), λ e. r.unused (ltb-false i depth e)))
    (tells_which (ltb i depth) (tells_le x n) (tells_eq x 0))

-- All return numbers of a list whose first one is the number i.
abbrev ReturnsSound : ℕ → ℕ → ℕ → List ℕ → Type 0
ReturnsSound n depth i xs = (j : ℕ) → j < length xs → ReturnSound n depth (i + j) (get_or xs j 0)

returns_tell : (n depth i : ℕ) (xs : List ℕ) → Tells (returnsb n depth i xs) (ReturnsSound n depth i xs)
unfolding returnsb
returns_tell n depth i [] = record { to = λ e j h. absurd (omega arith); of = λ f. refl }
returns_tell n depth i (x ∷ xs) = tells_as to of (tells_and (return_tells n depth i x) (returns_tell n depth (i + 1) xs))
  where
    to : ReturnSound n depth i x × ReturnsSound n depth (i + 1) xs → ReturnsSound n depth i (x ∷ xs)
    to r zero h = rw (add-zero i) r.0
    to r (suc j) h = let e : i + suc j ≡ i + 1 + j = omega arith in rw e (r.1 j (omega arith))

    of : ReturnsSound n depth i (x ∷ xs) → ReturnSound n depth i x × ReturnsSound n depth (i + 1) xs
    of f = (rw (add-zero i) at (f 0 (omega arith)), λ j h. let e : i + 1 + j ≡ i + suc j = omega arith in rw e (f (suc j) (omega arith)))

-- ---- the open loops

empty_tells : (l : Loop) → Tells (emptyb l) (l ≡ no_loop)
unfolding emptyb
empty_tells l =
    tells_as (λ r. empty l.entry l.limit l.step r.0 r.1.0 r.1.1) (λ q. rw q (refl, (refl, refl)))
    (tells_and (tells_eq l.entry 0) (tells_and (tells_eq (nat_abs l.limit) 0) (tells_eq (nat_abs l.step) 0)))
  where
    empty : (e : ℕ) (x y : ℤ) → e ≡ 0 → nat_abs x ≡ 0 → nat_abs y ≡ 0 → ◌≡◌ {A = Loop} (record { entry = e; limit = x; step = y }) no_loop
    empty e (pos x) (pos y) p q r = rw (p, q, r)
    empty e (pos x) (negsuc y) p q r = absurd (omega arith)
    empty e (negsuc x) (pos y) p q r = absurd (omega arith)
    empty e (negsuc x) (negsuc y) p q r = absurd (omega arith)

loop_tells : (c : Code) (l : Loop) → Tells (loopb c l) (LoopSound c l)
unfolding loopb
loop_tells c l =
    tells_as
    (λ r. record { low = r.0; enters = r.1.0; limit = record { small = r.1.1.0 }; step = record { small = r.1.1.1.0 }; moves = omega (arith, r.1.1.1.1) })
    (λ r. (r.low, (r.enters, (r.limit.small, (r.step.small, omega (arith, r.moves))))))
    (tells_and (tells_lt l.entry c.statements)
    (tells_and (tells_eq (c.statement l.entry).code 14)
    (tells_and (tells_lt (nat_abs l.limit) c.dialect.top) (tells_and (tells_lt (nat_abs l.step) c.dialect.top) (tells_lt 0 (nat_abs l.step))))))

-- The slot i, with opened loops open.
record SlotSound (c : Code) (opened i : ℕ) (l : Loop) : Type 0 where
  running : i < opened → LoopSound c l
  vacant : opened ≤ i → l ≡ no_loop

slot_tells : (c : Code) (opened i : ℕ) (l : Loop) → Tells (slotb c opened i l) (SlotSound c opened i l)
slot_tells c opened i l =
    tells_as
    (λ r. record { running = λ h. r.0 (lt-ltb i opened h); vacant = λ h. r.1 (le-ltb i opened h) })
    (λ r. (λ e. r.running (ltb-true i opened e), λ e. r.vacant (ltb-false i opened e)))
    (tells_which (ltb i opened) (loop_tells c l) (empty_tells l))

-- All slots of a list whose first one is the slot i.
abbrev SlotsSound : Code → ℕ → ℕ → List Loop → Type 0
SlotsSound c opened i ls = (j : ℕ) → j < length ls → SlotSound c opened (i + j) (get_or ls j no_loop)

slots_tell : (c : Code) (opened i : ℕ) (ls : List Loop) → Tells (slotsb c opened i ls) (SlotsSound c opened i ls)
unfolding slotsb
slots_tell c opened i [] = record { to = λ e j h. absurd (omega arith); of = λ f. refl }
slots_tell c opened i (l ∷ ls) = tells_as to of (tells_and (slot_tells c opened i l) (slots_tell c opened (i + 1) ls))
  where
    to : SlotSound c opened i l × SlotsSound c opened (i + 1) ls → SlotsSound c opened i (l ∷ ls)
    to r zero h = rw (add-zero i) r.0
    to r (suc j) h = let e : i + suc j ≡ i + 1 + j = omega arith in rw e (r.1 j (omega arith))

    of : SlotsSound c opened i (l ∷ ls) → SlotSound c opened i l × SlotsSound c opened (i + 1) ls
    of f = (rw (add-zero i) at (f 0 (omega arith)), λ j h. let e : i + 1 + j ≡ i + suc j = omega arith in rw e (f (suc j) (omega arith)))

-- ---- the handler and the last error

handler_tells : (n : ℕ) (h : Option ℕ) → Tells (handlerb n h) (HandlerSound n h)
handler_tells n None = record { to = λ e. tt; of = λ t. refl }
handler_tells n (Some i) = tells_lt i n

caught_tells : (n : ℕ) (e : Option Caught) → Tells (caughtb n e) (CaughtSound n e)
caught_tells n None = record { to = λ e. tt; of = λ t. refl }
caught_tells n (Some x) = tells_and (record { to = trapped_to x.number; of = trapped_of x.number }) (tells_lt x.statement n)

-- ---- the state

module _ (c : Code) (s : State) where
  abbrev Rest : Type 0
  Rest = SlotsSound c s.opened 0 s.loops × (HandlerSound c.statements s.trap.handler × CaughtSound c.statements s.trap.caught)

  abbrev Parts : Type 0
  Parts =
      (s.at ≤ c.statements)
      × ((s.depth ≤ 50) × (ReturnsSound c.statements s.depth 0 s.returns × ((s.opened ≤ 16) × ((length s.loops ≡ 16) × Rest))))

  pub sound_tells : Tells (soundb c s) (Sound c s)
  unfolding soundb
  sound_tells =
      tells_as to of
      (tells_and (tells_le s.at c.statements)
      (tells_and (tells_le s.depth 50)
      (tells_and (returns_tell c.statements s.depth 0 s.returns)
      (tells_and (tells_le s.opened 16)
      (tells_and (tells_eq (length s.loops) 16)
      (tells_and (slots_tell c s.opened 0 s.loops) (tells_and (handler_tells c.statements s.trap.handler) (caught_tells c.statements s.trap.caught))))))))
    where
      to : Parts → Sound c s
      to r =
          let n = r.1.1.1.0 in
          let l = r.1.1.1.1.0 in
          let rest = r.1.1.1.1.1 in
          record {
            place = r.0;
            calls = r.1.0;
            used = λ i h k. (r.1.1.0 i k).used (omega arith);
            unused = λ i h k. (r.1.1.0 i k).unused (omega arith);
            nested = n;
            slots = l;
            running = λ i h. (rest.0 i (omega (arith, n, l))).running (omega arith);
            vacant = λ i h k. (rest.0 i (omega (arith, l))).vacant (omega arith);
            handled = rest.1.0;
            told = rest.1.1;
          }

      of : Sound c s → Parts
      of t = (
        t.place,
        (
          t.calls,
          (
            λ j l. record { used = λ h. t.used j (omega arith) l; unused = λ h. t.unused j (omega arith) l },
            (t.nested, (t.slots, (λ j l. record { running = λ h. t.running j (omega arith); vacant = λ h. t.vacant j (omega arith) (omega (arith, t.slots)) }, (t.handled, t.told)))),
          ),
        ),
      )

  pub sound_of : Sound c s → soundb c s ≡ true
  sound_of = sound_tells.of

  pub sound_to : soundb c s ≡ true → Sound c s
  sound_to = sound_tells.to

-- ---- what a statement makes of a state

pub started_sound : (c : Code) → Sound c started
started_sound c =
    record {
      place = omega arith;
      calls = omega arith;
      used = λ i h l. absurd (omega arith);
      unused = λ i h l. get_or-replicate {A = ℕ} 50 i 0 0 l;
      nested = omega arith;
      slots = refl;
      running = λ i h. absurd (omega arith);
      vacant = λ i h l. get_or-replicate {A = Loop} 16 i no_loop no_loop l;
      handled = tt;
      told = tt;
    }

-- An element after a store at k.
module _ {A : Type 0} (P : A → Type 0) (l : List A) (k : ℕ) (v z : A) (i : ℕ) where
  after_set : i < length l → (i ≡ k → P v) → ((i ≡ k → ⊥) → P (get_or l i z)) → P (get_or (set l k v) i z)
  after_set h f g = by (eqb i k) refl
    where
      by : (t : Bool) → eqb i k ≡ t → P (get_or (set l k v) i z)
      by true e = let q : i ≡ k = eqb-true i k e in rw (ap (λ (j : ℕ). get_or (set l k v) j z) q ∙ get_or-set_same l k v z (omega arith)) (f q)
      by false e = rw (get_or-set_other l k i v z (eqb-false i k e)) (g (eqb-false i k e))

module _ {c : Code} {s : State} (t : Sound c s) where
  -- A sound state with another place, handler and last error.
  with_handler : {x : ℕ} {h : Option ℕ} {e : Option Caught} → x ≤ c.statements → HandlerSound c.statements h → CaughtSound c.statements e
      → Sound c (record { at = x; depth = s.depth; returns = s.returns; opened = s.opened; loops = s.loops; trap = record { handler = h; caught = e } })
  with_handler x h e =
      record {
        place = x;
        calls = t.calls;
        used = t.used;
        unused = t.unused;
        nested = t.nested;
        slots = t.slots;
        running = t.running;
        vacant = t.vacant;
        handled = h;
        told = e;
      }

  pub gone_sound : {to : ℕ} → to ≤ c.statements → Sound c (gone s to)
  gone_sound h = with_handler h t.handled t.told

  pub called_sound : {to : ℕ} → to ≤ c.statements → s.at + 1 ≤ c.statements → s.depth < 50 → Sound c (called s to)
  called_sound h g o =
      record {
        place = h;
        calls = omega arith;
        used = λ i b l.
            let l' : i < length s.returns = omega (arith, length-set s.returns s.depth (s.at + 1)) in
            after_set (λ x. x ≤ c.statements) s.returns s.depth (s.at + 1) 0 i l' (λ q. g) (λ q. t.used i (omega arith) l');
        unused = λ i b l.
            let l' : i < length s.returns = omega (arith, length-set s.returns s.depth (s.at + 1)) in
            after_set (λ x. x ≡ 0) s.returns s.depth (s.at + 1) 0 i l' (λ q. absurd (omega arith)) (λ q. t.unused i (omega arith) l');
        nested = t.nested;
        slots = t.slots;
        running = t.running;
        vacant = t.vacant;
        handled = t.handled;
        told = t.told;
      }

  pub returned_sound : 0 < s.depth → Sound c (returned s)
  returned_sound o =
      record {
        place = back (ltb (s.depth - 1) (length s.returns)) refl;
        calls = omega arith;
        used = λ i b l.
            let l' : i < length s.returns = omega (arith, length-set s.returns (s.depth - 1) 0) in
            after_set (λ x. x ≤ c.statements) s.returns (s.depth - 1) 0 0 i l' (λ q. omega arith) (λ q. t.used i (omega arith) l');
        unused = λ i b l.
            let l' : i < length s.returns = omega (arith, length-set s.returns (s.depth - 1) 0) in
            after_set (λ x. x ≡ 0) s.returns (s.depth - 1) 0 0 i l' (λ q. refl) (λ q. t.unused i (omega arith) l');
        nested = t.nested;
        slots = t.slots;
        running = t.running;
        vacant = t.vacant;
        handled = t.handled;
        told = t.told;
      }
    where
      -- A number that is not there reads 0.
      back : (b : Bool) → ltb (s.depth - 1) (length s.returns) ≡ b → get_or s.returns (s.depth - 1) 0 ≤ c.statements
      back true e = t.used (s.depth - 1) (omega arith) (ltb-true (s.depth - 1) (length s.returns) e)
      back false e =
          let z : get_or s.returns (s.depth - 1) 0 ≡ 0 = get_or-eq_default s.returns 0 (ltb-false (s.depth - 1) (length s.returns) e) in
          omega arith

  pub entered_sound : {limit step : ℤ} → s.at + 1 ≤ c.statements → s.opened < 16 → LoopSound c (record { entry = s.at; limit = limit; step = step })
      → Sound c (entered s limit step)
  entered_sound {limit} {step} h o x =
      record {
        place = h;
        calls = t.calls;
        used = t.used;
        unused = t.unused;
        nested = omega arith;
        slots = length-set s.loops s.opened y ∙ t.slots;
        running = λ i b. after_set (LoopSound c) s.loops s.opened y no_loop i (omega (arith, t.slots)) (λ q. x) (λ q. t.running i (omega arith));
        vacant = λ i b l. after_set (λ z. z ≡ no_loop) s.loops s.opened y no_loop i (omega (arith, t.slots)) (λ q. absurd (omega arith)) (λ q. t.vacant i (omega arith) l);
        handled = t.handled;
        told = t.told;
      }
    where
      y : Loop
      y = record { entry = s.at; limit = limit; step = step }

  pub closed_sound : {to : ℕ} → to ≤ c.statements → 0 < s.opened → Sound c (closed s to)
  closed_sound h o =
      record {
        place = h;
        calls = t.calls;
        used = t.used;
        unused = t.unused;
        nested = omega (arith, t.nested);
        slots = length-set s.loops _ no_loop ∙ t.slots;
        running = λ i b.
            after_set (LoopSound c) s.loops _ no_loop no_loop i (omega (arith, t.nested, t.slots)) (λ q. absurd (omega arith)) (λ q. t.running i (omega arith));
        vacant = λ i b l. after_set (λ z. z ≡ no_loop) s.loops _ no_loop no_loop i (omega (arith, t.slots)) (λ q. refl) (λ q. t.vacant i (omega arith) l);
        handled = t.handled;
        told = t.told;
      }

  pub armed_sound : {h : Option ℕ} → s.at + 1 ≤ c.statements → HandlerSound c.statements h → Sound c (armed s h)
  armed_sound x h = with_handler x h t.told

  pub caught_sound : {n i : ℕ} → Trappable n → s.at < c.statements → i < c.statements → Sound c (caught_by s n i)
  caught_sound e l h = with_handler (omega arith) t.handled (e, l)

  -- The loop opened last is an open one.
  pub look_sound : LookSound c (look_of s)
  look_sound = record { most = t.nested; last = λ o. by (eqb s.opened 0) refl o }
    where
      by : (b : Bool) → eqb s.opened 0 ≡ b → 0 < s.opened → LoopSound c (cond b no_loop (get_or s.loops (s.opened - 1) no_loop))
      by true e o = absurd (omega (arith, eqb-true s.opened 0 e))
      by false e o = t.running (s.opened - 1) (omega arith)

-- ---- what the code sees, one law for each way out

module _ (s : State) (r : Look) where
  pub look_none : (x : Loop) → s.opened ≡ 0 → x ≡ no_loop → r ≡ record { opened = 0; last = x } → r ≡ look_of s
  look_none x e f q = q ∙ rw (e, f)

  pub look_last : (s.opened ≡ 0 → ⊥) → r ≡ record { opened = s.opened; last = get_or s.loops (s.opened - 1) no_loop } → r ≡ look_of s
  look_last e q = rw (ne_eqb s.opened 0 e) q

pub ruleset look_laws = (look_none, look_last)
