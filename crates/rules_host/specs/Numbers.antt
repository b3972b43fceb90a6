-- The resume state as a host in C holds it: 104 numbers, the statement, the open calls, the 50 return numbers, the open loops, the entry, the limit and the
-- step of each of the 16 slots, the handler and one more, and the number and the statement of the last error; 0 where there is no handler, or no error. A limit
-- or a step below 0 is held as C holds it in a number without a sign.
--   listed n f     the list of f 0 up to f (n - 1)
--   word v         the number that stands for the value v; value_of x the value that x stands for, where valueb x
--   number_at s k   the number k of the state s; numbers_of s all of them
--   Fits s         its numbers stand for s: those without a sign are no more than 65,535, limits and steps lie in the range of values, and an error's number is
--                  from 1 to 255
--   goodb k x      the number x stands for something at the place k
--   pairb n i      n and i stand for a last error, or for none
--   stateb w       the numbers w are those of a state: there are 104, each stands for something, and so do the last two together
--   state_of w      the state that they stand for; where they stand for none, one that is sound for no unit
-- Assumes nothing.
use Rattle.std.specs.Prelude.{ℕ, zero, suc, ◌+◌, ◌-◌, ◌*◌, ◌/◌, ◌%◌, ◌^◌, ◌<◌, ◌≤◌, ◌≡◌, Bool, true, cond, ◌||◌, List, [], ◌∷◌, ltb, leb, eqb, ℤ, pos, negsuc, length, get_or, replicate, Option, None, Some}
use Rattle.rules.specs.Tests.{◌and◌}
use Rattle.rules.specs.Values.{Val}
use Rattle.rules_run.specs.declared.Caught.{Caught}
use Rattle.rules_run.specs.declared.Loop.{Loop}
use Rattle.rules_run.specs.declared.State.{State}
use Rattle.rules_run.specs.States.{no_loop, error_at}

unfoldable pub listed : {A : Type 0} → ℕ → (ℕ → A) → List A
listed zero f = []
listed (suc n) f = f 0 ∷ listed n (λ k. f (suc k))

-- ---- values

-- Two's complement in 64 bits: -1 is the largest number.
abbrev pub word : ℤ → ℕ
word (pos n) = n
word (negsuc n) = 18446744073709551615 - n

-- "Values run from -(10^18 - 1) to 10^18 - 1.": 17446744073709551616 is 2^64 - 10^18.
abbrev pub valueb : ℕ → Bool
valueb x = ltb x 1000000000000000000 || ltb 17446744073709551616 x

abbrev pub value_of : ℕ → ℤ
value_of x = cond (ltb x 1000000000000000000) (pos x) (negsuc (18446744073709551615 - x))

-- ---- from a state to its numbers

-- The entry, the limit and the step of a slot.
abbrev pub loop_number : Loop → ℕ → ℕ
loop_number l r = cond (eqb r 0) l.entry (cond (eqb r 1) (word l.limit) (word l.step))

-- The handler, and the last error.
abbrev pub handler_number : Option ℕ → ℕ
handler_number None = 0
handler_number (Some i) = i + 1

abbrev pub error_number : Option Caught → ℕ
error_number None = 0
error_number (Some e) = e.number

abbrev pub error_place : Option Caught → ℕ
error_place None = 0
error_place (Some e) = e.statement

abbrev pub handled_number : State → ℕ → ℕ
handled_number s k = cond (eqb k 101) (handler_number s.trap.handler) (cond (eqb k 102) (error_number s.trap.caught) (error_place s.trap.caught))

unfoldable pub number_at : State → ℕ → ℕ
number_at s k =
    cond (eqb k 0) s.at
    (cond (eqb k 1) s.depth
    (cond (ltb k 52) (get_or s.returns (k - 2) 0)
    (cond (eqb k 52) s.opened
    (cond (ltb k 101) (loop_number (get_or s.loops ((k - 53) / 3) no_loop) ((k - 53) % 3))
    (handled_number s k)))))

abbrev pub numbers_of : State → List ℕ
numbers_of s = listed 104 (number_at s)

abbrev pub HandlerFits : Option ℕ → Type 0
HandlerFits None = Unit {0}
HandlerFits (Some i) = i < 65535

abbrev pub CaughtFits : Option Caught → Type 0
CaughtFits None = Unit {0}
CaughtFits (Some e) = (0 < e.number) × (e.number ≤ 255) × (e.statement ≤ 65535)

pub record Fits (s : State) : Type 0 where
  pub at : s.at ≤ 65535
  pub depth : s.depth ≤ 65535
  pub count : length s.returns ≡ 50
  pub each : (i : ℕ) → i < 50 → get_or s.returns i 0 ≤ 65535
  pub opened : s.opened ≤ 65535
  pub slots : length s.loops ≡ 16
  pub entries : (k : ℕ) → k < 16 → (get_or s.loops k no_loop).entry ≤ 65535
  pub limits : (k : ℕ) → k < 16 → Val (10 ^ 18) (get_or s.loops k no_loop).limit
  pub steps : (k : ℕ) → k < 16 → Val (10 ^ 18) (get_or s.loops k no_loop).step
  pub handled : HandlerFits s.trap.handler
  pub told : CaughtFits s.trap.caught

-- ---- from numbers to a state

-- The number k is a limit or a step.
abbrev pub signedb : ℕ → Bool
signedb k = leb 53 k and ltb k 101 and ltb 0 ((k - 53) % 3)

unfoldable pub goodb : ℕ → ℕ → Bool
goodb k x = cond (signedb k) (valueb x) (cond (eqb k 102) (leb x 255) (leb x 65535))

-- The numbers from the place k on.
unfoldable pub good_from : ℕ → List ℕ → Bool
good_from k [] = true
good_from k (x ∷ xs) = let rest = good_from (k + 1) xs in goodb k x and rest

-- Where there is no error, there is no statement of one.
abbrev pub pairb : ℕ → ℕ → Bool
pairb n i = cond (eqb n 0) (eqb i 0) true

unfoldable pub stateb : List ℕ → Bool
stateb w = eqb (length w) 104 and good_from 0 w and pairb (get_or w 102 0) (get_or w 103 0)

-- Sound for no unit: N is at most 2,048.
abbrev pub no_state : State
no_state =
    record { at = 65535; depth = 0; returns = replicate 50 0; opened = 0; loops = replicate 16 no_loop; trap = record { handler = None; caught = None } }

abbrev pub return_at : List ℕ → ℕ → ℕ
return_at w i = get_or w (i + 2) 0

abbrev pub loop_at : List ℕ → ℕ → Loop
loop_at w k = record { entry = get_or w (k * 3 + 53) 0; limit = value_of (get_or w (k * 3 + 54) 0); step = value_of (get_or w (k * 3 + 55) 0) }

abbrev pub handler_of : ℕ → Option ℕ
handler_of x = cond (eqb x 0) None (Some (x - 1))

abbrev pub caught_of : ℕ → ℕ → Option Caught
caught_of n i = cond (eqb n 0) None (error_at n i)

unfoldable pub state_of : List ℕ → State
state_of w =
    cond (stateb w)
    (record {
      at = get_or w 0 0;
      depth = get_or w 1 0;
      returns = listed 50 (return_at w);
      opened = get_or w 52 0;
      loops = listed 16 (loop_at w);
      trap = record { handler = handler_of (get_or w 101 0); caught = caught_of (get_or w 102 0) (get_or w 103 0) };
    })
    no_state
