-- The resume state (document 01, "Stops and their numbers"; requests 4 and 6 of document 02, "FOR loops", "ONERROR and OFFERROR").
--   soundb c s              s is sound for the unit c, as a test; Sound says the same with quantifiers
--   LoopSound c l           l is an open loop of the unit; HandlerSound n h and CaughtSound n e, h and e are a handler and a last error of n statements
--   started                 the state before the first statement
--   gone, called, returned  what a jump, a CALL and a RETURN make of it
--   entered, closed         what opening a loop, and closing the one opened last, make of it
--   armed, caught_by         what ONERROR and OFFERROR, and an error that is trapped, make of it
--   unhandled s             the same state with no handler
--   look_of s                what a statement sees of it; LookSound c l, that a sound state is seen
-- Assumes nothing.
use Rattle.std.specs.Prelude.{◌≡◌, Bool, true, cond, List, [], ◌∷◌, ℕ, ◌+◌, ◌-◌, ◌<◌, ◌≤◌, ltb, leb, eqb, ℤ, pos, nat_abs, length, get_or, set, replicate, Option, None, Some}
use Rattle.rules.specs.Stops.{trappedb, Trappable}
use Rattle.rules.specs.Tests.{◌and◌}
use Rattle.rules.specs.Values.{Val}
use Rattle.rules_unit.specs.Codes.{Code}
use Rattle.rules_run.specs.declared.Caught.{Caught}
use Rattle.rules_run.specs.declared.Loop.{Loop}
use Rattle.rules_run.specs.declared.Look.{Look}
use Rattle.rules_run.specs.declared.State.{State}

-- ---- calls

-- "50 return numbers (0 to N), unused ones zero"
abbrev pub returnb : ℕ → ℕ → ℕ → ℕ → Bool
returnb n depth i x = cond (ltb i depth) (leb x n) (eqb x 0)

-- The return numbers from the place i on.
unfoldable pub returnsb : ℕ → ℕ → ℕ → List ℕ → Bool
returnsb n depth i [] = true
returnsb n depth i (x ∷ xs) = let rest = returnsb n depth (i + 1) xs in returnb n depth i x and rest

-- ---- loops

-- The error of the number n at the statement i.
abbrev pub error_at : ℕ → ℕ → Option Caught
error_at n i = Some (record { number = n; statement = i })

-- A slot without a loop.
abbrev pub no_loop : Loop
no_loop = record { entry = 0; limit = pos 0; step = pos 0 }

-- "an open loop names an entry statement of the unit beside its limit and nonzero step, both in the value range"
unfoldable pub loopb : Code → Loop → Bool
loopb c l =
    ltb l.entry c.statements
    and eqb (c.statement l.entry).code 14
    and ltb (nat_abs l.limit) c.dialect.top
    and ltb (nat_abs l.step) c.dialect.top
    and ltb 0 (nat_abs l.step)

unfoldable pub emptyb : Loop → Bool
emptyb l = eqb l.entry 0 and eqb (nat_abs l.limit) 0 and eqb (nat_abs l.step) 0

abbrev pub slotb : Code → ℕ → ℕ → Loop → Bool
slotb c opened i l = cond (ltb i opened) (loopb c l) (emptyb l)

-- The slots from the place i on.
unfoldable pub slotsb : Code → ℕ → ℕ → List Loop → Bool
slotsb c opened i [] = true
slotsb c opened i (l ∷ ls) = let rest = slotsb c opened (i + 1) ls in slotb c opened i l and rest

-- The same sentence as a statement.
pub record LoopSound (c : Code) (l : Loop) : Type 0 where
  pub low : l.entry < c.statements
  pub enters : (c.statement l.entry).code ≡ 14
  pub limit : Val c.dialect.top l.limit
  pub step : Val c.dialect.top l.step
  pub moves : 0 < nat_abs l.step

-- ---- the handler and the last error

-- "7 for a handler or error statement not below N, or an error not of the five; having none is sound"
abbrev pub handlerb : ℕ → Option ℕ → Bool
handlerb n None = true
handlerb n (Some i) = ltb i n

abbrev pub caughtb : ℕ → Option Caught → Bool
caughtb n None = true
caughtb n (Some x) = trappedb x.number and ltb x.statement n

-- The same sentence as statements.
abbrev pub HandlerSound : ℕ → Option ℕ → Type 0
HandlerSound n None = Unit {0}
HandlerSound n (Some i) = i < n

abbrev pub CaughtSound : ℕ → Option Caught → Type 0
CaughtSound n None = Unit {0}
CaughtSound n (Some x) = Trappable x.number × (x.statement < n)

-- ---- the state

-- "The resume state holds a statement number (0 to N), the number of open calls (0 to 50) and 50 return numbers"; "28 more than 16 open loops"; "The state keeps
-- the handler and the last error's number and statement."
unfoldable pub soundb : Code → State → Bool
soundb c s =
    leb s.at c.statements
    and leb s.depth 50
    and returnsb c.statements s.depth 0 s.returns
    and leb s.opened 16
    and eqb (length s.loops) 16
    and slotsb c s.opened 0 s.loops
    and handlerb c.statements s.trap.handler
    and caughtb c.statements s.trap.caught

-- The same sentences with quantifiers.
pub record Sound (c : Code) (s : State) : Type 0 where
  pub place : s.at ≤ c.statements
  pub calls : s.depth ≤ 50
  pub used : (i : ℕ) → i < s.depth → i < length s.returns → get_or s.returns i 0 ≤ c.statements
  pub unused : (i : ℕ) → s.depth ≤ i → i < length s.returns → get_or s.returns i 0 ≡ 0
  pub nested : s.opened ≤ 16
  pub slots : length s.loops ≡ 16
  pub running : (i : ℕ) → i < s.opened → LoopSound c (get_or s.loops i no_loop)
  pub vacant : (i : ℕ) → s.opened ≤ i → i < 16 → get_or s.loops i no_loop ≡ no_loop
  pub handled : HandlerSound c.statements s.trap.handler
  pub told : CaughtSound c.statements s.trap.caught

abbrev pub started : State
started =
    record { at = 0; depth = 0; returns = replicate 50 0; opened = 0; loops = replicate 16 no_loop; trap = record { handler = None; caught = None } }

abbrev pub gone : State → ℕ → State
gone s to =
    record { at = to; depth = s.depth; returns = s.returns; opened = s.opened; loops = s.loops; trap = s.trap }

-- "A CALL at i stores i+1"
abbrev pub called : State → ℕ → State
called s to =
    record {
      at = to;
      depth = s.depth + 1;
      returns = set s.returns s.depth (s.at + 1);
      opened = s.opened;
      loops = s.loops;
      trap = s.trap;
    }

-- "a RETURN goes on there and its entry becomes zero"
abbrev pub returned : State → State
returned s =
    record {
      at = get_or s.returns (s.depth - 1) 0;
      depth = s.depth - 1;
      returns = set s.returns (s.depth - 1) 0;
      opened = s.opened;
      loops = s.loops;
      trap = s.trap;
    }

-- "Open loops live in the resume state": the loop of the statement where the state is, opened.
abbrev pub entered : State → ℤ → ℤ → State
entered s limit step =
    record {
      at = s.at + 1;
      depth = s.depth;
      returns = s.returns;
      opened = s.opened + 1;
      loops = set s.loops s.opened (record { entry = s.at; limit = limit; step = step });
      trap = s.trap;
    }

-- The loop opened last, closed: its slot becomes zero, as the entry of a RETURN does.
abbrev pub closed : State → ℕ → State
closed s to =
    record {
      at = to;
      depth = s.depth;
      returns = s.returns;
      opened = s.opened - 1;
      loops = set s.loops (s.opened - 1) no_loop;
      trap = s.trap;
    }

-- "the handler stays until OFFERROR or another ONERROR": the handler is h from here on.
abbrev pub armed : State → Option ℕ → State
armed s h =
    record {
      at = s.at + 1;
      depth = s.depth;
      returns = s.returns;
      opened = s.opened;
      loops = s.loops;
      trap = record { handler = h; caught = s.trap.caught };
    }

-- "goes on at c"; "The state keeps .. the last error's number and statement. Open calls and loops stay open."
abbrev pub caught_by : State → ℕ → ℕ → State
caught_by s n to =
    record {
      at = to;
      depth = s.depth;
      returns = s.returns;
      opened = s.opened;
      loops = s.loops;
      trap = record { handler = s.trap.handler; caught = error_at n s.at };
    }

-- The same place, calls, loops and last error, with no handler.
abbrev pub unhandled : State → State
unhandled s =
    record {
      at = s.at;
      depth = s.depth;
      returns = s.returns;
      opened = s.opened;
      loops = s.loops;
      trap = record { handler = None; caught = s.trap.caught };
    }

-- ---- what a statement sees

-- "the loop opened last"
abbrev pub look_of : State → Look
look_of s = record { opened = s.opened; last = cond (eqb s.opened 0) no_loop (get_or s.loops (s.opened - 1) no_loop) }

pub record LookSound (c : Code) (l : Look) : Type 0 where
  pub most : l.opened ≤ 16
  pub last : 0 < l.opened → LoopSound c l.last
