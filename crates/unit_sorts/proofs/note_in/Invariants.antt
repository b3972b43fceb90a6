-- `unit_sorts::note_in` meets its contract: on the way through an expression of a known sort, each turn notes that sort for what is left.
-- The invariant: what is noted is so, what is left gives the known sort, and at most 16 values are held. The measure: how many bytes are left.
-- Assumes nothing.
use Prim.Native.Nat.{◌-◌, ◌≤◌}
use mathlib.Core.Path.{◌≡◌}
use lib.ListN.{length}
use Rattle.unit_sorts.specs.Notes.{Noted}
use Rattle.unit_sorts.proofs.Leads.{Leads}
use Rattle.unit_sorts.proofs.note_in.Given as goal
use Rattle.unit_decode.specs.Units.{code_in}

abbrev pub invariant-loop-i : goal.invariant-loop-i
invariant-loop-i l =
    Noted (code_in l.coded) l.s l.notes × Leads (code_in l.coded) l.s l.i l.n l.k × (l.n ≤ 16) × (length l.notes ≡ length l.initial.notes)

abbrev pub decreases-loop-i : goal.decreases-loop-i
decreases-loop-i l = l.coded.parts.e - l.i
