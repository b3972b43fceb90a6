-- Destinations, and the store of a fenced statement over valid data (document 01, "Fence rules"): what it touches lies in a destination, and it
-- leaves every decimal element valid.
-- Assumes nothing.
use Rattle.std.specs.Prelude.{Option, None, Result, Err, Ok}
use Prim.Native.Nat.{ℕ, zero, suc, ◌<◌, ◌≤◌}
use native.Mathlib.Omega.{arith}
use mathlib.Core.Path.{◌≡◌, refl, sym, ap, ◌∙◌, subst}
use mathlib.Core.Bool.{Bool, true, false, false≢true}
use mathlib.Core.Logic.{◌↔◌, ◌⊎◌, inl, inr}
use mathlib.Core.List.{List}
use lib.ListN.{length, get_or}
use Rattle.rules.specs.declared.Fault.{Fault}
use Rattle.rules_unit.specs.declared.Act.TheVariants as act
use Rattle.rules_unit.specs.declared.Verb.{Verb}
use Rattle.rules_unit.specs.declared.Verb.TheVariants as verb
use Rattle.rules_unit.specs.declared.Role.{Role}
use Rattle.rules_unit.specs.declared.Role.TheVariants as role
use Rattle.rules_unit.specs.declared.Statement.{Statement}
use Rattle.rules_unit.specs.Codes.{Code}
use Rattle.rules_unit.specs.Table.{verb_of, row_of, use_of, more_of, uses_of, WritesA}
use Rattle.rules_unit.proofs.Table.{code_back, verb_code, writes_some}
use Rattle.rules_unit.specs.Sound.{SoundCode}
use Rattle.rules_run.specs.declared.Span.{Span}
use Rattle.rules_run.specs.declared.Write.{Write}
use Rattle.rules_run.specs.declared.Write.TheVariants as write
use Rattle.rules_run.specs.declared.Turn.{Turn}
use Rattle.rules_run.specs.Turns.{applied, Room}
use Rattle.rules_run.specs.Runs.{data_by}
use Rattle.rules_run.proofs.Outside.{Touches, new_of, start_of, len_of, applied_stored, length_new, applied_outside}
use Rattle.rules_run.proofs.Room.{TurnRoom}
use Rattle.rules_fence.specs.Destinations.{PlaceNames, Writes, Covers, Destination, InPlaceA, AllValid}
use Rattle.rules_fence.proofs.PlaceSpans.{use_writes}
use Rattle.rules_fence.proofs.Elements.{store_valid}
use Rattle.rules_fence.proofs.Moves.{Aimed, still, aims, TurnAimed}
use Rattle.rules_fence.proofs.Turns.{aim_of}

-- ---- destinations

abbrev writtenb : Role → Bool
writtenb role.Unused = false
writtenb (role.Written w) = true
writtenb (role.Read w) = false
writtenb role.Target = false
writtenb role.Table = false
writtenb role.Numbers = false
writtenb role.End = false
writtenb role.Never = false

role_writes : (c : Code) (r : Role) (x : ℕ) (span : Option Span) → Writes c (use_of r x) span → (writtenb r ≡ true) × PlaceNames c (c.items x) span
role_writes c role.Unused x span r = absurd r
role_writes c (role.Written w) x span r = (refl, r.1)
role_writes c (role.Read w) x span r = absurd (false≢true r.0)
role_writes c role.Target x span r = absurd r
role_writes c role.Table x span r = absurd r
role_writes c role.Numbers x span r = absurd (false≢true r.0)
role_writes c role.End x span r = absurd r
role_writes c role.Never x span r = absurd r

-- Of a statement's parts only a is written, and that by the codes named for it.
record OnlyA (v : Verb) : Type 0 where
  codes : writtenb (row_of v).a ≡ true → WritesA (code_back v)
  not_b : writtenb (row_of v).b ≡ false
  not_c : writtenb (row_of v).c ≡ false

only_a : (v : Verb) → OnlyA v
only_a (verb.At act.Set) = record { codes = λ e. inl (omega arith, omega arith); not_b = refl; not_c = refl }
only_a (verb.At act.Clear) = record { codes = λ e. inl (omega arith, omega arith); not_b = refl; not_c = refl }
only_a (verb.At (act.Count true)) = record { codes = λ e. inl (omega arith, omega arith); not_b = refl; not_c = refl }
only_a (verb.At (act.Count false)) = record { codes = λ e. inl (omega arith, omega arith); not_b = refl; not_c = refl }
only_a (verb.At (act.Case true)) = record { codes = λ e. inl (omega arith, omega arith); not_b = refl; not_c = refl }
only_a (verb.At (act.Case false)) = record { codes = λ e. inl (omega arith, omega arith); not_b = refl; not_c = refl }
only_a (verb.At act.Edit) = record { codes = λ e. inr (inl refl); not_b = refl; not_c = refl }
only_a verb.Goto = record { codes = λ e. absurd (false≢true e); not_b = refl; not_c = refl }
only_a verb.IfZero = record { codes = λ e. absurd (false≢true e); not_b = refl; not_c = refl }
only_a verb.Call = record { codes = λ e. absurd (false≢true e); not_b = refl; not_c = refl }
only_a verb.Return = record { codes = λ e. absurd (false≢true e); not_b = refl; not_c = refl }
only_a verb.Stop = record { codes = λ e. absurd (false≢true e); not_b = refl; not_c = refl }
only_a verb.Computed = record { codes = λ e. absurd (false≢true e); not_b = refl; not_c = refl }
only_a verb.For = record { codes = λ e. inr (inr refl); not_b = refl; not_c = refl }
only_a verb.LoopEnd = record { codes = λ e. absurd (false≢true e); not_b = refl; not_c = refl }
only_a verb.ExitLoop = record { codes = λ e. absurd (false≢true e); not_b = refl; not_c = refl }
only_a verb.NextLoop = record { codes = λ e. absurd (false≢true e); not_b = refl; not_c = refl }
only_a verb.OnError = record { codes = λ e. absurd (false≢true e); not_b = refl; not_c = refl }
only_a verb.OffError = record { codes = λ e. absurd (false≢true e); not_b = refl; not_c = refl }
only_a verb.Bad = record { codes = λ e. absurd (false≢true e); not_b = refl; not_c = refl }

-- What follows in a row is read.
more_reads : (c : Code) (r : Role) (x k : ℕ) (span : Option Span) → Writes c (get_or (more_of c r x) k None) span → ⊥
more_reads c role.Unused x k span r = r
more_reads c (role.Written w) x k span r = r
more_reads c (role.Read w) x k span r = r
more_reads c role.Target x k span r = r
more_reads c role.Table x k span r = r
more_reads c role.Numbers x zero span r = false≢true r.0
more_reads c role.Numbers x (suc zero) span r = false≢true r.0
more_reads c role.Numbers x (suc (suc k)) span r = r
more_reads c role.End x k span r = r
more_reads c role.Never x k span r = r

-- What a statement writes is named by its part a.
a_writes : (c : Code) (t : Statement) (k : ℕ) (span : Option Span) → k < length (uses_of c t) → Writes c (get_or (uses_of c t) k None) span
    → (writtenb (row_of (verb_of t.code)).a ≡ true) × PlaceNames c (c.items t.a) span
a_writes c t zero span l r = role_writes c (row_of (verb_of t.code)).a t.a span r
a_writes c t (suc zero) span l r =
    let v = verb_of t.code in absurd (false≢true (sym (only_a v).not_b ∙ (role_writes c (row_of v).b t.b span r).0))
a_writes c t (suc (suc zero)) span l r =
    let v = verb_of t.code in absurd (false≢true (sym (only_a v).not_c ∙ (role_writes c (row_of v).c t.c span r).0))
a_writes c t (suc (suc (suc k))) span l r = absurd (more_reads c (row_of (verb_of t.code)).b t.b k span r)

low_a : (c : Code) (code x : ℕ) (span : Option Span) → 1 ≤ code → code ≤ 6 → PlaceNames c (c.items x) span → Writes c (use_of (row_of (verb_of code)).a x) span
unfolding verb_of
low_a c zero x span l m p = absurd (omega arith)
low_a c (suc zero) x span l m p = (refl, p)
low_a c (suc (suc zero)) x span l m p = (refl, p)
low_a c (suc (suc (suc zero))) x span l m p = (refl, p)
low_a c (suc (suc (suc (suc zero)))) x span l m p = (refl, p)
low_a c (suc (suc (suc (suc (suc zero))))) x span l m p = (refl, p)
low_a c (suc (suc (suc (suc (suc (suc zero)))))) x span l m p = (refl, p)
low_a c (suc (suc (suc (suc (suc (suc (suc code))))))) x span l m p = absurd (omega arith)

codes_a : (c : Code) (code x : ℕ) (span : Option Span) → WritesA code → PlaceNames c (c.items x) span → Writes c (use_of (row_of (verb_of code)).a x) span
unfolding verb_of
codes_a c code x span (inl h) p = low_a c code x span h.0 h.1 p
codes_a c code x span (inr (inl e)) p = rw e (refl, p)
codes_a c code x span (inr (inr e)) p = rw e (refl, p)

-- "A destination is the span named by place a of codes 1 to 6", and of 13 and 14.
pub destination_exactly : (c : Code) (b : ℕ) → Destination c b ↔ InPlaceA c b
destination_exactly c b = (to, of)
  where
    code_is : (code : ℕ) → (verb_of code ≡ verb.Bad) ⊎ (code_back (verb_of code) ≡ code) → 1 ≤ code_back (verb_of code) → code_back (verb_of code) ≡ code
    code_is code (inl e) h = absurd (omega (arith, h, ap code_back e))
    code_is code (inr e) h = e

    to : Destination c b → InPlaceA c b
    to d =
        let t = c.statement d.statement_number in
        let p = a_writes c t d.use_number d.span d.used d.writes in
        let q = (only_a (verb_of t.code)).codes p.0 in
        let e = code_is t.code (verb_code t.code) (writes_some (code_back (verb_of t.code)) q) in
        record { statement_number = d.statement_number; low = d.low; coded = subst WritesA e q; span = d.span; names = p.1; covers = d.covers }

    of : InPlaceA c b → Destination c b
    of d =
        let t = c.statement d.statement_number in
        record { statement_number = d.statement_number; low = d.low; use_number = 0; used = omega arith; span = d.span; writes = codes_a c t.code t.a d.span d.coded d.names; covers = d.covers }

-- What a statement stores at is its destination.
pub aim_destination : (c : Code) (i : ℕ) → i < c.statements → (b : ℕ) → Covers (aim_of c (c.statement i)) b → Destination c b
aim_destination c i h b z =
    let t = c.statement i in
    record { statement_number = i; low = h; use_number = 0; used = omega arith; span = aim_of c t; writes = use_writes c b (use_of (row_of (verb_of t.code)).a t.a) z; covers = z }

-- ---- the store

module _ (c : Code) (s : SoundCode c) (d : List ℕ) (e : length d ≡ c.size) (v : AllValid c d) (span : Option Span) (w : Write) (room : Room c (length d) w) where
  pub applied_valid : Aimed c d span w → AllValid c (applied c d w)
  unfolding applied
  applied_valid (still q) = rw q v
  applied_valid (aims decimal k fresh) =
      rw (applied_stored c d w)
      (store_valid c s d e v k.field (start_of w) (len_of w) (new_of c d w) k.known k.fenced (length_new c d w room) k.some (λ t. fresh (sym k.kind ∙ t)))

  pub touches_covered : Aimed c d span w → (b : ℕ) → Touches w b → Covers span b
  touches_covered (still q) b t = let x : Touches write.Nothing b = subst (λ (y : Write). Touches y b) q t in absurd (omega (arith, x.to))
  touches_covered (aims decimal k fresh) b t = rw k.is (t.from, t.to)

-- ---- the turn

module _ (c : Code) (s : SoundCode c) (d : List ℕ) (e : length d ≡ c.size) (v : AllValid c d) (span : Option Span) where
  pub turn_valid : (t : Result Turn Fault) → TurnRoom c (length d) t → TurnAimed c d span t → AllValid c (data_by c d t)
  turn_valid (Ok t) room aimed = applied_valid c s d e v span t.write room aimed
  turn_valid (Err x) room aimed = v

  pub turn_outside : (t : Result Turn Fault) → TurnRoom c (length d) t → TurnAimed c d span t → (b : ℕ) → (Covers span b → ⊥) → get_or (data_by c d t) b 0 ≡ get_or d b 0
  turn_outside (Ok t) room aimed b o = applied_outside c d t.write room b (λ z. o (touches_covered c s d e v span t.write room aimed b z))
  turn_outside (Err x) room aimed b o = refl
