-- What a statement stores at a fenced destination over valid data (document 01, "Fence rules"), and which faults it may give.
--   Aimed c d span w        the store w is none, or one at the span, and what it puts in a decimal span is valid and has no spaces
--   TurnOk c d span M t     of the turn t: its store is such a one, and it gives no 21, and 22 only where M holds
-- Assumes nothing.
use Rattle.std.specs.Prelude.{Result, Err, Ok, Option}
use Prim.Native.Nat.{ℕ, ◌≤◌}
use mathlib.Core.Path.{◌≡◌, refl, ap}
use mathlib.Core.Bool.{Bool, true, false, false≢true}
use mathlib.Core.List.{List}
use lib.IntN.{ℤ, pos, ◌+ℤ◌, ◌-ℤ◌}
use lib.ListN.{length, take, drop}
use Rattle.rules.specs.declared.Fault.{Fault}
use Rattle.rules.specs.declared.Fault.TheVariants as fault
use Rattle.rules.specs.Values.{Figures, Letters}
use Rattle.rules.specs.Moves.{alpha_of}
use Rattle.rules.proofs.Decimals.{written_figures, zeros_figures}
use Rattle.rules.proofs.Walk.{cond_either}
use Rattle.rules_unit.specs.declared.Sort.{Sort}
use Rattle.rules_unit.specs.Codes.{Code}
use Rattle.rules_unit.specs.Expressions.{alpha_sort}
use Rattle.rules_unit.specs.Sound.{SoundCode}
use Rattle.rules_run.specs.declared.Span.{Span}
use Rattle.rules_run.specs.declared.Worked.{Worked}
use Rattle.rules_run.specs.declared.Worked.TheVariants as worked
use Rattle.rules_run.specs.declared.Write.{Write}
use Rattle.rules_run.specs.declared.Write.TheVariants as write
use Rattle.rules_run.specs.declared.Flow.{Flow}
use Rattle.rules_run.specs.declared.Turn.{Turn}
use Rattle.rules_run.specs.Evaluation.{read_at, text_of}
use Rattle.rules_run.specs.Turns.{turn, stores, goes, move_number, move_num, move_worked, on_place, clear_at, counted, count_at, case_at, edit_num, edit_at, fitsb, controls}
use Rattle.rules_run.proofs.Comes.{Comes}
use Rattle.rules_run.proofs.Faults.{kept_passes, alpha_passes}
use Rattle.rules_run.proofs.Outside.{start_of, len_of, new_of}
use Rattle.rules_fence.specs.Destinations.{AllValid}
use Rattle.rules_fence.proofs.Elements.{span_short, span_reads}
use Rattle.rules_fence.proofs.Mild.{mildb, mild_num, MildFault, mild_plain, MildAnswer, num_plain, num_fault, mild_value}
use Rattle.rules_fence.proofs.Places.{PlaceOk, WorkedOk}

pub data Aimed (c : Code) (d : List ℕ) (span : Option Span) (w : Write) : Type 0 where
  still : w ≡ write.Nothing → Aimed c d span w
  aims : (decimal : Bool) → PlaceOk c true span decimal (start_of w) (len_of w) → (decimal ≡ true → Figures c.dialect.limit c.dialect.sign (new_of c d w)) → Aimed c d span w

abbrev pub TurnAimed : Code → List ℕ → Option Span → Result Turn Fault → Type 0
TurnAimed c d span (Ok t) = Aimed c d span t.write
TurnAimed c d span (Err e) = Unit {0}

pub record TurnOk (c : Code) (d : List ℕ) (span : Option Span) (M : Type 0) (t : Result Turn Fault) : Type 0 where
  pub aimed : TurnAimed c d span t
  pub mild : MildAnswer M t

module _ (c : Code) (d : List ℕ) (span : Option Span) (M : Type 0) where
  pub failed_ok : (e : Fault) → MildFault M e → TurnOk c d span M (Err e)
  failed_ok e m = record { aimed = tt; mild = m }

  pub goes_ok : (f : Flow) → TurnOk c d span M (goes f)
  goes_ok f = record { aimed = still refl; mild = tt }

  alpha_store : (w : Write) → PlaceOk c true span false (start_of w) (len_of w) → TurnOk c d span M (stores w)
  alpha_store w k = record { aimed = aims false k (λ t. absurd (false≢true t)); mild = tt }

  -- What is done at a place that was found.
  pub on_place_lem : (w : Result Worked Fault) (k : Bool → ℕ → ℕ → Result Turn Fault) → WorkedOk c true span w
      → ((decimal : Bool) (a n : ℕ) → w ≡ Ok (worked.Place decimal a n) → PlaceOk c true span decimal a n → TurnOk c d span M (k decimal a n)) → TurnOk c d span M (on_place w k)
  on_place_lem (Ok (worked.Number v)) k o h = failed_ok fault.Malformed tt
  on_place_lem (Ok (worked.Place decimal a n)) k o h = h decimal a n refl o
  on_place_lem (Ok (worked.Text p l)) k o h = failed_ok fault.Malformed tt
  on_place_lem (Err e) k o h = failed_ok e (mild_plain M e o)

  edit_num_ok : (r : Result ℤ Fault) (k : ℤ → Write) → mild_num false r ≡ true → ((v : ℤ) → PlaceOk c true span false (start_of (k v)) (len_of (k v))) → TurnOk c d span M (edit_num r k)
  edit_num_ok (Ok v) k h p = alpha_store (k v) (p v)
  edit_num_ok (Err e) k h p = failed_ok e (mild_plain M e h)

  -- A number by a mask, which is an expression fenced as one that is read.
  pub edit_ok : (sp : Option Span) (decimal : Bool) (a n : ℕ) → PlaceOk c true span decimal a n → (w : Result Worked Fault) → WorkedOk c false sp w → (r : Result ℤ Fault) → mild_num false r ≡ true
      → TurnOk c d span M (edit_at decimal a n w r)
  edit_ok sp true a n p w o r h = failed_ok fault.Malformed tt
  edit_ok sp false a n p (Ok (worked.Number v)) o r h = failed_ok fault.Malformed tt
  edit_ok sp false a n p (Ok (worked.Place true b k)) o r h = failed_ok fault.Malformed tt
  edit_ok sp false a n p (Ok (worked.Place false b k)) o r h = edit_num_ok r (λ v. write.Edit a n b k v) h (λ v. p)
  edit_ok sp false a n p (Ok (worked.Text q l)) o r h = edit_num_ok r (λ v. write.EditLiteral a n q l v) h (λ v. p)
  edit_ok sp false a n p (Err e) o r h = failed_ok e (mild_plain M e o)

  counted_mild : (up : Bool) (r : Result ℤ Fault) → mild_num false r ≡ true → mild_num false (counted c.dialect.top up r) ≡ true
  counted_mild true (Ok v) m = kept_passes (mildb false) refl c.dialect.top (v +ℤ pos 1)
  counted_mild false (Ok v) m = kept_passes (mildb false) refl c.dialect.top (v -ℤ pos 1)
  counted_mild true (Err e) m = m
  counted_mild false (Err e) m = m

  module _ (s : SoundCode c) (letters : Letters c.dialect.sign) (e : length d ≡ c.size) (v : AllValid c d) where
    short : {a n : ℕ} → PlaceOk c true span true a n → n ≤ c.dialect.limit
    short k = span_short c s k.known k.kind k.fenced

    pub read_mild : {dest : Bool} {sp : Option Span} {a n : ℕ} → PlaceOk c dest sp true a n → mild_num false (read_at c d a n) ≡ true
    read_mild k = mild_value false (span_reads c s d e v k.known k.kind k.some k.fenced)

    number_ok : (decimal : Bool) (a n : ℕ) → PlaceOk c true span decimal a n → (z : ℤ) → TurnOk c d span M (move_number decimal a n z)
    number_ok true a n k z = record { aimed = aims true k (λ t. written_figures letters c.dialect.limit n z k.some (short k)); mild = tt }
    number_ok false a n k z = alpha_store (write.Show a n z) k

    num_ok : (decimal : Bool) (a n : ℕ) → PlaceOk c true span decimal a n → (r : Result ℤ Fault) → MildAnswer M r → TurnOk c d span M (move_num decimal a n r)
    num_ok decimal a n k (Ok z) m = number_ok decimal a n k z
    num_ok decimal a n k (Err x) m = failed_ok x m

    -- Alpha text to a decimal place: 22 may be.
    text_ok : (a n : ℕ) → PlaceOk c true span true a n → (t : List ℕ) → (alpha_of c.dialect.top t ≡ Err fault.BadDigit → M) → TurnOk c d span M (move_num true a n (alpha_of c.dialect.top t))
    text_ok a n k t m = num_ok true a n k (alpha_of c.dialect.top t) (num_fault M (alpha_of c.dialect.top t) (alpha_passes (mildb true) refl refl c.dialect.top t) m)

    -- The source of a SET, an expression of the sort given.
    pub source_ok : (kind : Sort) (sp : Option Span) (decimal : Bool) (a n : ℕ) → PlaceOk c true span decimal a n → (w : Result Worked Fault) → Comes kind w → WorkedOk c false sp w
        → (decimal ≡ true → alpha_sort kind ≡ true → alpha_of c.dialect.top (text_of c d w) ≡ Err fault.BadDigit → M) → TurnOk c d span M (move_worked c d decimal a n w)
    source_ok kind sp decimal a n k (Ok (worked.Number z)) q o m = number_ok decimal a n k z
    source_ok kind sp decimal a n k (Ok (worked.Place true b l)) q o m = num_ok decimal a n k (read_at c d b l) (num_plain M (read_at c d b l) (read_mild o))
    source_ok kind sp true a n k (Ok (worked.Place false b l)) q o m = text_ok a n k (take l (drop b d)) (m refl (ap alpha_sort q))
    source_ok kind sp false a n k (Ok (worked.Place false b l)) q o m = alpha_store (write.Move a n b l) k
    source_ok kind sp true a n k (Ok (worked.Text p l)) q o m = text_ok a n k (take l (drop p c.literals)) (m refl (ap alpha_sort q))
    source_ok kind sp false a n k (Ok (worked.Text p l)) q o m = alpha_store (write.Literal a n p l) k
    source_ok kind sp decimal a n k (Err x) q o m = failed_ok x (mild_plain M x o)

    pub clear_ok : (decimal : Bool) (a n : ℕ) → PlaceOk c true span decimal a n → TurnOk c d span M (clear_at decimal a n)
    clear_ok true a n k = record { aimed = aims true k (λ t. zeros_figures c.dialect.limit c.dialect.sign n k.some (short k)); mild = tt }
    clear_ok false a n k = alpha_store (write.Clear a n false) k

    pub count_ok : (up decimal : Bool) (a n : ℕ) → PlaceOk c true span decimal a n → TurnOk c d span M (count_at c d up decimal a n)
    count_ok up true a n k = num_ok true a n k (counted c.dialect.top up (read_at c d a n)) (num_plain M (counted c.dialect.top up (read_at c d a n)) (counted_mild up (read_at c d a n) (read_mild k)))
    count_ok up false a n k = failed_ok fault.Malformed tt

    -- The control value of a loop, stored where it fits.
    pub controls_ok : (a n : ℕ) → PlaceOk c true span true a n → (z : ℤ) (f : Flow) → TurnOk c d span M (controls a n z f)
    controls_ok a n k z f =
        cond_either (TurnOk c d span M) (fitsb n z) (Ok (turn (write.Number a n z) f)) (Err fault.TooLong)
        (record { aimed = aims true k (λ t. written_figures letters c.dialect.limit n z k.some (short k)); mild = tt }) (failed_ok fault.TooLong tt)

    pub case_ok : (up decimal : Bool) (a n : ℕ) → PlaceOk c true span decimal a n → TurnOk c d span M (case_at up decimal a n)
    case_ok up true a n k = failed_ok fault.Malformed tt
    case_ok up false a n k = alpha_store (write.Case a n up) k
