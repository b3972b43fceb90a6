-- The bytes that a reference names (document 01, "Values and references"; request 5 of document 02, "Strict arrays, by choice").
--   within size a n                  n bytes from a, where they lie inside size bytes
--   span_of size field form x y       the span of a reference with its bounds x and y, inside size bytes
--   insideb field a n                whether n bytes from a on lie inside the field
--   held_to rule field span           what a rule makes of a span that was found
--   span_by rule size field form x y  the span of a reference by a rule
--   Located field form x y a n       n bytes from a on are the span of a reference, said by natural numbers
--   Inside field a n                 they lie inside the field
-- The size is D, the length of the data. Bounds are any numbers: nothing wraps.
-- Assumes nothing.
use Rattle.std.specs.Prelude.{◌≡◌, ℕ, zero, suc, ◌+◌, ◌*◌, ◌≤◌, Bool, cond, leb, ℤ, pos, negsuc, nat_abs, ◌+ℤ◌, ◌-ℤ◌, ◌*ℤ◌, None, Option, Some}
use Rattle.std.specs.Int.Signed.{le_z}
use Rattle.rules.specs.Tests.{◌and◌}
use Rattle.rules_unit.specs.declared.Rule.{Rule}
use Rattle.rules_unit.specs.declared.Rule.TheVariants as rule
use Rattle.rules_unit.specs.declared.Field.{Field}
use Rattle.rules_unit.specs.declared.Form.{Form}
use Rattle.rules_unit.specs.declared.Form.TheVariants as form
use Rattle.rules_run.specs.declared.Span.{Span}

-- The n bytes from a.
abbrev pub span_at : ℕ → ℕ → Option Span
span_at a n = Some (record { start = a; len = n })

-- "A span may leave its field in either direction; it must stay inside the D bytes. Otherwise 21."
unfoldable pub within : ℕ → ℤ → ℕ → Option Span
within size (pos a) n = cond (leb (a + n) size) (span_at a n) None
within size (negsuc a) n = None

-- "subscript s gives element s (0 or less lies before the field)"
unfoldable pub subscript_span : ℕ → ℕ → ℕ → ℤ → Option Span
subscript_span size offset n s = within size (pos offset +ℤ (s -ℤ pos 1) *ℤ pos n) n

-- "(start,end) needs 1 <= start <= end"
unfoldable pub start_end_span : ℕ → ℕ → ℤ → ℤ → Option Span
start_end_span size offset s e =
    cond (le_z (pos 1) s)
    (cond (le_z s e) (within size (pos offset +ℤ (s -ℤ pos 1)) (nat_abs (e -ℤ s) + 1)) None)
    None

-- "(pos:length) needs pos >= 1 and length not 0, a negative length ending at pos"
unfoldable pub pos_length_span : ℕ → ℕ → ℤ → ℤ → Option Span
pos_length_span size offset p (pos zero) = None
pos_length_span size offset p (pos (suc k)) =
    cond (le_z (pos 1) p) (within size (pos offset +ℤ (p -ℤ pos 1)) (suc k)) None
pos_length_span size offset p (negsuc k) =
    cond (le_z (pos 1) p) (within size (pos offset +ℤ (p -ℤ pos (suc k))) (suc k)) None

-- "References .., counted from the field's first byte: no bounds gives the first element"
unfoldable pub span_of : ℕ → Field → Form → ℤ → ℤ → Option Span
span_of size f form.First x y = within size (pos f.offset) f.size
span_of size f form.Subscript x y = subscript_span size f.offset f.size x
span_of size f form.StartEnd x y = start_end_span size f.offset x y
span_of size f form.PosLength x y = pos_length_span size f.offset x y

-- ---- strict fields

-- "that field's size x count bytes": the n bytes from a on lie inside them
abbrev pub insideb : Field → ℕ → ℕ → Bool
insideb f a n = leb f.offset a and leb (a + n) (f.offset + f.count * f.size)

-- "with it, 21 is given whenever the span leaves that field's size x count bytes"
abbrev pub held_to : Rule → Field → Option Span → Option Span
held_to rule.Loose f s = s
held_to rule.Strict f (Some s) = cond (insideb f s.start s.len) (span_at s.start s.len) None
held_to rule.Strict f None = None

-- "Finding a span must now promise which of the two rules it followed". Without bounds it is the first element, which never leaves its field.
abbrev pub span_by : Rule → ℕ → Field → Form → ℤ → ℤ → Option Span
span_by r size f form.First x y = span_of size f form.First x y
span_by r size f form.Subscript x y = held_to r f (span_of size f form.Subscript x y)
span_by r size f form.StartEnd x y = held_to r f (span_of size f form.StartEnd x y)
span_by r size f form.PosLength x y = held_to r f (span_of size f form.PosLength x y)

-- ---- spans by natural numbers

-- The same sentences by natural numbers: the n bytes from a on are those of a reference with the bounds x and y, wherever they lie.
abbrev pub Located : Field → Form → ℤ → ℤ → ℕ → ℕ → Type 0
-- "no bounds gives the first element"
Located f form.First x y a n = (a ≡ f.offset) × (n ≡ f.size)
-- "subscript s gives element s (0 or less lies before the field)"
Located f form.Subscript (pos s) y a n = (a + f.size ≡ f.offset + s * f.size) × (n ≡ f.size)
Located f form.Subscript (negsuc j) y a n = (a + (j + 2) * f.size ≡ f.offset) × (n ≡ f.size)
-- "(start,end) needs 1 <= start <= end"
Located f form.StartEnd (pos s) (pos e) a n = (1 ≤ s) × (s ≤ e) × (a + 1 ≡ f.offset + s) × (a + n ≡ f.offset + e)
Located f form.StartEnd (pos s) (negsuc e) a n = ⊥
Located f form.StartEnd (negsuc s) y a n = ⊥
-- "(pos:length) needs pos >= 1 and length not 0, a negative length ending at pos"
Located f form.PosLength (pos p) (pos k) a n = (1 ≤ p) × (1 ≤ k) × (a + 1 ≡ f.offset + p) × (n ≡ k)
Located f form.PosLength (pos p) (negsuc k) a n = (1 ≤ p) × (a + n ≡ f.offset + p) × (n ≡ suc k)
Located f form.PosLength (negsuc p) y a n = ⊥

-- "that field's size x count bytes", as insideb tests them.
abbrev pub Inside : Field → ℕ → ℕ → Type 0
Inside f a n = (f.offset ≤ a) × (a + n ≤ f.offset + f.count * f.size)
