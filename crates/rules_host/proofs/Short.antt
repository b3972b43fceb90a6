-- No words are longer than 63 bytes.
-- Assumes nothing.
use Prim.Native.Nat.{ℕ, ◌≤◌}
use Prim.Native.String.{String}
use mathlib.Core.Bool.{Bool, true, false, cond}
use lib.Dec.{T, leb, leb→le}
use lib.ListN.{length}
use Rattle.rules_host.specs.Words.{codes, stop_text, words_of, breach_text, breach_words_of}

record Short (s : String) : Type 0 where
  pub most : length (codes s) ≤ 63

either : (b : Bool) (s t : String) → Short s → Short t → Short (cond b s t)
either true s t f g = f
either false s t f g = g

counted : (s : String) → T (leb (length (codes s)) 63) → Short s
counted s h = record { most = leb→le (length (codes s)) 63 h }

text_short : (n : ℕ) → Short (stop_text n)
unfolding codes
text_short n = search (either, counted) depth 24 fits 4000

pub words_short : (n : ℕ) → length (words_of n) ≤ 63
unfolding words_of
words_short n = (text_short n).most

breach_short : (n : ℕ) → Short (breach_text n)
unfolding codes
breach_short n = search (either, counted) depth 12 fits 4000

pub breach_words_short : (n : ℕ) → length (breach_words_of n) ≤ 63
unfolding breach_words_of
breach_words_short n = (breach_short n).most
