-- The words of the stops (document 01, "Stops and their numbers"), those of 20 to 25 being the manuals' own, and of the fence rules.
--   stop_text n     the words of the stop n, as a text; none where n is no stop
--   words_of n      the same as the codes of its characters
--   said_of n t     what a call leaves that puts them into the text t: their whole length, and the text
--   breach_text n, breach_words_of n, breach_said n t    the same of the fence rule n
-- Assumes nothing.
use Rattle.std.specs.Prelude.{ℕ, cond, List, [] as none, ◌∷◌ as ◌then◌, eqb, length}
use Prim.Native.Char.{code}
use Prim.Native.String.{String, [], ◌∷◌}
use Rattle.rules_host.specs.Laid.{laid}

-- The words, a line for each stop.
abbrev pub stop_text : ℕ → String
stop_text n =
    cond (eqb n 0) "The end was reached"
    (cond (eqb n 1) "The length, the mark or the parts do not fit"
    (cond (eqb n 2) "A part is outside its range"
    (cond (eqb n 3) "A field entry breaks its rule"
    (cond (eqb n 4) "An expression is badly formed or of the wrong sort"
    (cond (eqb n 5) "A statement's code, zero part, count or target is wrong"
    (cond (eqb n 6) "The data buffer does not have the unit's D bytes"
    (cond (eqb n 7) "The resume state is unsound"
    (cond (eqb n 20) "Arithmetic operand exceeds 18 digits"
    (cond (eqb n 21) "Invalid subscript specified"
    (cond (eqb n 22) "Bad digit encountered"
    (cond (eqb n 23) "Attempt to divide by zero"
    (cond (eqb n 24) "Calls nested to a depth greater than 50"
    (cond (eqb n 25) "RETURN with no CALL or XCALL"
    (cond (eqb n 26) "The rounding count is not 0 to 18"
    (cond (eqb n 27) "The step of a loop is zero"
    (cond (eqb n 28) "Loops nested to a depth greater than 16"
    (cond (eqb n 29) "Loop end, EXITLOOP or NEXTLOOP with no loop open"
    (cond (eqb n 30) "The allowance was spent before the end"
    ""))))))))))))))))))

-- The fence rules in their order, each as what breaks it.
abbrev pub breach_text : ℕ → String
breach_text n =
    cond (eqb n 1) "A bound is not a literal"
    (cond (eqb n 2) "The bounds give 21"
    (cond (eqb n 3) "A span leaves its field"
    (cond (eqb n 4) "A decimal span is not in one element"
    (cond (eqb n 5) "A decimal destination ends inside its element"
    (cond (eqb n 6) "An alpha destination shares a byte with a decimal field"
    "")))))

-- The codes of a text's characters.
unfoldable pub codes : String → List ℕ
codes [] = none
codes (c ∷ s) = code c then codes s

unfoldable pub words_of : ℕ → List ℕ
words_of n = codes (stop_text n)

-- What a call leaves: the whole length, and the text.
pub record Said : Type 0 where
  pub size : ℕ
  pub text : List ℕ

abbrev pub said : List ℕ → List ℕ → Said
said ws t = record { size = length ws; text = laid ws t }

unfoldable pub said_of : ℕ → List ℕ → Said
said_of n t = said (words_of n) t

unfoldable pub breach_words_of : ℕ → List ℕ
breach_words_of n = codes (breach_text n)

unfoldable pub breach_said : ℕ → List ℕ → Said
breach_said n t = said (breach_words_of n) t
