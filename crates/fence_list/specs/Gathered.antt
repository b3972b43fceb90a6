-- What is gathered of a list of breaches, one after the other: the count of those that were met, and the rows of those that are asked for.
--   count_after n             one more, up to what a count may have
--   row_put skip n b rows     the rows with that of b, before which n were met, if it is asked for and the whole row fits
--   gathered skip bs g       what was gathered before, with all of bs
-- Assumes nothing.
use Rattle.std.specs.Prelude.{ℕ, ◌+◌, ◌-◌, ◌*◌, ◌/◌, cond, List, [], ◌∷◌, ◌++◌, ltb, leb, length, take, drop}
use Rattle.rules_fence.specs.declared.Broken.{Broken}
use Rattle.rules_fence.specs.Listed.{row_of, Listed}

abbrev pub count_after : ℕ → ℕ
count_after n = cond (ltb n 18446744073709551615) (n + 1) n

-- The rows with eight numbers in the place of those from `at` on.
abbrev pub row_at : List ℕ → ℕ → Broken → List ℕ
row_at rows at b = take at rows ++ (row_of b ++ drop (at + 8) rows)

unfoldable pub row_put : ℕ → ℕ → Broken → List ℕ → List ℕ
row_put skip n b rows = cond (ltb n skip) rows (cond (leb (length rows / 8) (n - skip)) rows (row_at rows ((n - skip) * 8) b))

unfoldable pub gathered : ℕ → List Broken → Listed → Listed
gathered skip [] g = g
gathered skip (b ∷ bs) g = gathered skip bs (record { count = count_after g.count; rows = row_put skip g.count b g.rows })
