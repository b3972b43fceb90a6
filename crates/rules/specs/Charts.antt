-- Tables that code looks a rule's values up in (document 02, request 3; document 01 for the powers of ten).
--   Charts f n xs    xs has the value of the rule f at each place below n
-- Assumes nothing.
use Rattle.std.specs.Prelude.{◌≡◌, List, ℕ, ◌<◌, get_or}

-- "a table of 256 numbers, one for each byte, with the rule for the whole table proved once"
pub record Charts (f : ℕ → ℕ) (n : ℕ) (xs : List ℕ) : Type 0 where
  pub at : (k : ℕ) → k < n → get_or xs k 0 ≡ f k
