-- The chart of the powers of ten has 10 to the k at each place k. The proofs that cite it hold the table of the code to the chart, which antt computes.
-- Assumes nothing.
use mathlib.Core.Path.{◌≡◌, refl}
use Prim.Native.Nat.{ℕ, ◌^◌, ◌<◌}
use lib.ListN.{get_or}
use Rattle.rules.proofs.Charts.{chart, charted}

pub powers_at : (k : ℕ) → k < 19 → get_or (chart (λ (n : ℕ). 10 ^ n) 0 19) k 0 ≡ 10 ^ k
powers_at = charted (λ (n : ℕ). 10 ^ n) 0 19 (chart (λ (n : ℕ). 10 ^ n) 0 19) refl
