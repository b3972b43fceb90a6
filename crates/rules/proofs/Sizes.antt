-- Sizes: a product of two words, and the length of a part of a list.
-- Assumes nothing.
use Prim.Native.Nat.{ℕ, ◌+◌, ◌*◌, ◌<◌, ◌≤◌}
use native.Mathlib.Nat.{mul-le-mul}
use native.Mathlib.Omega.{arith}
use mathlib.Core.Path.{◌≡◌}
use mathlib.Core.List.{List}
use lib.ListN.{length, take, drop, length-drop}
use lib.Seq.{length-take-le}

pub product : (m n : ℕ) → m < 65536 → n < 65536 → m * n ≤ 65535 * 65535
product m n h k = mul-le-mul {n₂ = 65535} {m₂ = 65535} (omega arith) (omega arith)

pub part_length : (d : List ℕ) (a n : ℕ) → a + n ≤ length d → length (take n (drop a d)) ≡ n
part_length d a n h = length-take-le n (drop a d) (omega (arith, length-drop a d))
