-- `dibol_c::start_in` meets its contract: its sum is the one asked for, and a product of two words fits.
-- Assumes nothing.
use native.Mathlib.Omega.{arith}
use Rattle.rules.proofs.Sizes.{product}
use Rattle.dibol_c.proofs.Told.{start_none, start_of}
use Rattle.dibol_c.proofs.start_in.Goals as goal

pub overflow_mul-result : goal.overflow_mul-result
overflow_mul-result c = omega (arith, product c.before-in-Some.result c.in-Some.f.size (omega arith) (omega arith))

pub overflow_add-result : goal.overflow_add-result
overflow_add-result c = omega (arith, product c.before-in-Some.result c.in-Some.f.size (omega arith) (omega arith))

pub returns-in-None : goal.returns-in-None
returns-in-None c = search start_none depth 3

pub returns-in-Some : goal.returns-in-Some
returns-in-Some c = search start_of depth 3
