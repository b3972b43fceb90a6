-- The numbers of a unit's trailer are words: what their type says, for proofs that have them behind a reference, where types say nothing.
-- Assumes nothing.
use Rattle.std.specs.Prelude.{◌<◌}
use Rattle.rules_unit.specs.declared.Parts.{Parts}

pub record Words (parts : Parts) : Type 0 where
  pub image : parts.d < 65536
  pub fields : parts.f < 65536
  pub expressions : parts.e < 65536
  pub literals : parts.p < 65536
  pub statements : parts.n < 65536
