-- Zero fits a word.
-- Assumes nothing.
use lib.Dec.{lit<}
use lib.IntN.{pos}
use mir.Syntax.{w64}
use mir.Val.{SFits}

pub zero_fits : SFits w64 (pos 0)
zero_fits = record { sfits = lit< tt }
