-- What is put at the front of a lent slice.
--   laid xs l    l with as many of the values xs as fit at its front, and the rest as it was
-- Assumes nothing.
use Rattle.std.specs.Prelude.{List, [], ◌∷◌}

unfoldable pub laid : {A : Type 0} → List A → List A → List A
laid [] l = l
laid (x ∷ xs) [] = []
laid (x ∷ xs) (y ∷ l) = x ∷ laid xs l
