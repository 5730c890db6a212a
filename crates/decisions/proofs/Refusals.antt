-- What follows from the definitions of the same name in specs/.
-- Assumes nothing.
use Rattle.std.specs.Prelude.{ℕ, List, [], ◌∷◌}

-- 4, 5 and 6
abbrev pub field_refusals : List ℕ
field_refusals = 4 ∷ 5 ∷ 6 ∷ []
