-- Where two texts differ, and what is counted.
-- Assumes nothing.
use Rattle.std.specs.Prelude.{Bool, true, false, cond, Option, Some, None, List, [], ◌∷◌, ℕ, suc, eqb}

-- the line of the byte that follows this one
abbrev pub line_after : (line byte : ℕ) → ℕ
line_after line byte = cond (eqb byte 10) (suc line) line

-- the line of the first byte in which two texts differ, or that only one of them has
unfoldable pub difference : (line : ℕ) → List ℕ → List ℕ → Option ℕ
difference line [] [] = None
difference line [] (y ∷ ys) = Some line
difference line (x ∷ xs) [] = Some line
difference line (x ∷ xs) (y ∷ ys) = cond (eqb x y) (difference (line_after line x) xs ys) (Some line)

-- what a comparison adds to the number of those that failed
abbrev pub disagreements : (agrees : Bool) → ℕ
disagreements true = 0
disagreements false = 1
