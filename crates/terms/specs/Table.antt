-- Looking a word up in the term table. The search goes from the last term to the first, as the code does; in a table
-- that keeps the rules no word stands twice, so the way does not show.
-- Assumes nothing.
use Rattle.std.specs.Prelude.{cond, Option, Some, None, List, ℕ, zero, suc, eqb, get_or}

-- ---- definitions

-- the place of w among the first m words
unfoldable pub find_of : List ℕ → (m w : ℕ) → Option ℕ
find_of ts zero w = None
find_of ts (suc m) w = cond (eqb (get_or ts m 0) w) (Some m) (find_of ts m w)
