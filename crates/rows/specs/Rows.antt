-- The rows of the table as a list, the first `count` of them: what the log's list of runs is compared with. Places past the
-- count are never read.
-- Assumes nothing.
use mathlib.Core.List.{List, [], ◌∷◌, ◌++◌}
use Prim.Native.Nat.{ℕ, zero, suc}
use Rattle.exchange.specs.declared.run.Row.{Row}
use Rattle.rows.specs.Runs.{run_at}

-- ---- definitions

-- "runs, numbered as opened"
unfoldable pub rows_of : List ℕ → (count : ℕ) → List Row
rows_of runs zero = []
rows_of runs (suc m) = rows_of runs m ++ (run_at runs m ∷ [])
