-- The table of runs: 64 rows of words, lent as one list. Clients read and write it by `run_at` and `set_run` and reason by
-- the laws below; how a row lies in the table is known here alone.
-- Assumes nothing.
use Rattle.std.specs.Prelude.{◌≡◌, ℕ, ◌+◌, ◌*◌}
use mathlib.Core.List.{List, ◌++◌}
use Rattle.std.proofs.Math.ListN.{length, take, drop}
use Rattle.exchange.specs.declared.run.Row.{Row}
use Rattle.rows.specs.Row.{width, row_of, words_of}

-- ---- definitions

-- "its full number of places": 64 rows
abbrev pub Full : List ℕ → Type 0
Full runs = length runs ≡ 64 * width

-- the words of row r
abbrev pub words_at : List ℕ → ℕ → List ℕ
words_at runs r = take width (drop (r * width) runs)

-- the words past the first `count` rows
abbrev pub past_rows : List ℕ → ℕ → List ℕ
past_rows runs count = drop (count * width) runs

-- row r
unfoldable pub run_at : List ℕ → ℕ → Row
run_at runs r = row_of (words_at runs r)

-- the table with x as row r
unfoldable pub set_run : List ℕ → ℕ → Row → List ℕ
set_run runs r x = take (r * width) runs ++ (words_of x ++ drop (r * width + width) runs)
