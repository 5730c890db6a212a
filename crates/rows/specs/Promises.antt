-- What the crate promises beside the contracts of its functions: what holds of the table after a row was written. Clients use
-- these and leave `run_at` and `set_run` shut.
-- Assumes nothing.
use Rattle.std.specs.Prelude.{◌≡◌, List, [], ◌∷◌, ◌++◌, ◌≢◌, ℕ, suc, ◌<◌, ◌≤◌, set}
use Rattle.exchange.specs.declared.run.Row.{Row}
use Rattle.rows.specs.Runs.{Full, past_rows, run_at}
use Rattle.rows.specs.Rows.{rows_of}

-- ---- writing

-- x was written as row r of the table runs, which is now runs'
pub record RowWritten (runs : List ℕ) (r : ℕ) (x : Row) (runs' : List ℕ) : Type 0 where
  pub size : Full runs'
  -- row r is x, and the others are as they were
  pub here : run_at runs' r ≡ x
  pub others : (q : ℕ) → q ≢ r → run_at runs' q ≡ run_at runs q
  -- a row among the first `count` is replaced; a row past them does not show; the row at the count is one more
  pub replaced : (count : ℕ) → r < count → rows_of runs' count ≡ set (rows_of runs count) r x
  pub unseen : (count : ℕ) → count ≤ r → rows_of runs' count ≡ rows_of runs count
  pub opened : rows_of runs' (suc r) ≡ rows_of runs r ++ (x ∷ [])
  -- words past the row keep their values
  pub past : (count : ℕ) → r < count → past_rows runs' count ≡ past_rows runs count
