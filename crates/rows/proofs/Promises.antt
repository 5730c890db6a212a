-- What follows from the definitions of the same name in specs/.
-- Assumes nothing.
use Rattle.std.specs.Prelude.{List, ℕ, ◌<◌}
use Rattle.exchange.specs.declared.run.Row.{Row}
use Rattle.rows.specs.Row.{Fits}
use Rattle.rows.specs.Runs.{Full, set_run}
use Rattle.rows.proofs.Runs.{set_full, set_past, run_same, run_other}
use Rattle.rows.proofs.Rows.{rows_past, rows_open, rows_set}
use Rattle.rows.specs.Promises.{RowWritten}
-- ---- laws passed on
-- what is read from the table has the widths of a row's fields
pub use Rattle.rows.proofs.Runs.{run_fits}
-- the first `count` rows are so many, and row r of them is what `run_at` reads; places past them are never read
pub use Rattle.rows.proofs.Rows.{rows_length, rows_at, rows_same}

pub writes : (runs : List ℕ) → Full runs → (r : ℕ) → r < 64 → (x : Row) → Fits x → RowWritten runs r x (set_run runs r x)
writes runs size r l x f =
    record {
      size = set_full runs size r l x;
      here = run_same runs size r l x f;
      others = run_other runs size r l x;
      replaced = rows_set runs size r l x f;
      unseen = rows_past runs size r l x;
      opened = rows_open runs size r l x f;
      past = set_past runs size r l x;
    }
