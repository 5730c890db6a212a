-- The table of runs after an effect: the next run is opened, one gets another row, or nothing changes.
-- Assumes nothing.
use Rattle.std.specs.Prelude.{ℕ, ◌+◌, ◌<◌, List}
use Rattle.rows.specs.Runs.{set_run}
use Rattle.decisions.specs.declared.Change.{Change}
use Rattle.decisions.specs.declared.Change.TheVariants.{Open, Set, Nothing}

module _ (count : ℕ) where
  -- there is such a row
  abbrev pub ChangeFits : Change → Type 0
  ChangeFits (Open x) = count < 64
  ChangeFits (Set r x) = r < 64
  ChangeFits Nothing = Unit {0}

  abbrev pub changed : Change → List ℕ → List ℕ
  changed (Open x) runs = set_run runs count x
  changed (Set r x) runs = set_run runs r x
  changed Nothing runs = runs

  abbrev pub run_count : Change → ℕ
  run_count (Open x) = count + 1
  run_count (Set r x) = count
  run_count Nothing = count
