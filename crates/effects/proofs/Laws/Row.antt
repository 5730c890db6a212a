-- A row is written where an effect has one.
-- Assumes nothing.
use Rattle.std.specs.Prelude.{◌≡◌, refl, List, ℕ, ◌+◌, ◌<◌}
use Rattle.std.proofs.Common.{subst}
use Rattle.exchange.specs.declared.run.Row.{Row}
use Rattle.rows.specs.Runs.{set_run}
use Rattle.decisions.specs.declared.Change.{Change}
use Rattle.decisions.specs.declared.Change.TheVariants.{Open, Set}
use Rattle.effects.specs.Row.{ChangeFits, changed, run_count}

module _ (count : ℕ) {x : Change} where
  module _ {row : Row} (e : x ≡ Open row) where
    pub next_below : ChangeFits count x → count < 64
    next_below fits = subst (ChangeFits count) e fits

    pub run_opened : (runs : List ℕ) {runs' : List ℕ} → runs' ≡ set_run runs count row → (runs' ≡ changed count x runs) × (count + 1 ≡ run_count count x)
    run_opened runs h = rw e (h, refl)

  module _ {r : ℕ} {row : Row} (e : x ≡ Set r row) where
    pub row_below : ChangeFits count x → r < 64
    row_below fits = subst (ChangeFits count) e fits

    pub row_set : (runs : List ℕ) {runs' : List ℕ} → runs' ≡ set_run runs r row → (runs' ≡ changed count x runs) × (count ≡ run_count count x)
    row_set runs h = rw e (h, refl)
