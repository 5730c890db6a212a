-- 15, "the intruder cannot build m", is given exactly where he cannot and nothing before it applies.
-- Assumes nothing.
use Rattle.std.specs.Prelude.{ℕ, ◌<◌, ◌≡◌, Err}
use Rattle.decisions.specs.Decision.{Verdict}

-- no refusal before 15 is given
abbrev pub Reached : Verdict → Type 0
Reached v = (k : ℕ) → k < 15 → ¬ (v ≡ Err k)
