-- A test that is true where several tests are, and one that is true where a test is true of each number below a bound.
-- Assumes nothing.
use Rattle.std.specs.Prelude.{Bool, true, ◌&&◌, ℕ, zero, suc}

unfoldable pub each : (ℕ → Bool) → ℕ → Bool
each f zero = true
each f (suc m) = each f m && f m
