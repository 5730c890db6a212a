-- Going through the records one by one: what is left of the bytes and of the writing after i of them.
-- Assumes nothing.
use Rattle.std.specs.Prelude.{◌≡◌}
use Prim.Native.Nat.{ℕ, ◌<◌, ◌≤◌}
use Rattle.records.specs.Headers.{max_file}

-- ---- definitions

-- r is the length of a file, or above the limit where the length is
pub record Measures (r bytes : ℕ) : Type 0 where
  pub exact : bytes ≤ max_file → r ≡ bytes
  pub above : max_file < bytes → max_file < r
