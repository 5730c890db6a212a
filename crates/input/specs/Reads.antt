-- Reading behind what a buffer holds. What is said here is where the bytes go that a read gives: behind those that were read
-- before, which stay as they are. It is said of one read, and of all of them from any count on; of several reads it follows that
-- their parts stand one behind the other (`both_in_order`). Which bytes they are the contracts say, of a reader that tells what it
-- has left; of a file or a terminal nobody can.
-- Assumes nothing.
use Rattle.std.specs.Prelude.{List, ◌≡◌, ℕ, ◌≤◌, Result, Ok, Err, length, take}
use Rattle.io.specs.Counts.{IsPrefixLen}

-- the first `count` bytes stand where they stood, and what was read stands behind them, up to `next`
pub record Reads (before : List ℕ) (count : ℕ) (after : List ℕ) (next : ℕ) : Type 0 where
  pub kept : take count after ≡ take count before
  pub same : length after ≡ length before
  pub grown : count ≤ next
  pub within : IsPrefixLen next after

-- how many bytes a read gave, none where it failed
abbrev pub given : {E : Type 0} → Result ℕ E → ℕ
given (Ok n) = n
given (Err e) = 0
