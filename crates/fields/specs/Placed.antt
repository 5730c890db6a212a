-- Bytes written into a buffer from an offset on.
-- Assumes nothing.
use mathlib.Core.List.{List, ◌++◌}
use Rattle.std.specs.Prelude.{◌≡◌, ℕ, ◌+◌, take, drop}
use Rattle.std.proofs.Math.ListN.{length}

-- the buffer with these bytes from offset `at` on, and no other place changed
unfoldable pub placed : (buffer : List ℕ) (at : ℕ) (bytes : List ℕ) → List ℕ
placed buffer at bytes = take at buffer ++ bytes ++ drop (at + length bytes) buffer

-- what a function does that writes these bytes and answers the offset after them
pub record Wrote (before : List ℕ) (at : ℕ) (bytes : List ℕ) (after : List ℕ) (next : ℕ) : Type 0 where
  pub contents : after ≡ placed before at bytes
  pub offset : next ≡ at + length bytes
