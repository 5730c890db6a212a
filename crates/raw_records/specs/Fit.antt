-- A record that passes by its own fields has the widths of the file's fields.
-- Assumes nothing.
use Rattle.std.specs.Prelude.{ℕ, ◌^◌, ◌<◌, get_or}
use mathlib.Core.List.{List}

-- every number is a word
pub record Words32 (words : List ℕ) : Type 0 where
  pub small : (k : ℕ) → get_or words k 0 < 2 ^ 32
