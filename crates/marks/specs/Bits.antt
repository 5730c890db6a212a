-- One bit of a word, and what setting it does: to the other bits, and to the number of ones.
-- A bit is `w / 2 ^ j % 2`, so that its laws go by induction on j and hold at every width.
-- Assumes nothing.
use Rattle.std.specs.Prelude.{ℕ, ◌/◌, ◌%◌, ◌^◌}
use Rattle.std.specs.Int.Bits.{bit_or}

-- bit j of w, 0 or 1
unfoldable pub bit : ℕ → ℕ → ℕ
bit w j = w / 2 ^ j % 2

-- w with bit j set
unfoldable pub set_bit : ℕ → ℕ → ℕ
set_bit w j = bit_or w (2 ^ j)
