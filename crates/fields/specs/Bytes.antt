-- Numbers as bytes of a file: "Numbers in the file are high byte first."
-- Assumes nothing.
use Rattle.std.specs.Prelude.{List, [], ◌∷◌, ◌++◌, ℕ, ◌/◌, ◌%◌}

-- the lowest byte of a number, and the one above it
abbrev pub low : ℕ → ℕ
low x = x % 256

abbrev pub high : ℕ → ℕ
high x = x / 256 % 256

abbrev pub bytes16 : ℕ → List ℕ
bytes16 x = high x ∷ low x ∷ []

abbrev pub bytes32 : ℕ → List ℕ
bytes32 x = bytes16 (x / 65536) ++ bytes16 x
