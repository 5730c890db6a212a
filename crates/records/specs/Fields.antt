-- Fields of a record as numbers: "Numbers in the file are high byte first." A place past the end reads as 0, which does not
-- show: a record is read only where all of its bytes are there.
-- Assumes nothing.
use Rattle.std.specs.Prelude.{Bool, ◌&&◌, List, ℕ, ◌+◌, ◌*◌, ◌^◌, ◌<◌, eqb, leb, length, get_or}

-- ---- definitions

-- every element is a byte
pub record Bytes (bytes : List ℕ) : Type 0 where
  pub small : (k : ℕ) → get_or bytes k 0 < 2 ^ 8

-- the byte at a place
abbrev pub byte : List ℕ → ℕ → ℕ
byte bytes at = get_or bytes at 0

-- the number of two bytes
abbrev pub number16 : List ℕ → ℕ → ℕ
number16 bytes at = byte bytes at * 256 + byte bytes (at + 1)

-- the number of four bytes
abbrev pub number32 : List ℕ → ℕ → ℕ
number32 bytes at = number16 bytes at * 65536 + number16 bytes (at + 2)

-- "Each record has a two-byte mark before it": the bytes begin with a whole record of this mark and width
unfoldable pub begins : ℕ → ℕ → List ℕ → Bool
begins mark width bytes = leb width (length bytes) && eqb (number16 bytes 0) mark
