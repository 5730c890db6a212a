-- The header of a file: "HD, n (1 byte), flags (2), Ls (4), La (4)", and HW, H5 and H4 "laid out as HD but with 32 bits of flags".
-- Refusal 1: "file over 65,536 bytes, or without a whole HD record first (the empty file too)", or that of another mark.
-- Assumes nothing.
use Rattle.std.specs.Prelude.{◌≡◌, cond, Result, Ok, Err, List, ℕ, ◌+◌, ◌<◌, ◌≤◌, ltb, length, Option, Some, None}
use Rattle.exchange.specs.declared.header.Flags.{Flags}
use Rattle.exchange.specs.declared.header.Flags.TheVariants.{Bits16, Bits32}
use Rattle.exchange.specs.declared.header.Format.{Format}
use Rattle.exchange.specs.declared.header.Header.{Header}
use Rattle.exchange.specs.Formats.{format_of, HeaderSized}
use Rattle.records.specs.Fields.{Bytes, byte, number16, number32}

-- bytes in a file at most
abbrev pub max_file : ℕ
max_file = 65536

-- the lives are behind the mark (2 bytes), n (1) and the flags (2 or 4)
abbrev pub lives_at : Flags → ℕ
lives_at Bits16 = 5
lives_at Bits32 = 7

-- the bytes of a header; a mark that is not known has none
abbrev pub format_bytes : Option Format → ℕ
format_bytes (Some f) = lives_at f.flags + 8
format_bytes None = 0

unfoldable pub header_width : (mark : ℕ) → ℕ
header_width mark = format_bytes (format_of mark)

abbrev pub flags_in : Flags → List ℕ → ℕ
flags_in Bits16 bytes = number16 bytes 3
flags_in Bits32 bytes = number32 bytes 3

-- n, flags, Ls, La
abbrev pub fields_of : Format → List ℕ → Header
fields_of f bytes =
    record {
      mark = f.mark;
      n = byte bytes 2;
      flags = flags_in f.flags bytes;
      ls = number32 bytes (lives_at f.flags);
      la = number32 bytes (lives_at f.flags + 4);
    }

-- a whole header of this format, or refusal 1
abbrev pub header_by : Format → List ℕ → Result Header ℕ
header_by f bytes = cond (ltb (length bytes) (format_bytes (Some f))) (Err 1) (Ok (fields_of f bytes))

abbrev pub heading_by : Option Format → List ℕ → Result Header ℕ
heading_by (Some f) bytes = header_by f bytes
heading_by None bytes = Err 1

unfoldable pub header_of : List ℕ → Result Header ℕ
header_of bytes = cond (ltb max_file (length bytes)) (Err 1) (heading_by (format_of (number16 bytes 0)) bytes)

-- ---- the ways out are all

-- what reading a header found, and what it says of the file
pub data Finds (bytes : List ℕ) : Result Header ℕ → Type 0 where
  too_long : max_file < length bytes → Finds bytes (Err 1)
  no_mark : length bytes ≤ max_file → format_of (number16 bytes 0) ≡ None → Finds bytes (Err 1)
  cut_short : length bytes ≤ max_file → (f : Format) → format_of (number16 bytes 0) ≡ Some f → length bytes < format_bytes (Some f) → Finds bytes (Err 1)
  a_header : length bytes ≤ max_file → (f : Format) → format_of (number16 bytes 0) ≡ Some f → format_bytes (Some f) ≤ length bytes
      → Finds bytes (Ok (fields_of f bytes))

-- a file whose header was read
pub record Headed (bytes : List ℕ) (g : Header) : Type 0 where
  pub least : 13 ≤ header_width g.mark
  pub whole : header_width g.mark ≤ length bytes
  pub most : length bytes ≤ max_file
  pub sized : Bytes bytes → HeaderSized g
