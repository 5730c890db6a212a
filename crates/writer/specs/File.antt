-- A walk as bytes (document 01, "File and listing"): "Each record has a two-byte mark before it".
-- Assumes nothing.
use Rattle.std.specs.Prelude.{List, [], ◌∷◌, ◌++◌, ℕ, Option, Some, None}
use Rattle.exchange.specs.declared.header.Format.{Format}
use Rattle.exchange.specs.declared.header.Flags.{Flags}
use Rattle.exchange.specs.declared.header.Flags.TheVariants.{Bits16, Bits32}
use Rattle.exchange.specs.declared.header.Header.{Header}
use Rattle.exchange.specs.Formats.{format_of}
use Rattle.fields.specs.Bytes.{low, bytes16, bytes32}
use Rattle.records.specs.Records.{term_mark, step_mark}
use Rattle.raw_records.specs.declared.raw.RawRecord.{RawRecord}
use Rattle.raw_records.specs.declared.raw.RawRecord.TheVariants.{Term, Step}

-- "flags (2)", or "32 bits of flags"
abbrev pub flags_in_bytes : Flags → ℕ → List ℕ
flags_in_bytes Bits16 flags = bytes16 flags
flags_in_bytes Bits32 flags = bytes32 flags

-- "HD, n (1 byte), flags (2), Ls (4), La (4)", and the others "laid out as HD but with 32 bits of flags"; a mark that is not known has no header
abbrev pub front_in_bytes : Flags → Header → List ℕ
front_in_bytes width g = bytes16 g.mark ++ g.n ∷ flags_in_bytes width g.flags

abbrev pub lives_in_bytes : (ls la : ℕ) → List ℕ
lives_in_bytes ls la = bytes32 ls ++ bytes32 la

abbrev pub header_as : Option Format → Header → List ℕ
header_as (Some f) g = front_in_bytes f.flags g ++ lives_in_bytes g.ls g.la
header_as None g = []

unfoldable pub header_in_bytes : Header → List ℕ
header_in_bytes g = header_as (format_of g.mark) g

-- "TM, kind (1), L (2), R (2); ST, step (1), run (1), a (1), b (1), m (2), t (4)"; what is no record has no bytes
unfoldable pub record_in_bytes : Option RawRecord → List ℕ
record_in_bytes (Some (Term kind l r)) = bytes16 term_mark ++ low kind ∷ bytes16 l ++ bytes16 r
record_in_bytes (Some (Step step run a b m t)) = bytes16 step_mark ++ low step ∷ low run ∷ low a ∷ low b ∷ bytes16 m ++ bytes32 t
record_in_bytes None = []

abbrev pub records_in_bytes : List (Option RawRecord) → List ℕ
records_in_bytes [] = []
records_in_bytes (raw ∷ raws) = record_in_bytes raw ++ records_in_bytes raws

unfoldable pub file_of : (g : Header) → List (Option RawRecord) → List ℕ
file_of g raws = header_in_bytes g ++ records_in_bytes raws
