-- A file written back (document 02, change 1: "a file so read is written back as the same bytes"), and held to its own bytes.
-- Assumes nothing.
use Rattle.std.specs.Prelude.{Option, Result, Ok, Err, List, ℕ, take, drop, replicate}
use Rattle.refusals.specs.Numbers as refusals
use Rattle.exchange.specs.declared.header.Header.{Header}
use Rattle.records.specs.Headers.{header_width, header_of}
use Rattle.records.specs.Calls.{Ending, ended, broken, calls_of}
use Rattle.writer.specs.Write.{WriteOutcome, write_of}
use Rattle.comparison.specs.Compare.{difference}
use Rattle.rewriting.specs.declared.back.Unwritten.{Unwritten}
use Rattle.rewriting.specs.declared.back.Unwritten.TheVariants as unwritten
use Rattle.rewriting.specs.Reading.{file_words}

-- what comes of a file: it does not read whole, or the writer turns it away, or it is written and compared
pub data Rewritten : Type 0 where
  unread : Rewritten
  refused : (number : ℕ) → Rewritten
  compared : (line : Option ℕ) → Rewritten

-- what the code gave back
abbrev pub outcome : Result (Option ℕ) Unwritten → Rewritten
outcome (Ok line) = compared line
outcome (Err unwritten.Unread) = unread
outcome (Err (unwritten.Refused r)) = refused (refusals.number r)

-- where the file is written to, and room for it there
abbrev pub offset : ℕ
offset = 5

abbrev pub places : ℕ
places = 65541

-- the bytes at the offset, as many as were counted, against the file
abbrev pub compared_by : Result ℕ ℕ → (buffer file : List ℕ) → Rewritten
compared_by (Err number) buffer file = refused number
compared_by (Ok count) buffer file = compared (difference 1 (take count (drop offset buffer)) file)

-- written into a buffer of zeros
unfoldable pub written_back : (g : Header) (words file : List ℕ) → Rewritten
written_back g words file =
    let o : WriteOutcome = write_of g words (replicate places 0) offset in
    compared_by o.answer o.buffer file

-- a file that reads to its end is written, one with a record that gives 3 is not
abbrev pub by_ending : Ending → (g : Header) (file : List ℕ) → Rewritten
by_ending ended g file = written_back g (file_words (header_width g.mark) file) file
by_ending broken g file = unread

-- nor is one whose header gives 1
abbrev pub by_header : Result Header ℕ → (file : List ℕ) → Rewritten
by_header (Err number) file = unread
by_header (Ok g) file = by_ending (calls_of (drop (header_width g.mark) file)).ending g file

-- a file read, written and compared
unfoldable pub rewritten_of : List ℕ → Rewritten
rewritten_of file = by_header (header_of file) file
