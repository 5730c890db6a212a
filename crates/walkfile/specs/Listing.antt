-- The listing of a file (document 01, "File and listing"): what stands in the file goes through the engine's own definitions
-- and comes out as lines.
-- Assumes nothing.
use Rattle.std.specs.Prelude.{cond, Option, Some, None, Result, Ok, Err, List, [], ◌∷◌, ◌++◌, ℕ, suc, ltb, length, drop, replicate}
use Rattle.marks.specs.Marks.{size}
use Rattle.exchange.specs.declared.call.Call.{Call}
use Rattle.exchange.specs.declared.header.Header.{Header}
use Rattle.records.specs.Headers.{header_width, header_of}
use Rattle.records.specs.Calls.{Ending, ended, broken, Calls, calls_of}
use Rattle.lines.specs.Lines.{header_line, call_line, file_line, end_line}
use Rattle.fields.specs.Placed.{placed}
use Rattle.replay.specs.Cache.{empty}
use Rattle.realm.specs.declared.header.Realm.{Realm}
use Rattle.realm.specs.Opening.{opening_of}
use Rattle.realm.specs.Tables.{Tables, tables}
use Rattle.effects.specs.Call.{called}

-- ---- the tables

-- "A new hall has clock 0 and empty tables."
unfoldable pub new_tables : Realm → Tables
new_tables h = tables h (replicate 512 0) (replicate 448 0) (replicate 8 0) (replicate 16 empty)

-- ---- the lines

-- "If HD was accepted a last line gives R runs, W the number of terms on the wire, C cache entries and the clock."
unfoldable pub tables_line : Tables → List ℕ
tables_line t = end_line t.realm.runs (size t.wire) t.realm.entries t.realm.clock

-- "1, 2 and 3 print `file` for the mark": a record that gives 3 has the number that comes next, and reading ends there.
unfoldable pub last_lines : (number : ℕ) → Tables → Ending → List ℕ
last_lines number t ended = tables_line t
last_lines number t broken = file_line number 3 ++ tables_line t

-- "One line a record: its number from 0"; "Each call gets the tables that the one before it left".
unfoldable pub call_lines : (number : ℕ) → Tables → List Call → Ending → List ℕ
call_lines number t [] e = last_lines number t e
call_lines number t (c ∷ cs) e = call_line number c (called t c).answer ++ call_lines (suc number) (called t c).tables cs e

-- the lines of the calls from a place on
abbrev pub lines_of : (number : ℕ) → Tables → Calls → List ℕ
lines_of number t cs = call_lines number t cs.calls cs.ending

-- the file of a realm that was opened; its header is record 0
unfoldable pub walk_lines : Realm → (mark : ℕ) → List ℕ → List ℕ
walk_lines h mark bytes = header_line mark ++ lines_of 1 (new_tables h) (calls_of (drop (header_width mark) bytes))

-- "2": "n outside 3 to 16, a flag on party 0 or at n and above, or a life of 0", with the mark's limit in place of 16
abbrev pub opening_lines : (mark : ℕ) → List ℕ → Result Realm ℕ → List ℕ
opening_lines mark bytes (Err refusal) = file_line 0 refusal
opening_lines mark bytes (Ok h) = walk_lines h mark bytes

-- "1": "file over 65,536 bytes, or without a whole HD record first", or that of another mark
abbrev pub header_lines : List ℕ → Result Header ℕ → List ℕ
header_lines bytes (Err refusal) = file_line 0 refusal
header_lines bytes (Ok g) = opening_lines g.mark bytes (opening_of g)

unfoldable pub listing_of : List ℕ → List ℕ
listing_of bytes = header_lines bytes (header_of bytes)

-- ---- the buffer

-- room for any listing
abbrev pub listing_bytes : ℕ
listing_bytes = 224758

-- what listing a file does to a buffer
pub data ListOutcome : Type 0 where
  written : (count : ℕ) (buffer : List ℕ) → ListOutcome
  no_room : (buffer : List ℕ) → ListOutcome

-- what the code gave back, beside the buffer
abbrev pub list_outcome : Option ℕ → List ℕ → ListOutcome
list_outcome (Some count) buffer = written count buffer
list_outcome None buffer = no_room buffer

-- the listing stands at the start of a buffer that has room, and no other place is changed
unfoldable pub listed : List ℕ → List ℕ → ListOutcome
listed file buffer =
    cond (ltb (length buffer) listing_bytes) (no_room buffer) (written (length (listing_of file)) (placed buffer 0 (listing_of file)))
