-- "An HD file gives the same listing as before, and its 16 flags are the low ones" (document 02, change 2): that of document 01, whose
-- lines end as change 3 says and whose step 5 has the refusal of change 5.
-- Assumes nothing.
use Rattle.std.specs.Prelude.{ℕ, Bool, cond, List, ◌++◌, ltb, length, drop}
use Rattle.exchange.specs.declared.header.Header.{Header}
use Rattle.realm.specs.Opening.{header_fits, new_under}
use Rattle.records.specs.Calls.{calls_of}
use Rattle.records.specs.Fields.{byte, number16, number32, begins}
use Rattle.records.specs.Headers.{max_file}
use Rattle.fields.specs.Fields.{ascii}
use Rattle.lines.specs.Lines.{file_line}
use Rattle.walkfile.specs.Listing.{new_tables, lines_of}

-- ---- definitions

-- the header of document 01
abbrev pub header_at : List ℕ → Header
header_at bytes = record { mark = 0x4844; n = byte bytes 2; flags = number16 bytes 3; ls = number32 bytes 5; la = number32 bytes 9 }

-- its listing, behind refusal 1
abbrev pub whole01 : (fits : Bool) → List ℕ → List ℕ
whole01 fits bytes = cond fits (ascii "0 HD ok\n" ++ lines_of 1 (new_tables (new_under 0 (header_at bytes))) (calls_of (drop 13 bytes))) (file_line 0 2)

-- "file over 65,536 bytes, or without a whole HD record first (the empty file too)"; "n outside 3 to 16, a flag on party 0 or at n and
-- above, or a life of 0"
abbrev pub listing01 : List ℕ → List ℕ
listing01 bytes =
    cond (ltb max_file (length bytes)) (file_line 0 1)
    (cond (begins 0x4844 13 bytes) (whole01 (header_fits 16 (byte bytes 2) (number16 bytes 3) (number32 bytes 5) (number32 bytes 9)) bytes)
    (file_line 0 1))
