-- The lines of the listing (document 01, "File and listing"), as ASCII codes. Fields are separated by one space, and every
-- line ends in one newline.
-- Assumes nothing.
use Rattle.std.specs.Prelude.{List, [], ◌∷◌, ◌++◌, ℕ, suc, length}
use Rattle.traces.specs.RuleSets.{History}
use Rattle.exchange.specs.Calls.{Answer}
use Rattle.exchange.specs.declared.call.Call.{Call}
use Rattle.fields.specs.Bytes.{bytes16}
use Rattle.fields.specs.Fields.{ascii, decimal, field, mark_text, answer_text}

-- "One line a record: its number from 0, its mark, then for HD `ok`": the header is the first record, and each mark is treated alike.
unfoldable pub header_line : (mark : ℕ) → List ℕ
header_line mark = ascii "0 " ++ bytes16 mark ++ ascii " ok\n"

-- TM and ST
unfoldable pub call_line : (number : ℕ) → Call → Answer → List ℕ
call_line number call answer = decimal number ++ mark_text call ++ answer_text answer ++ ascii "\n"

-- "1, 2 and 3 print `file` for the mark."
unfoldable pub file_line : (number refusal : ℕ) → List ℕ
file_line number refusal = decimal number ++ field " file refused " refusal ++ ascii "\n"

-- "If HD was accepted a last line gives R runs, W the number of terms on the wire, C cache entries and the clock."
unfoldable pub end_line : (runs wire cache clock : ℕ) → List ℕ
end_line runs wire cache clock =
    field "end runs " runs ++ field " wire " wire ++ field " cache " cache ++ field " clock " clock ++ ascii "\n"

-- the lines of the header and of a list of calls with their answers, the newest call first
unfoldable pub listing : (mark : ℕ) → History → List ℕ
listing mark [] = header_line mark
listing mark ((call, answer) ∷ earlier) = listing mark earlier ++ call_line (suc (length earlier)) call answer

-- room for any line
abbrev pub LONGEST : ℕ
LONGEST = 70
