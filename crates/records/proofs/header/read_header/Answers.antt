-- `records::header::read_header` meets its contract: one law for each way out. Assumes nothing.
use Rattle.std.specs.Prelude.{Some, None}
use mathlib.Core.Path.{◌≡◌, sym, ap, ◌∙◌}
use Rattle.exchange.specs.Formats.{format_of}
use Rattle.records.specs.Fields.{number16}
use Rattle.records.proofs.Headers.{header_long, header_short, by_mark}
use Rattle.std.proofs.Common.{rules}
use Rattle.records.proofs.header.read_header.Goals as goal
use Rattle.records.proofs.header.read_header.Goals.{After-format_of}

pub returns-then-file-gt-MAX_FILE : goal.returns-then-file-gt-MAX_FILE
returns-then-file-gt-MAX_FILE c = let a = c.args in header_long a.file.now c.if-file-gt-MAX_FILE.true

pub returns-then-file-lt-MARK_BYTES : goal.returns-then-file-lt-MARK_BYTES
returns-then-file-lt-MARK_BYTES c = let a = c.args in header_short a.file.now c.if-file-lt-MARK_BYTES.true

-- what was looked up is the file's mark
mark-is : (c : After-format_of) → format_of (number16 c.args.file.now 0) ≡ c.format_of.result
mark-is c = sym (c.format_of.ensures ∙ ap format_of c.u16_at.ensures)

pub returns-in-Some : goal.returns-in-Some
returns-in-Some c =
    let file = c.args.file.now in
    c.header_by.ensures ∙ by_mark file (search rules) (Some c.in-Some.format) (mark-is (goal.at.returns-in-Some c).After-format_of ∙ c.in-Some.is)

pub returns-in-None : goal.returns-in-None
returns-in-None c =
    let file = c.args.file.now in
    by_mark file (search rules) None (mark-is (goal.at.returns-in-None c).After-format_of ∙ c.in-None.is)
