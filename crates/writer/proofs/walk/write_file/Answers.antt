-- `writer::walk/write_file` meets its contract. Assumes nothing.
use native.Mathlib.Omega.{arith}
use Rattle.std.proofs.Common.{rules}
use Rattle.records.specs.Headers.{header_width}
use Rattle.raw_records.specs.Raw.{records_of}
use Rattle.fields.proofs.Placed.{joined}
use Rattle.fields.proofs.Parts.{part_room, part_wrote}
use Rattle.writer.specs.File.{header_in_bytes, file_of}
use Rattle.writer.proofs.Progress.{header_long}
use Rattle.writer.proofs.Write.{file_length}
use Rattle.writer.proofs.walk.write_file.Goals as goal

pub write_header-written-requires : goal.write_header-written-requires
write_header-written-requires c =
    let a = c.args in
    part_room a.out.now a.at (header_width a.header.mark) (omega (arith, c.requires, file_length a.header (records_of a.words.now)))

pub overflow_add-at : goal.overflow_add-at
overflow_add-at c =
    let a = c.args in
    let h = c.requires in
    let l = file_length a.header (records_of a.words.now) in
    let e = c.write_header-written.ensures.offset in
    let k = header_long a.header in
    search rules

pub write_records-requires : goal.write_records-requires
write_records-requires c =
    let a = c.args in
    omega (
      arith,
      c.requires,
      file_length a.header (records_of a.words.now),
      header_long a.header,
      c.write_header-written.ensures.offset,
    )

pub returns : goal.returns
unfolding file_of
returns c =
    let a = c.args in
    joined (omega (arith, c.requires)) (part_wrote a.out.now a.at (header_in_bytes a.header) c.write_header-written.ensures) c.write_records.ensures
