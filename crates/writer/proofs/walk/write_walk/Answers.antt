-- `writer::walk::write_walk` meets its contract: by the refusal that decides, or by none. Assumes nothing.
use mathlib.Core.Path.{sym, refl, ◌∙◌}
use lib.ListN.{length}
use Rattle.refusals.proofs.Numbers.{not_0, passed_up}
use Rattle.raw_records.specs.Raw.{records_of}
use Rattle.writer.proofs.Write.{by_measure, zero_passes, refused, written}
use Rattle.writer.proofs.walk.write_walk.Goals as goal

pub returns-in_err-check_walk : goal.returns-in_err-check_walk
returns-in_err-check_walk c =
    let a = c.args in
    let k = c.in_err-check_walk.field-0.0 in
    rw (passed_up c.from_residual.result k c.from_residual.ensures.1)
    (refused a.header a.words.now a.out.now a.at _
    (c.in_err-check_walk.ensures ∙ by_measure a.header (records_of a.words.now) (length a.out.now) a.at c.measure-bytes.ensures) (not_0 k))

pub write_file-end-requires : goal.write_file-end-requires
write_file-end-requires c =
    let a = c.args in
    (zero_passes a.header (records_of a.words.now) (length a.out.now) a.at
    (sym (c.in_ok-check_walk.ensures ∙ by_measure a.header (records_of a.words.now) (length a.out.now) a.at c.measure-bytes.ensures))).room

pub returns : goal.returns
returns c =
    let a = c.args in
    written a.header a.words.now a.out.now a.at 0
    (c.in_ok-check_walk.ensures ∙ by_measure a.header (records_of a.words.now) (length a.out.now) a.at c.measure-bytes.ensures) refl c.write_file-end.ensures
