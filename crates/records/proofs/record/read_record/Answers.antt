-- `records::record::read_record` meets its contract: one law for each way out. Assumes nothing.
use mathlib.Core.Path.{sym, ◌∙◌}
use Rattle.records.proofs.Fields.{begins_whole}
use Rattle.records.specs.Records.{term_mark, term_bytes, step_mark, step_bytes}
use Rattle.records.proofs.Records.{front_term, front_step, front_unreadable, rest_of, rest_some, record_end, record_is}
use Rattle.std.proofs.Common.{rules}
use Rattle.records.proofs.record.read_record.Goals as goal

pub returns-then-file-at : goal.returns-then-file-at
returns-then-file-at c = let a = c.args in record_end a.file.now a.at c.if-file-at.true

pub term_of-call-requires : goal.term_of-call-requires
term_of-call-requires c =
    let a = c.args in
    begins_whole term_mark term_bytes (rest_of a.file.now a.at) (sym c.begins_with.ensures ∙ c.if-begins_with.true)

pub returns-then-begins_with : goal.returns-then-begins_with
returns-then-begins_with c =
    let a = c.args in
    record_is a.file.now a.at
    (front_term (rest_of a.file.now a.at) (rest_some a.file.now a.at (search rules))
    (sym c.begins_with.ensures ∙ c.if-begins_with.true) c.term_of-call.ensures)

pub step_of-call-requires : goal.step_of-call-requires
step_of-call-requires c =
    let a = c.args in
    begins_whole step_mark step_bytes (rest_of a.file.now a.at) (sym c.begins_with-2.ensures ∙ c.if-begins_with-2.true)

pub returns-then-begins_with-2 : goal.returns-then-begins_with-2
returns-then-begins_with-2 c =
    let a = c.args in
    record_is a.file.now a.at
    (front_step (rest_of a.file.now a.at) (rest_some a.file.now a.at (search rules))
    (sym c.begins_with.ensures ∙ c.if-begins_with.false) (sym c.begins_with-2.ensures ∙ c.if-begins_with-2.true) c.step_of-call.ensures)

pub returns : goal.returns
returns c =
    let a = c.args in
    record_is a.file.now a.at
    (front_unreadable (rest_of a.file.now a.at) (rest_some a.file.now a.at (search rules))
    (sym c.begins_with.ensures ∙ c.if-begins_with.false) (sym c.begins_with-2.ensures ∙ c.if-begins_with-2.false))
