-- `walkfile::list` meets its contract. Assumes nothing.
use mathlib.Core.Path.{sym, ap, ◌∙◌}
use Rattle.refusals.specs.Numbers.{number, numbered}
use Rattle.records.specs.Fields.{Bytes}
use Rattle.lines.specs.Lines.{file_line}
use Rattle.walkfile.specs.Listing.{walk_lines}
use Rattle.walkfile.proofs.Opened.{walkable}
use Rattle.walkfile.proofs.Ways.{header_refused, opening_refused, opened, not_listed, is_listed}
use Rattle.walkfile.proofs.list.Goals as goal

pub returns-then-out-lt-LISTING_BYTES : goal.returns-then-out-lt-LISTING_BYTES
returns-then-out-lt-LISTING_BYTES c = let a = c.args in not_listed a.file.now a.out.now c.if-out-lt-LISTING_BYTES.true

pub walk_records-requires : goal.walk_records-requires
walk_records-requires c =
    let a = c.args in
    let small : Bytes a.file.now = record { small = λ k. (c.type_inv.file k).fits } in (
      walkable a.file.now c.in-Ok.header c.in-Ok-open_realm.h small (sym c.read_header.ensures ∙ ap numbered c.in-Ok.is) (sym c.open_realm.ensures ∙ ap numbered c.in-Ok-open_realm.is),
      c.if-out-lt-LISTING_BYTES.false,
    )

pub returns-in-Err : goal.returns-in-Err
returns-in-Err c =
    let a = c.args in
    is_listed a.file.now a.out.now c.if-out-lt-LISTING_BYTES.false (file_line 0 c.from.result)
    (ap (file_line 0) c.from.ensures ∙ header_refused a.file.now (number c.in-Err.refusal) (sym c.read_header.ensures ∙ ap numbered c.in-Err.is))
    c.write_file_line.ensures.wrote

pub returns-in-Err-open_realm : goal.returns-in-Err-open_realm
returns-in-Err-open_realm c =
    let a = c.args in
    is_listed a.file.now a.out.now c.if-out-lt-LISTING_BYTES.false (file_line 0 c.from-in-Err-open_realm.result)
    (ap (file_line 0) c.from-in-Err-open_realm.ensures ∙ opening_refused a.file.now c.in-Ok.header (sym c.read_header.ensures ∙ ap numbered c.in-Ok.is) (number c.in-Err-open_realm.refusal) (sym c.open_realm.ensures ∙ ap numbered c.in-Err-open_realm.is))
    c.write_file_line-in-Err-open_realm.ensures.wrote

pub returns-in-Ok-open_realm : goal.returns-in-Ok-open_realm
returns-in-Ok-open_realm c =
    let a = c.args in
    is_listed a.file.now a.out.now c.if-out-lt-LISTING_BYTES.false (walk_lines c.in-Ok-open_realm.h c.in-Ok.header.mark a.file.now)
    (opened a.file.now c.in-Ok.header (sym c.read_header.ensures ∙ ap numbered c.in-Ok.is) c.in-Ok-open_realm.h (sym c.open_realm.ensures ∙ ap numbered c.in-Ok-open_realm.is))
    c.walk_records.ensures
