-- `writer::record::write_header` meets its contract. Assumes nothing.
use Rattle.std.specs.Prelude.{Some, None}
use mathlib.Core.Path.{sym, ◌∙◌}
use native.Mathlib.Omega.{arith}
use Rattle.records.proofs.Headers.{width_is}
use Rattle.fields.proofs.Parts.{nothing_wrote}
use Rattle.fields.proofs.Placed.{wrote_as}
use Rattle.writer.proofs.Progress.{header_is}
use Rattle.writer.proofs.record.write_header.Goals as goal

pub write_values-requires : goal.write_values-requires
write_values-requires c =
    omega (arith, c.requires, width_is c.args.header.mark (Some c.in-Some.format) (sym c.format_of.ensures ∙ c.in-Some.is))

pub returns-in-Some : goal.returns-in-Some
returns-in-Some c =
    let a = c.args in
    wrote_as (header_is a.header (Some c.in-Some.format) (sym c.format_of.ensures ∙ c.in-Some.is)) c.write_values.ensures

pub returns-in-None : goal.returns-in-None
returns-in-None c =
    let a = c.args in
    wrote_as (header_is a.header None (sym c.format_of.ensures ∙ c.in-None.is)) (nothing_wrote a.out.now 0)
