-- `fields::write_names` meets its contract, with a run and without. Assumes nothing.
use mathlib.Core.Path.{sym, ap, subst}
use native.Mathlib.Omega.{arith}
use Rattle.fields.specs.Fields.{names_text}
use Rattle.fields.specs.Lengths.{NarrowNames}
use Rattle.fields.proofs.Lengths.{names_short}
use Rattle.fields.proofs.Placed.{wrote_as}
use Rattle.std.proofs.Common.{rules}
use Rattle.fields.proofs.write_names.Goals as goal

pub returns-in-Some : goal.returns-in-Some
unfolding names_text
returns-in-Some c =
    let e = c.in-Some.is in
    let w = wrote_as (sym (ap names_text e)) c.write_field.ensures.0 in
    (w, omega (arith, w.offset, names_short c.args.names (subst NarrowNames (sym e) (search rules))))

pub returns-in-None : goal.returns-in-None
unfolding names_text
returns-in-None c =
    let w = c.write_text.ensures in
    (wrote_as (sym (ap names_text c.in-None.is)) w, omega (arith, w.offset))
