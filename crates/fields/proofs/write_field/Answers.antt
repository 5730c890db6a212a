-- `fields::write_field` meets its contract: a text and a number, one after the other. Assumes nothing.
use Rattle.fields.proofs.Placed.{joined}
use native.Mathlib.Omega.{arith}
use Rattle.fields.proofs.write_field.Goals as goal

pub returns : goal.returns
returns c =
    let text = c.write_text-next.ensures in
    let number = c.write_number.ensures in
    (joined (omega (arith, c.requires)) text number.0, omega (arith, text.offset, number.1))
