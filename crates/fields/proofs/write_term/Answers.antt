-- `fields::write_term` meets its contract: the number, and the text after it. Assumes nothing.
use Prim.Native.Nat.{◌≤◌}
use native.Mathlib.Omega.{arith}
use lib.ListN.{length}
use Rattle.fields.proofs.Placed.{joined}
use Rattle.fields.proofs.write_term.Goals as goal

pub returns : goal.returns
returns c =
    let fits : c.args.at ≤ length c.args.out.now = omega (arith, c.requires) in
    joined fits c.write_number-next.ensures.0 c.write_text.ensures
