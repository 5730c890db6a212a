-- `sending::write_messages` meets its contract, by the law for each way out. Assumes nothing.
use mathlib.Core.Path.{ap, ◌∙◌}
use native.Mathlib.Omega.{arith}
use lib.ListN.{length}
use Rattle.marks.proofs.Marks.{with_length}
use Rattle.sending.proofs.Planned.{two_fit, two_marked, none_marked}
use Rattle.sending.proofs.write_messages.Goals as goal

pub mark-requires : goal.mark-requires
mark-requires c =
    omega (arith, c.requires.1, (two_fit c.in-Some.is c.requires.4).0)

pub mark-requires-in-Some : goal.mark-requires-in-Some
mark-requires-in-Some c =
    let same = ap length c.mark.ensures ∙ with_length c.args.wire.now _ ∙ c.requires.1 in
    omega (arith, same, (two_fit c.in-Some.is c.requires.4).1)

pub returns-in-Some : goal.returns-in-Some
returns-in-Some c = (c.write_plan.ensures, two_marked c.in-Some.is c.args.wire.now c.mark.ensures c.mark-in-Some.ensures)

pub returns-in_default : goal.returns-in_default
returns-in_default c = (c.write_plan.ensures, none_marked c.in_default.is _)
