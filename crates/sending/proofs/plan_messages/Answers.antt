-- `sending::plan_messages` meets its contract, by the law of a plan of two nodes. Assumes nothing.
use Rattle.sending.proofs.Planned.{ready, both_planned}
use Rattle.sending.proofs.plan_messages.Goals as goal

pub add_node-first-requires : goal.add_node-first-requires
add_node-first-requires c = (rw c.new-plan.ensures (ready c.requires.0), c.requires.0.first_node)

pub returns : goal.returns
returns c =
    rw c.copy_from_slice.ensures.after (both_planned c.requires.0 (rw c.new-plan.ensures at c.add_node-first.ensures) c.add_node-last.ensures)
