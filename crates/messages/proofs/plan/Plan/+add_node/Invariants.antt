-- The proof of the cycle of calls {add_node}: each way out cites its law. The measure is the node's number. Assumes nothing.
-- ---- what is known on the way
use Rattle.messages.proofs.plan.Plan.+add_node.Given as goal

abbrev pub decreases-add_node : goal.decreases-add_node
decreases-add_node l = l.k
