-- The measure of `synthesis::compose::compose` is the term's number: each operand is an earlier term. Assumes nothing.
use Rattle.synthesis.proofs.compose.+compose.Given as goal

abbrev pub decreases-compose : goal.decreases-compose
decreases-compose l = l.t
