-- `analysis::saturate::decrypt_under` meets its contract. The invariant: the walk along the chain has come to e. Assumes nothing.
use Rattle.analysis.proofs.Along.{Along}
use Rattle.analysis.proofs.saturate.decrypt_under.Given as goal

abbrev pub invariant-loop-e : goal.invariant-loop-e
invariant-loop-e l = Along l.terms l.count l.k l.initial.found l.found l.e

abbrev pub decreases-loop-e : goal.decreases-loop-e
decreases-loop-e l = l.e
