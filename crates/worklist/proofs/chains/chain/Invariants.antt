-- `worklist::chains::chain` meets its contract. The invariant: the chains of the terms below i stand. Assumes nothing.
use mathlib.Core.Path.{◌≡◌}
use Rattle.worklist.specs.Chains.{chains_of}
use Rattle.worklist.proofs.chains.chain.Given as goal

abbrev pub invariant-loop-i : goal.invariant-loop-i
invariant-loop-i l = l.chains ≡ chains_of l.terms l.i l.initial.chains
