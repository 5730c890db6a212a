-- `analysis::saturate::explore` meets its contract. The invariant: `done` terms of the list have been looked at. Assumes nothing.
use Prim.Native.Nat.{◌-◌}
use Rattle.analysis.proofs.Explore.{Exploring}
use Rattle.analysis.proofs.saturate.explore.Given as goal

abbrev pub invariant-loop-done : goal.invariant-loop-done
invariant-loop-done l = Exploring l.who.n l.who.flags l.terms l.count l.initial.found.known l.found l.done

abbrev pub decreases-loop-done : goal.decreases-loop-done
decreases-loop-done l = 512 - l.done
