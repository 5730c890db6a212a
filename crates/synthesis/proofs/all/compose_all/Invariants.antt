-- `synthesis::all::compose_all` meets its contract. The invariant: all that can be derived of the first t terms is found.
-- Assumes nothing.
use Prim.Native.Nat.{◌-◌, ◌≤◌}
use Rattle.synthesis.specs.All.{FoundTo}
use Rattle.synthesis.proofs.all.compose_all.Given as goal

abbrev pub invariant-loop-t : goal.invariant-loop-t
invariant-loop-t l = (l.t ≤ l.count) × FoundTo l.who.n l.who.flags l.terms l.count l.initial.known.wire l.t l.known

abbrev pub decreases-loop-t : goal.decreases-loop-t
decreases-loop-t l = l.count - l.t
