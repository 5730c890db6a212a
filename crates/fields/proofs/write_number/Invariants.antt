-- `fields::write_number` meets its contract: with the digits of the rest, the buffer is what it is to be. The measure is the rest.
-- Assumes nothing.
use mathlib.Core.Path.{◌≡◌}
use Prim.Native.Nat.{◌+◌, ◌≤◌}
use lib.ListN.{length}
use Rattle.fields.specs.Fields.{decimal}
use Rattle.fields.specs.Placed.{placed}
use Rattle.fields.proofs.write_number.Given as goal

abbrev pub invariant-loop-rest : goal.invariant-loop-rest
invariant-loop-rest l =
    (length l.out ≡ length l.initial.out) × (l.first ≡ l.at + length (decimal l.rest)) × (l.first ≤ l.at + 10) × (placed l.out l.at (decimal l.rest) ≡ placed l.initial.out l.at (decimal l.number))

abbrev pub decreases-loop-rest : goal.decreases-loop-rest
decreases-loop-rest l = l.rest
