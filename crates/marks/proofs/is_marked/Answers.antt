-- `marks::is_marked` meets its contract: the word shifted down and masked is the bit. Assumes nothing.
use mathlib.Core.Path.{ap}
use Prim.Native.Nat.{ℕ, ◌/◌, ◌%◌, ◌^◌}
use lib.Bits.{and_mask}
use lib.Dec.{eqb}
use lib.ListN.{get_or}
use Rattle.marks.specs.Bits.{bit}
use Rattle.marks.specs.Marks.{marked, mark}
use Rattle.marks.proofs.is_marked.Goals as goal

pub returns : goal.returns
unfolding marked mark bit
returns c =
    let a = c.args in
    ap (λ (b : ℕ). eqb b 1) (and_mask (get_or a.set.now (a.i / 64) 0 / 2 ^ (a.i % 64)) 1)
