-- `marks::mark` meets its contract: the mask of bit j is 2 ^ j. Assumes nothing.
use mathlib.Core.Path.{ap, ◌∙◌}
use Prim.Native.Nat.{ℕ, ◌/◌, ◌%◌}
use native.Mathlib.Nat.{one-mul}
use native.Mathlib.Omega.{arith}
use lib.Bits.{bit_or}
use lib.Dec.{lit<}
use lib.ListN.{get_or, set}
use lib.Pow.{shl_exact}
use Rattle.marks.specs.Bits.{set_bit}
use Rattle.marks.specs.Marks.{with_mark}
use Rattle.marks.proofs.mark.Goals as goal

pub returns : goal.returns
unfolding with_mark set_bit
returns c =
    let a = c.args in
    ap (λ (m : ℕ). set a.set.now (a.i / 64) (bit_or (get_or a.set.now (a.i / 64) 0) m))
    (shl_exact 1 (a.i % 64) 64 (lit< tt) (omega arith) ∙ one-mul _)
