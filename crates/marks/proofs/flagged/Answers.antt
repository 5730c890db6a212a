-- `marks::flagged` meets its contract: a word has no bits at its width and above. Assumes nothing.
use mathlib.Core.Path.{sym, ap, ◌∙◌}
use Prim.Native.Nat.{ℕ, ◌/◌, ◌^◌}
use native.Mathlib.Omega.{arith}
use borrow.Author.Tests.{ne_eqb}
use lib.Bits.{and_mask}
use lib.Dec.{eqb}
use Rattle.std.proofs.lemmas.Bool.{le-ltb}
use Rattle.marks.specs.Bits.{bit}
use Rattle.marks.proofs.Bits.{bit_past}
use Rattle.marks.specs.Marks.{is_set}
use Rattle.marks.proofs.flagged.Goals as goal

pub returns-else-p-lt32 : goal.returns-else-p-lt32
unfolding is_set
returns-else-p-lt32 c =
    let a = c.args in
    le-ltb _ _ (omega arith) ∙ sym (ne_eqb (bit a.flags a.p) 1 (λ e. omega (arith, bit_past 32 a.flags a.p (omega arith) (omega arith))))

pub returns-then-p-lt32 : goal.returns-then-p-lt32
unfolding is_set bit
returns-then-p-lt32 c = ap (λ (b : ℕ). eqb b 1) (and_mask (c.args.flags / 2 ^ c.args.p) 1)
